use Rattle.std.proofs.Common.{ℕ}
use Rattle.rp_evidence.specs.Efficiency.{FailsGarp}
use Rattle.rp_evidence.specs.Preference.{AgreeBelow}
use Rattle.rp_evidence.proofs.SameCosts.{agree_back, violation_same}
use Rattle.rp_pump.proofs.SamePumps.{holds_same, index_same, totals_same}
use Rattle.rp_fit.specs.declared.pump.PumpPart.{PumpPart}
use Rattle.rp_table.specs.Cost.{cost_at, cost_of}
use Rattle.rp_answers.specs.PumpText.{IsPumpAnswer}
use Rattle.rp_answers.proofs.pump.pump_text.Goals as goal

fails_same : (n : ℕ) (c d : ℕ → ℕ → ℕ) → AgreeBelow n c d → FailsGarp n c → FailsGarp n d
fails_same n c d same fails = (fails.0, violation_same n c d 1 1 same fails.0 fails.1)

pump_answer_same : (n : ℕ) (c d : ℕ → ℕ → ℕ) (part : PumpPart) → AgreeBelow n c d → IsPumpAnswer n c part → IsPumpAnswer n d part
pump_answer_same n c d part same answer = record {
  index = index_same n c d same part.num part.den answer.index;
  lowest_terms = answer.lowest_terms;
  least = totals_same n c d same part answer.least;
  accepted = holds_same n c d same part answer.accepted;
  resting = answer.resting;
  garp = (λ positive. fails_same n c d same (answer.garp.0 positive), λ fails. answer.garp.1 (fails_same n d c (agree_back n c d same) fails));
}

pub returns : goal.returns
returns c =
    let is = c.in_ok-costs.ensures in
    let n = c.in_ok-costs.costs.n in
    let here = cost_at c.in_ok-costs.costs in
    let there = cost_of c.args.table.now in
    let part = c.in_ok-part.part in
    let given = c.in_ok-part.ensures in
    let same : AgreeBelow n here there = λ s t s_in t_in. is.each s t (rw is.size at s_in) (rw is.size at t_in) in (
      part,
      rw (← is.size) (pump_answer_same n here there part same (record {
        index = given.index;
        lowest_terms = given.lowest_terms;
        least = given.least;
        accepted = given.accepted;
        resting = given.resting;
        garp = given.garp;
      })),
      c.in_ok-text.ensures,
    )
