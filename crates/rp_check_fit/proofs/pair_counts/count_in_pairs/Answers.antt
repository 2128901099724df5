use Rattle.std.proofs.Common.{◌≡◌, arith, subst, sym, ◌∙◌}
use Rattle.std.proofs.lemmas.Bool.{false≢true}
use Rattle.rp_evidence.specs.Count.{IsNumberOf}
use Rattle.rp_evidence.specs.Input.{input_of_table}
use Rattle.rp_fit.specs.Violations.{IsInGarpPair}
use Rattle.rp_table.specs.Tables.{records_of}
use Rattle.rp_check_fit.proofs.CountedPairs.{number_at_start, number_with, number_without}
use Rattle.rp_check_fit.proofs.pair_counts.count_in_pairs.Goals as goal
use Rattle.rp_check_fit.proofs.pair_counts.count_in_pairs.Goals.{then-is_in_pair, else-is_in_pair}

pub loop-s-init : goal.loop-s-init
loop-s-init c = (number_at_start (IsInGarpPair (input_of_table c.args.input.now.table.now)), omega arith)

pub loop-s-preserved : goal.loop-s-preserved
loop-s-preserved c =
    let P = IsInGarpPair (input_of_table c.args.input.now.table.now) in
    elim c.if-is_in_pair.branch [
      | then-is_in_pair w ↦ (number_with P c.loop-s.s c.loop-s.count c.if-is_in_pair.count c.loop-s.invariant.0 (c.is_in_pair.ensures.0 w.if-is_in_pair.true) w.count-is, omega arith)
      | else-is_in_pair w ↦
          (number_without P c.loop-s.s c.loop-s.count c.if-is_in_pair.count c.loop-s.invariant.0 (λ h. false≢true (sym w.if-is_in_pair.false ∙ c.is_in_pair.ensures.1 h)) w.count-is, omega arith)
    ]

pub returns : goal.returns
returns c =
    let table = c.args.input.now.table.now in
    let e : c.loop-s.s ≡ records_of table = omega arith in
    subst (λ k. IsNumberOf k (IsInGarpPair (input_of_table table)) c.loop-s.count) e c.loop-s.invariant.0
