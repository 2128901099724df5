use Rattle.std.proofs.Common.{◌≡◌, arith, subst}
use Rattle.std.proofs.lemmas.Bool.{false≢true}
use Rattle.std.proofs.Common.{sym, ◌∙◌}
use Rattle.rp_evidence.specs.Count.{IsNumberOf}
use Rattle.rp_evidence.specs.Input.{input_of_table}
use Rattle.rp_table.specs.Tables.{records_of}
use Rattle.rp_check_fit.specs.Axioms.{IsPairOf}
use Rattle.rp_check_fit.proofs.CountedPairs.{number_at_start, number_with, number_without}
use Rattle.rp_check_fit.proofs.pair_counts.count_seconds.Goals as goal
use Rattle.rp_check_fit.proofs.pair_counts.count_seconds.Goals.{then-is_pair, else-is_pair}

pub loop-t-init : goal.loop-t-init
loop-t-init c = (number_at_start (IsPairOf (input_of_table c.args.input.now.table.now) c.args.which c.args.s), omega arith)

pub loop-t-preserved : goal.loop-t-preserved
loop-t-preserved c =
    let P = IsPairOf (input_of_table c.args.input.now.table.now) c.args.which c.args.s in
    elim c.if-is_pair.branch [
      | then-is_pair w ↦ (number_with P c.loop-t.t c.loop-t.count c.if-is_pair.count c.loop-t.invariant.0 (c.is_pair.ensures.0 w.if-is_pair.true) w.count-is, omega arith)
      | else-is_pair w ↦
          (number_without P c.loop-t.t c.loop-t.count c.if-is_pair.count c.loop-t.invariant.0 (λ h. false≢true (sym w.if-is_pair.false ∙ c.is_pair.ensures.1 h)) w.count-is, omega arith)
    ]

pub returns-clause-number : goal.returns-clause-number
returns-clause-number c =
    let table = c.args.input.now.table.now in
    let e : c.loop-t.t ≡ records_of table = omega arith in
    subst (λ k. IsNumberOf k (IsPairOf (input_of_table table) c.args.which c.args.s) c.loop-t.count) e c.loop-t.invariant.0
