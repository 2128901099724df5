use Rattle.std.proofs.Common.{◌<◌, Ok, Err, length, arith, below_more, slice_index_or}
use Rattle.rp_evidence.specs.Input.{input_of_table}
use Rattle.rp_check_goodness.specs.FitVerdict.{FitItemFailsAt}
use Rattle.rp_check_goodness.proofs.SoundFit.{at_place, item_proves}
use Rattle.rp_check_levels.proofs.Sound.{cost_positive}
use Rattle.rp_check_goodness.proofs.certificate.check_fit.Goals as goal

pub returns-in-Err-clause-first_failure : goal.returns-in-Err-clause-first_failure
returns-in-Err-clause-first_failure c = (
  c.loop-k.k,
  omega arith,
  c.cap.ensures,
  at_place (input_of_table c.args.input.now.table.now) c.args.items.now c.loop-k.k c.index-items-k.result (omega arith) c.index-items-k.is (Err c.in-Err.found) c.in-Err.ensures,
  c.loop-k.invariant,
)

pub loop-k-preserved : goal.loop-k-preserved
loop-k-preserved c =
    let input = input_of_table c.args.input.now.table.now in
    let items = c.args.items.now in
    let within : c.loop-k.k < length items = omega arith in
    below_more (λ j. FitItemFailsAt input items j (Ok tt)) c.loop-k.k c.loop-k.invariant
    (at_place input items c.loop-k.k c.index-items-k.result within c.index-items-k.is (Ok tt) c.in_default.ensures)

pub returns-clause-accepted_proves : goal.returns-clause-accepted_proves
returns-clause-accepted_proves c = λ is k d within.
    let input = c.args.input.now in
    item_proves (input_of_table input.table.now) (cost_positive input.costs.now input.table.now c.n.ensures.valid input.same) (slice_index_or c.args.items.now k d)
    (c.loop-k.invariant k (omega arith) d)
