use Rattle.std.proofs.Common.{◌<◌, ◌||◌, ◌∙◌, Ok, Err, length, arith, ap, below_more, slice_index_or, sym, take}
use Rattle.rp_evidence.specs.Input.{input_of_table}
use Rattle.rp_check.specs.CheckVerdict.{ItemFailsAt}
use Rattle.rp_check.specs.ItemFailure.{one_shows_garp}
use Rattle.rp_people.proofs.FullTables.{table_is_full}
use Rattle.rp_people.proofs.SaysOfItems.{all_say}
use Rattle.rp_check.proofs.SoundItems.{all_prove, at_place, item_priced, shown_more}
use Rattle.rp_check.proofs.certificate.check_items.Goals as goal

pub returns-in-Err-clause-first_failure : goal.returns-in-Err-clause-first_failure
returns-in-Err-clause-first_failure c = (
  c.loop-k.k,
  omega arith,
  c.cap.ensures,
  at_place (input_of_table c.args.table.now) c.args.items.now c.loop-k.k c.index-items-k.result c.loop-k.garp_shown
      (omega arith) c.index-items-k.is c.loop-k.invariant.0
      (Err c.in-Err.found) (rw c.new-input.ensures.of at c.in-Err.ensures),
  c.loop-k.invariant.1,
)

pub loop-k-preserved : goal.loop-k-preserved
loop-k-preserved c =
    let input = input_of_table c.args.table.now in
    let items = c.args.items.now in
    let k = c.loop-k.k in
    let within : k < length items = omega arith in
    let is = c.index-items-k.is in (
      ap (λ b. c.loop-k.garp_shown || b) c.shows_garp-garp_shown.ensures
          ∙ sym (shown_more input items k c.index-items-k.result c.loop-k.garp_shown within is c.loop-k.invariant.0),
      below_more (λ j. ItemFailsAt input items j (Ok tt)) k c.loop-k.invariant.1
          (at_place input items k c.index-items-k.result c.loop-k.garp_shown within is c.loop-k.invariant.0
          (Ok tt) (rw c.new-input.ensures.of at c.in_default.ensures)),
    )

pub returns-clause-accepted_proves : goal.returns-clause-accepted_proves
returns-clause-accepted_proves c = λ is k d within.
    (all_prove (input_of_table c.args.table.now) c.new-input.ensures.positive c.args.items.now c.requires.kinds
    (length c.args.items.now) (omega arith)
    (λ j below. c.loop-k.invariant.1 j (omega arith))).0 k d within

pub returns-clause-accepted_says : goal.returns-clause-accepted_says
returns-clause-accepted_says c = λ is.
    all_say (input_of_table c.args.table.now) (table_is_full c.args.table.now c.n.ensures.valid) c.args.items.now
    (λ k d within.
    (all_prove (input_of_table c.args.table.now) c.new-input.ensures.positive c.args.items.now c.requires.kinds
    (length c.args.items.now) (omega arith)
    (λ j below. c.loop-k.invariant.1 j (omega arith))).0 k d within)

pub returns-clause-accepted_prices : goal.returns-clause-accepted_prices
returns-clause-accepted_prices c = λ is k d within.
    item_priced (input_of_table c.args.table.now) (one_shows_garp (take k c.args.items.now)) (slice_index_or c.args.items.now k d)
    (c.loop-k.invariant.1 k (omega arith) d)
