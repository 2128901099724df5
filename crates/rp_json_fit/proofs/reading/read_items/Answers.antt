use Rattle.std.proofs.Common.{arith, subst, refl, map}
use Rattle.std.proofs.lemmas.List.{take_all}
use Rattle.serde_json.specs.View.{view}
use Rattle.rp_json_fit.specs.FitLimits.{FitsItem}
use Rattle.rp_json_fit.specs.FitValue.{fit_item_value}
use Rattle.rp_json_entries.specs.Reading.{IsFound}
use Rattle.rp_json_fit.proofs.ItemListLemmas.{all_items, first_no_item}
use Rattle.rp_json_entries.proofs.ListLemmas.{AreSoFar, none_yet, one_read}
use Rattle.rp_json_fit.proofs.reading.read_items.Goals as goal

pub loop-value-init : goal.loop-value-init
loop-value-init c = record { counted = refl; so_far = rw c.in_ok-items.ensures.items (none_yet fit_item_value FitsItem) }

pub returns-in-None : goal.returns-in-None
returns-in-None c = (
  c.loop-value.value-index,
  first_no_item view c.args.values.now c.loop-value.value-index c.value-item.result c.loop-value.items.items c.loop-value-test.true c.value-item.is c.loop-value.invariant.so_far
      (subst (IsFound fit_item_value FitsItem (view c.value-item.result)) c.in-None.is c.in_ok-item.ensures),
  omega (arith, c.saturating_add-number.ensures, c.loop-value.invariant.counted),
)

pub loop-value-preserved : goal.loop-value-preserved
loop-value-preserved c = record {
  counted = omega (arith, c.saturating_add-number.ensures, c.loop-value.invariant.counted);
  so_far = one_read fit_item_value FitsItem view c.args.values.now c.loop-value.value-index c.value-item.result c.loop-value.items.items c.push.new.self.items c.in-Some.item
      c.loop-value-test.true c.value-item.is c.loop-value.invariant.so_far
      (subst (IsFound fit_item_value FitsItem (view c.value-item.result)) c.in-Some.is c.in_ok-item.ensures)
      (c.in_ok-push-in-Some.ensures.items);
}

pub returns : goal.returns
returns c =
    all_items (map view c.args.values.now) c.loop-value.items.items
    (subst (λ vs. AreSoFar fit_item_value FitsItem (map view vs) c.loop-value.items.items) (take_all c.loop-value.value-index c.args.values.now c.loop-value-test.false) c.loop-value.invariant.so_far)
