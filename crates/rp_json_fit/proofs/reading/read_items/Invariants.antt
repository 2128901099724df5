use Rattle.std.proofs.Common.{◌≡◌, ◌-◌, ◌^◌, min, map, take}
use Rattle.serde_json.specs.View.{view}
use Rattle.rp_json_fit.specs.FitLimits.{FitsItem}
use Rattle.rp_json_fit.specs.FitValue.{fit_item_value}
use Rattle.rp_json_entries.proofs.ListLemmas.{AreSoFar}
use Rattle.rp_json_fit.proofs.reading.read_items.Given as goal

abbrev pub invariant-loop-value : goal.invariant-loop-value
invariant-loop-value l = record {
  counted : l.number ≡ min l.value-index (2 ^ 32 - 1);
  so_far : AreSoFar fit_item_value FitsItem (map view (take l.value-index l.values)) l.items.items;
}
