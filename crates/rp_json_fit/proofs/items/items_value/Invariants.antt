use Rattle.std.proofs.Common.{◌≡◌, map, take}
use Rattle.serde_json.specs.View.{view}
use Rattle.rp_json_fit.specs.FitValue.{fit_item_value}
use Rattle.rp_json_fit.proofs.items.items_value.Given as goal

abbrev pub invariant-loop-item : goal.invariant-loop-item
invariant-loop-item l = map view l.values.items ≡ map fit_item_value (take l.item-index l.items)
