use Rattle.std.proofs.Common.{◌≡◌, map, take}
use Rattle.serde_json.specs.View.{view}
use Rattle.rp_json_entries.specs.InnerMembers.{views}
use Rattle.rp_json_entries.proofs.objects.read_array.Given as goal

abbrev pub invariant-loop-item : goal.invariant-loop-item
invariant-loop-item g l = views l.values.items ≡ map view (take l.item-index l.item-items)
