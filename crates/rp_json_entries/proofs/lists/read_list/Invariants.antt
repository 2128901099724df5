use Rattle.std.proofs.Common.{map, take}
use Rattle.serde_json.specs.View.{view}
use Rattle.rp_json_entries.proofs.ListLemmas.{AreSoFar}
use Rattle.rp_json_entries.proofs.lists.read_list.Given as goal

abbrev pub invariant-loop-value : goal.invariant-loop-value
invariant-loop-value g l = AreSoFar g.N.Notation.value_of g.N.Notation.fits (map view (take l.value-index l.values)) l.entries.items
