use Rattle.std.proofs.Common.{◌≡◌, map, take}
use Rattle.serde_json.specs.View.{view}
use Rattle.rp_json_entries.specs.Values.{count_value}
use Rattle.rp_json_indices.specs.PlacesValue.{place_numbers}
use Rattle.rp_json_indices.proofs.places.places_array.Given as goal

abbrev pub invariant-loop-s : goal.invariant-loop-s
invariant-loop-s l = map view l.values.items ≡ map count_value (place_numbers 0 (take l.s l.at))
