use Rattle.rp_json_indices.proofs.PlacesReads.{AreUpTo}
use Rattle.rp_json_indices.proofs.places.places_of.Given as goal

abbrev pub invariant-loop-s : goal.invariant-loop-s
invariant-loop-s l = AreUpTo l.numbers l.s l.at.items
