use Rattle.std.proofs.Common.{All, IfOk, List, subst, ℕ}
use Rattle.serde_json.specs.View.{view}
use Rattle.rp_json_entries.specs.Reading.{FitObservations, FitsCount, IsFound}
use Rattle.rp_json_entries.specs.Values.{counts_value}
use Rattle.rp_json_indices.specs.PlacesValue.{place_numbers}
use Rattle.rp_json_indices.proofs.PlacesReads.{no_numbers, numbers_found}
use Rattle.rp_json_indices.proofs.places.PlacesNotation.read.Goals as goal

pub returns-in-Some : goal.returns-in-Some
returns-in-Some c =
    numbers_found (view c.args.value.now) c.in-Some.numbers c.places_of.result (subst (IsFound counts_value (All FitsCount) (view c.args.value.now)) c.in-Some.is c.in_ok-numbers.ensures)
    (subst (λ (l : List ℕ). IfOk c.places_of.result (λ o. IsFound (place_numbers 0) FitObservations l o)) c.as_slice.ensures c.places_of.ensures)

pub returns-in-None : goal.returns-in-None
returns-in-None c = no_numbers (view c.args.value.now) (subst (IsFound counts_value (All FitsCount) (view c.args.value.now)) c.in-None.is c.in_ok-numbers.ensures)
