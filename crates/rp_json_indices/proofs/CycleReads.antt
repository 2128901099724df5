-- What is read of a closed walk with its weight (this program's own format).
use Rattle.std.proofs.Common.{◌≡◌, ℕ, List, Some, None, ap}
use Rattle.std.specs.Prelude.{⊤}
use Rattle.serde_json.specs.Data.{Data}
use Rattle.rp_fit.specs.declared.weighted.WeightedWalk.{WeightedWalk}
use Rattle.rp_json_indices.specs.CycleValue.{cycle_value}
use Rattle.rp_json_entries.specs.Reading.{FitObservations, FitsLong, IsFound}
use Rattle.rp_json_indices.specs.Limits.{FitsCycle}

abbrev pub Form : Type 0
Form = (List ℕ) × ((ℕ) × (Unit {0}))

abbrev pub made : Form → WeightedWalk
made x = record { weight = x.1.0; walk = x.0 }

abbrev pub value_made : Form → Data
value_made x = cycle_value (made x)

abbrev pub Fits_made : Form → Type 0
Fits_made x = (FitObservations x.0) × ((FitsLong x.1.0) × (⊤))

pub found_one : (d : Data) (x : Form) → IsFound value_made Fits_made d (Some x) → IsFound cycle_value FitsCycle d (Some (made x))
found_one d x r = (r.0, (r.1.0, r.1.1.0), only)
  where
    only : (y : WeightedWalk) → FitsCycle y → cycle_value y ≡ d → y ≡ made x
    only y h e = ap made (r.2 (y.walk, (y.weight, tt)) (h.0, (h.1, tt)) e)

pub found_none : (d : Data) → IsFound value_made Fits_made d None → IsFound cycle_value FitsCycle d None
found_none d none y h e = none (y.walk, (y.weight, tt)) (h.0, (h.1, tt)) e
