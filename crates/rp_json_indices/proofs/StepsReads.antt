-- What is read of evidence: the minimum cost of steps (this program's own format).
use Rattle.std.proofs.Common.{◌≡◌, ℕ, List, All, Some, None, ap}
use Rattle.std.specs.Prelude.{⊤}
use Rattle.serde_json.specs.Data.{Data}
use Rattle.rp_num.specs.Spelled.{FitsWhole}
use Rattle.rp_fit.specs.declared.steps.StepsPart.{StepsPart}
use Rattle.rp_fit.specs.declared.weighted.WeightedWalk.{WeightedWalk}
use Rattle.rp_json_indices.specs.StepsValue.{steps_value}
use Rattle.rp_json_entries.specs.Reading.{FitObservations, FitsCount, FitsLong, IsFound}
use Rattle.rp_json_indices.specs.Limits.{FitsSteps, FitsCycle}

abbrev pub Form : Type 0
Form = (ℕ) × ((List WeightedWalk) × ((ℕ) × ((Unit {0}) × ((List ℕ) × ((List (List ℕ)) × (Unit {0}))))))

abbrev pub made : Form → StepsPart
made x = record { taken = x.1.1.1.1.1.0; cost = x.0; ranks = x.1.1.1.1.0; den = x.1.1.0; walks = x.1.0 }

abbrev pub value_made : Form → Data
value_made x = steps_value (made x)

abbrev pub Fits_made : Form → Type 0
Fits_made x = (FitsWhole x.0) × ((All FitsCycle x.1.0) × ((FitsLong x.1.1.0) × ((⊤) × ((All FitsCount x.1.1.1.1.0) × ((All FitObservations x.1.1.1.1.1.0) × (⊤))))))

pub found_one : (d : Data) (x : Form) → IsFound value_made Fits_made d (Some x) → IsFound steps_value FitsSteps d (Some (made x))
found_one d x r = (r.0, (r.1.0, r.1.1.0, r.1.1.1.0, r.1.1.1.1.1.0, r.1.1.1.1.1.1.0), only)
  where
    only : (y : StepsPart) → FitsSteps y → steps_value y ≡ d → y ≡ made x
    only y h e = ap made (r.2 (y.cost, (y.walks, (y.den, (tt, (y.ranks, (y.taken, tt)))))) (h.0, (h.1, (h.2, (tt, (h.3, (h.4, tt)))))) e)

pub found_none : (d : Data) → IsFound value_made Fits_made d None → IsFound steps_value FitsSteps d None
found_none d none y h e = none (y.cost, (y.walks, (y.den, (tt, (y.ranks, (y.taken, tt)))))) (h.0, (h.1, (h.2, (tt, (h.3, (h.4, tt)))))) e
