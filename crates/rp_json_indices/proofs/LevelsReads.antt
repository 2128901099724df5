-- What is read of evidence: levels of the observations' own (this program's own format).
use Rattle.std.proofs.Common.{◌≡◌, ℕ, List, All, Some, None, ap}
use Rattle.std.specs.Prelude.{⊤}
use Rattle.serde_json.specs.Data.{Data}
use Rattle.rp_fit.specs.declared.levels.LevelsPart.{LevelsPart}
use Rattle.rp_fit.specs.declared.weighted.WeightedWalk.{WeightedWalk}
use Rattle.rp_fit.specs.declared.levels.Lack.{Lack}
use Rattle.rp_json_indices.specs.LevelsValue.{levels_value}
use Rattle.rp_json_entries.specs.Reading.{FitObservations, FitsCount, FitsLong, IsFound}
use Rattle.rp_json_indices.specs.Limits.{FitsLevels, FitsCycle}

abbrev pub Form : Type 0
Form = (List ℕ) × ((List WeightedWalk) × ((ℕ) × ((Unit {0}) × ((Lack) × ((List ℕ) × (Unit {0}))))))

abbrev pub made : Form → LevelsPart
made x = record { lack = x.1.1.1.1.0; at = x.0; ranks = x.1.1.1.1.1.0; den = x.1.1.0; walks = x.1.0 }

abbrev pub value_made : Form → Data
value_made x = levels_value (made x)

abbrev pub Fits_made : Form → Type 0
Fits_made x = (FitObservations x.0) × ((All FitsCycle x.1.0) × ((FitsLong x.1.1.0) × ((⊤) × ((⊤) × ((All FitsCount x.1.1.1.1.1.0) × (⊤))))))

pub found_one : (d : Data) (x : Form) → IsFound value_made Fits_made d (Some x) → IsFound levels_value FitsLevels d (Some (made x))
found_one d x r = (r.0, (r.1.0, r.1.1.0, r.1.1.1.0, r.1.1.1.1.1.1.0), only)
  where
    only : (y : LevelsPart) → FitsLevels y → levels_value y ≡ d → y ≡ made x
    only y h e = ap made (r.2 (y.at, (y.walks, (y.den, (tt, (y.lack, (y.ranks, tt)))))) (h.0, (h.1, (h.2, (tt, (tt, (h.3, tt)))))) e)

pub found_none : (d : Data) → IsFound value_made Fits_made d None → IsFound levels_value FitsLevels d None
found_none d none y h e = none (y.at, (y.walks, (y.den, (tt, (y.lack, (y.ranks, tt)))))) (h.0, (h.1, (h.2, (tt, (tt, (h.3, tt)))))) e
