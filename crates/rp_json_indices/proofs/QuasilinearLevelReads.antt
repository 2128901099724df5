-- What is read of evidence: the level of the quasilinear test (this program's own format).
use Rattle.std.proofs.Common.{◌≡◌, ℕ, ℤ, List, All, Some, None, ap}
use Rattle.std.specs.Prelude.{⊤}
use Rattle.serde_json.specs.Data.{Data}
use Rattle.rp_num.specs.Spelled.{FitsSum}
use Rattle.rp_fit.specs.declared.quasilinear_level.QuasilinearLevelPart.{QuasilinearLevelPart}
use Rattle.rp_json_indices.specs.QuasilinearLevelValue.{quasilinear_level_value}
use Rattle.rp_json_entries.specs.Reading.{FitObservations, FitsLong, IsFound}
use Rattle.rp_json_indices.specs.Limits.{FitsQuasilinearLevel}

abbrev pub Form : Type 0
Form = (List ℕ) × ((ℕ) × ((Unit {0}) × ((ℕ) × ((List ℤ) × (Unit {0})))))

abbrev pub made : Form → QuasilinearLevelPart
made x = record { num = x.1.1.1.0; den = x.1.0; walk = x.0; values = x.1.1.1.1.0 }

abbrev pub value_made : Form → Data
value_made x = quasilinear_level_value (made x)

abbrev pub Fits_made : Form → Type 0
Fits_made x = (FitObservations x.0) × ((FitsLong x.1.0) × ((⊤) × ((FitsLong x.1.1.1.0) × ((All FitsSum x.1.1.1.1.0) × (⊤)))))

pub found_one : (d : Data) (x : Form) → IsFound value_made Fits_made d (Some x) → IsFound quasilinear_level_value FitsQuasilinearLevel d (Some (made x))
found_one d x r = (r.0, (r.1.0, r.1.1.0, r.1.1.1.1.0, r.1.1.1.1.1.0), only)
  where
    only : (y : QuasilinearLevelPart) → FitsQuasilinearLevel y → quasilinear_level_value y ≡ d → y ≡ made x
    only y h e = ap made (r.2 (y.walk, (y.den, (tt, (y.num, (y.values, tt))))) (h.0, (h.1, (tt, (h.2, (h.3, tt))))) e)

pub found_none : (d : Data) → IsFound value_made Fits_made d None → IsFound quasilinear_level_value FitsQuasilinearLevel d None
found_none d none y h e = none (y.walk, (y.den, (tt, (y.num, (y.values, tt))))) (h.0, (h.1, (tt, (h.2, (h.3, tt))))) e
