-- What is read of a verdict of the quasilinear test (this program's own format).
use Rattle.std.proofs.Common.{◌≡◌, ℕ, ℤ, List, All, Some, None, sym, ap, ◌∙◌, arith}
use Rattle.std.specs.Prelude.{⊤}
use Rattle.serde_json.specs.Data.{Data}
use Rattle.rp_num.specs.Spelled.{FitsSum}
use Rattle.rp_evidence.specs.declared.quasilinear.Quasi.{Quasi}
use Rattle.rp_evidence.specs.declared.quasilinear.Quasi.TheVariants.{Values, Cycle}
use Rattle.rp_json_tests.specs.QuasilinearValue.{quasilinear_value}
use Rattle.rp_json_entries.specs.Reading.{FitObservations, IsFound}
use Rattle.rp_json_tests.specs.Limits.{FitsQuasilinear}
use Rattle.rp_json_entries.proofs.ShapeDifferences.{differ, first_letter}

abbrev pub Form_values : Type 0
Form_values = (Unit {0}) × ((List ℤ) × (Unit {0}))

abbrev pub made_values : Form_values → Quasi
made_values x = Values (x.1.0)

abbrev pub value_values : Form_values → Data
value_values x = quasilinear_value (made_values x)

abbrev pub Fits_values : Form_values → Type 0
Fits_values x = (⊤) × ((All FitsSum x.1.0) × (⊤))

abbrev pub Form_cycle : Type 0
Form_cycle = (List ℕ) × ((Unit {0}) × (Unit {0}))

abbrev pub made_cycle : Form_cycle → Quasi
made_cycle x = Cycle (x.0)

abbrev pub value_cycle : Form_cycle → Data
value_cycle x = quasilinear_value (made_cycle x)

abbrev pub Fits_cycle : Form_cycle → Type 0
Fits_cycle x = (FitObservations x.0) × ((⊤) × (⊤))

pub found_values : (d : Data) (x : Form_values) → IsFound value_values Fits_values d (Some x) → IsFound quasilinear_value FitsQuasilinear d (Some (made_values x))
found_values d x r = (r.0, r.1.1.0, only)
  where
    only : (y : Quasi) → FitsQuasilinear y → quasilinear_value y ≡ d → y ≡ made_values x
    only (Values values') h e = ap made_values (r.2 (tt, (values', tt)) (tt, (h, tt)) e)
    only (Cycle cycle') h e = absurd (differ first_letter _ _ (e ∙ sym r.0) (λ q. omega (arith, q)))

pub found_cycle : (d : Data) (x : Form_cycle) → IsFound value_values Fits_values d None → IsFound value_cycle Fits_cycle d (Some x) → IsFound quasilinear_value FitsQuasilinear d (Some (made_cycle x))
found_cycle d x no_values r = (r.0, r.1.0, only)
  where
    only : (y : Quasi) → FitsQuasilinear y → quasilinear_value y ≡ d → y ≡ made_cycle x
    only (Values values') h e = absurd (no_values (tt, (values', tt)) (tt, (h, tt)) e)
    only (Cycle cycle') h e = ap made_cycle (r.2 (cycle', (tt, tt)) (h, (tt, tt)) e)

pub found_none : (d : Data) → IsFound value_values Fits_values d None → IsFound value_cycle Fits_cycle d None → IsFound quasilinear_value FitsQuasilinear d None
found_none d no_values no_cycle (Values values') h e = no_values (tt, (values', tt)) (tt, (h, tt)) e
found_none d no_values no_cycle (Cycle cycle') h e = no_cycle (cycle', (tt, tt)) (h, (tt, tt)) e
