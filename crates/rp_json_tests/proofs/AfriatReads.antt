-- What is read of evidence by Afriat's theorem (this program's own format).
use Rattle.std.proofs.Common.{◌≡◌, ℕ, ℤ, List, All, Some, None, sym, ap, ◌∙◌, arith}
use Rattle.std.specs.Prelude.{⊤}
use Rattle.serde_json.specs.Data.{Data}
use Rattle.rp_num.specs.Spelled.{FitsSum}
use Rattle.rp_evidence.specs.declared.afriat.AfriatPart.{AfriatPart}
use Rattle.rp_evidence.specs.declared.afriat.AfriatPart.TheVariants.{Model, NoModel, Wide}
use Rattle.rp_json_tests.specs.AfriatValue.{afriat_value}
use Rattle.rp_json_entries.specs.Reading.{FitObservations, FitsLong, FitsObservation, IsFound}
use Rattle.rp_json_tests.specs.Limits.{FitsAfriat}
use Rattle.rp_json_entries.proofs.ShapeDifferences.{differ, first_letter, second_letter}

abbrev pub Form_model : Type 0
Form_model = (Unit {0}) × ((List ℕ) × ((List ℤ) × (Unit {0})))

abbrev pub made_model : Form_model → AfriatPart
made_model x = Model (record { u = (x.1.1.0); lambda = (x.1.0) })

abbrev pub value_model : Form_model → Data
value_model x = afriat_value (made_model x)

abbrev pub Fits_model : Form_model → Type 0
Fits_model x = (⊤) × ((All FitsLong x.1.0) × ((All FitsSum x.1.1.0) × (⊤)))

abbrev pub Form_cycle : Type 0
Form_cycle = (List ℕ) × ((Unit {0}) × (Unit {0}))

abbrev pub made_cycle : Form_cycle → AfriatPart
made_cycle x = NoModel (x.0)

abbrev pub value_cycle : Form_cycle → Data
value_cycle x = afriat_value (made_cycle x)

abbrev pub Fits_cycle : Form_cycle → Type 0
Fits_cycle x = (FitObservations x.0) × ((⊤) × (⊤))

abbrev pub Form_wide : Type 0
Form_wide = (Unit {0}) × ((ℕ) × (Unit {0}))

abbrev pub made_wide : Form_wide → AfriatPart
made_wide x = Wide (x.1.0)

abbrev pub value_wide : Form_wide → Data
value_wide x = afriat_value (made_wide x)

abbrev pub Fits_wide : Form_wide → Type 0
Fits_wide x = (⊤) × ((FitsObservation x.1.0) × (⊤))

pub found_model : (d : Data) (x : Form_model) → IsFound value_model Fits_model d (Some x) → IsFound afriat_value FitsAfriat d (Some (made_model x))
found_model d x r = (r.0, (r.1.1.0, r.1.1.1.0), only)
  where
    only : (y : AfriatPart) → FitsAfriat y → afriat_value y ≡ d → y ≡ made_model x
    only (Model numbers) h e = ap made_model (r.2 (tt, (numbers.lambda, (numbers.u, tt))) (tt, (h.0, (h.1, tt))) e)
    only (NoModel cycle') h e = absurd (differ first_letter _ _ (e ∙ sym r.0) (λ q. omega (arith, q)))
    only (Wide at') h e = absurd (differ second_letter _ _ (e ∙ sym r.0) (λ q. omega (arith, q)))

pub found_cycle : (d : Data) (x : Form_cycle) → IsFound value_model Fits_model d None → IsFound value_cycle Fits_cycle d (Some x) → IsFound afriat_value FitsAfriat d (Some (made_cycle x))
found_cycle d x no_model r = (r.0, r.1.0, only)
  where
    only : (y : AfriatPart) → FitsAfriat y → afriat_value y ≡ d → y ≡ made_cycle x
    only (Model numbers) h e = absurd (no_model (tt, (numbers.lambda, (numbers.u, tt))) (tt, (h.0, (h.1, tt))) e)
    only (NoModel cycle') h e = ap made_cycle (r.2 (cycle', (tt, tt)) (h, (tt, tt)) e)
    only (Wide at') h e = absurd (differ first_letter _ _ (e ∙ sym r.0) (λ q. omega (arith, q)))

pub found_wide : (d : Data) (x : Form_wide) → IsFound value_model Fits_model d None → IsFound value_cycle Fits_cycle d None → IsFound value_wide Fits_wide d (Some x) → IsFound afriat_value FitsAfriat d (Some (made_wide x))
found_wide d x no_model no_cycle r = (r.0, r.1.1.0, only)
  where
    only : (y : AfriatPart) → FitsAfriat y → afriat_value y ≡ d → y ≡ made_wide x
    only (Model numbers) h e = absurd (no_model (tt, (numbers.lambda, (numbers.u, tt))) (tt, (h.0, (h.1, tt))) e)
    only (NoModel cycle') h e = absurd (no_cycle (cycle', (tt, tt)) (h, (tt, tt)) e)
    only (Wide at') h e = ap made_wide (r.2 (tt, (at', tt)) (tt, (h, tt)) e)

pub found_none : (d : Data) → IsFound value_model Fits_model d None → IsFound value_cycle Fits_cycle d None → IsFound value_wide Fits_wide d None → IsFound afriat_value FitsAfriat d None
found_none d no_model no_cycle no_wide (Model numbers) h e = no_model (tt, (numbers.lambda, (numbers.u, tt))) (tt, (h.0, (h.1, tt))) e
found_none d no_model no_cycle no_wide (NoModel cycle') h e = no_cycle (cycle', (tt, tt)) (h, (tt, tt)) e
found_none d no_model no_cycle no_wide (Wide at') h e = no_wide (tt, (at', tt)) (tt, (h, tt)) e
