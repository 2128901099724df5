-- What is read of a verdict of the homothetic test (this program's own format).
use Rattle.std.proofs.Common.{◌≡◌, ℕ, List, All, Some, None, sym, ap, ◌∙◌, arith}
use Rattle.std.specs.Prelude.{⊤}
use Rattle.serde_json.specs.Data.{Data}
use Rattle.rp_num.specs.Fraction.{Fraction}
use Rattle.rp_num.specs.Spelled.{IsReduced}
use Rattle.rp_evidence.specs.declared.homothetic.Homothetic.{Homothetic}
use Rattle.rp_evidence.specs.declared.homothetic.Homothetic.TheVariants.{Values, Cycle, Withheld}
use Rattle.rp_json_tests.specs.HomotheticValue.{homothetic_value}
use Rattle.rp_json_entries.specs.Reading.{FitObservations, FitsCount, FitsObservation, IsFound}
use Rattle.rp_json_tests.specs.Limits.{FitsHomothetic}
use Rattle.rp_json_entries.proofs.ShapeDifferences.{differ, first_letter, second_letter}

abbrev pub Form_values : Type 0
Form_values = (Unit {0}) × ((List Fraction) × (Unit {0}))

abbrev pub made_values : Form_values → Homothetic
made_values x = Values (x.1.0)

abbrev pub value_values : Form_values → Data
value_values x = homothetic_value (made_values x)

abbrev pub Fits_values : Form_values → Type 0
Fits_values x = (⊤) × ((All IsReduced x.1.0) × (⊤))

abbrev pub Form_cycle : Type 0
Form_cycle = (List ℕ) × ((Unit {0}) × ((Fraction) × (Unit {0})))

abbrev pub made_cycle : Form_cycle → Homothetic
made_cycle x = Cycle (x.1.1.0) (x.0)

abbrev pub value_cycle : Form_cycle → Data
value_cycle x = homothetic_value (made_cycle x)

abbrev pub Fits_cycle : Form_cycle → Type 0
Fits_cycle x = (FitObservations x.0) × ((⊤) × ((IsReduced x.1.1.0) × (⊤)))

abbrev pub Form_wide : Type 0
Form_wide = (Unit {0}) × ((ℕ × ℕ × ℕ) × (Unit {0}))

abbrev pub made_wide : Form_wide → Homothetic
made_wide x = Withheld ((x.1.0).0) ((x.1.0).1) ((x.1.0).2)

abbrev pub value_wide : Form_wide → Data
value_wide x = homothetic_value (made_wide x)

abbrev pub Fits_wide : Form_wide → Type 0
Fits_wide x = (⊤) × ((FitsCount (x.1.0).0 × FitsObservation (x.1.0).1 × FitsObservation (x.1.0).2) × (⊤))

pub found_values : (d : Data) (x : Form_values) → IsFound value_values Fits_values d (Some x) → IsFound homothetic_value FitsHomothetic d (Some (made_values x))
found_values d x r = (r.0, r.1.1.0, only)
  where
    only : (y : Homothetic) → FitsHomothetic y → homothetic_value y ≡ d → y ≡ made_values x
    only (Values values') h e = ap made_values (r.2 (tt, (values', tt)) (tt, (h, tt)) e)
    only (Cycle start' cycle') h e = absurd (differ first_letter _ _ (e ∙ sym r.0) (λ q. omega (arith, q)))
    only (Withheld steps from to) h e = absurd (differ second_letter _ _ (e ∙ sym r.0) (λ q. omega (arith, q)))

pub found_cycle : (d : Data) (x : Form_cycle) → IsFound value_values Fits_values d None → IsFound value_cycle Fits_cycle d (Some x) → IsFound homothetic_value FitsHomothetic d (Some (made_cycle x))
found_cycle d x no_values r = (r.0, (r.1.0, r.1.1.1.0), only)
  where
    only : (y : Homothetic) → FitsHomothetic y → homothetic_value y ≡ d → y ≡ made_cycle x
    only (Values values') h e = absurd (no_values (tt, (values', tt)) (tt, (h, tt)) e)
    only (Cycle start' cycle') h e = ap made_cycle (r.2 (cycle', (tt, (start', tt))) (h.0, (tt, (h.1, tt))) e)
    only (Withheld steps from to) h e = absurd (differ first_letter _ _ (e ∙ sym r.0) (λ q. omega (arith, q)))

pub found_wide : (d : Data) (x : Form_wide) → IsFound value_values Fits_values d None → IsFound value_cycle Fits_cycle d None → IsFound value_wide Fits_wide d (Some x) → IsFound homothetic_value FitsHomothetic d (Some (made_wide x))
found_wide d x no_values no_cycle r = (r.0, r.1.1.0, only)
  where
    only : (y : Homothetic) → FitsHomothetic y → homothetic_value y ≡ d → y ≡ made_wide x
    only (Values values') h e = absurd (no_values (tt, (values', tt)) (tt, (h, tt)) e)
    only (Cycle start' cycle') h e = absurd (no_cycle (cycle', (tt, (start', tt))) (h.0, (tt, (h.1, tt))) e)
    only (Withheld steps from to) h e = ap made_wide (r.2 (tt, ((steps, from, to), tt)) (tt, (h, tt)) e)

pub found_none : (d : Data) → IsFound value_values Fits_values d None → IsFound value_cycle Fits_cycle d None → IsFound value_wide Fits_wide d None → IsFound homothetic_value FitsHomothetic d None
found_none d no_values no_cycle no_wide (Values values') h e = no_values (tt, (values', tt)) (tt, (h, tt)) e
found_none d no_values no_cycle no_wide (Cycle start' cycle') h e = no_cycle (cycle', (tt, (start', tt))) (h.0, (tt, (h.1, tt))) e
found_none d no_values no_cycle no_wide (Withheld steps from to) h e = no_wide (tt, ((steps, from, to), tt)) (tt, (h, tt)) e
