-- What is read of a bound (this program's own format).
use Rattle.std.proofs.Common.{◌≡◌, ℕ, List, All, Some, None, sym, ap, ◌∙◌, arith}
use Rattle.std.specs.Prelude.{⊤}
use Rattle.serde_json.specs.Data.{Data}
use Rattle.rp_num.specs.Fraction.{Fraction}
use Rattle.rp_num.specs.Spelled.{IsReduced}
use Rattle.rp_evidence.specs.declared.demand.Bound.{Bound}
use Rattle.rp_evidence.specs.declared.demand.Bound.TheVariants.{Shown, Wide}
use Rattle.rp_farkas.specs.declared.entry.Entry.{Entry}
use Rattle.rp_json_programs.specs.BoundValue.{bound_value}
use Rattle.rp_json_programs.specs.Limits.{FitsBound, FitsEntry}
use Rattle.rp_json_entries.specs.Reading.{FitsLong, IsFound}
use Rattle.rp_json_entries.proofs.ShapeDifferences.{differ, first_letter}

abbrev pub Form_shown : Type 0
Form_shown = (ℕ) × ((Fraction) × ((List ℕ) × ((List Entry) × (Unit {0}))))

abbrev pub made_shown : Form_shown → Bound
made_shown x = Shown (x.1.0) (record { den = (x.0); y = (x.1.1.1.0); x = (x.1.1.0) })

abbrev pub value_shown : Form_shown → Data
value_shown x = bound_value (made_shown x)

abbrev pub Fits_shown : Form_shown → Type 0
Fits_shown x = (FitsLong x.0) × ((IsReduced x.1.0) × ((All FitsLong x.1.1.0) × ((All FitsEntry x.1.1.1.0) × (⊤))))

abbrev pub Form_wide : Type 0
Form_wide = (ℕ) × (Unit {0})

abbrev pub made_wide : Form_wide → Bound
made_wide x = Wide (x.0)

abbrev pub value_wide : Form_wide → Data
value_wide x = bound_value (made_wide x)

abbrev pub Fits_wide : Form_wide → Type 0
Fits_wide x = (FitsLong x.0) × (⊤)

pub found_shown : (d : Data) (x : Form_shown) → IsFound value_shown Fits_shown d (Some x) → IsFound bound_value FitsBound d (Some (made_shown x))
found_shown d x r = (r.0, (r.1.0, r.1.1.0, r.1.1.1.0, r.1.1.1.1.0), only)
  where
    only : (y : Bound) → FitsBound y → bound_value y ≡ d → y ≡ made_shown x
    only (Shown value pair) h e = ap made_shown (r.2 (pair.den, (value, (pair.x, (pair.y, tt)))) (h.0, (h.1, (h.2, (h.3, tt)))) e)
    only (Wide step') h e = absurd (differ first_letter _ _ (e ∙ sym r.0) (λ q. omega (arith, q)))

pub found_wide : (d : Data) (x : Form_wide) → IsFound value_shown Fits_shown d None → IsFound value_wide Fits_wide d (Some x) → IsFound bound_value FitsBound d (Some (made_wide x))
found_wide d x no_shown r = (r.0, r.1.0, only)
  where
    only : (y : Bound) → FitsBound y → bound_value y ≡ d → y ≡ made_wide x
    only (Shown value pair) h e = absurd (no_shown (pair.den, (value, (pair.x, (pair.y, tt)))) (h.0, (h.1, (h.2, (h.3, tt)))) e)
    only (Wide step') h e = ap made_wide (r.2 (step', tt) (h, tt) e)

pub found_none : (d : Data) → IsFound value_shown Fits_shown d None → IsFound value_wide Fits_wide d None → IsFound bound_value FitsBound d None
found_none d no_shown no_wide (Shown value pair) h e = no_shown (pair.den, (value, (pair.x, (pair.y, tt)))) (h.0, (h.1, (h.2, (h.3, tt)))) e
found_none d no_shown no_wide (Wide step') h e = no_wide (step', tt) (h, tt) e
