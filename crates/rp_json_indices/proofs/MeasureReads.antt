-- What is read of the measure of levels (this program's own format).
use Rattle.std.proofs.Common.{◌≡◌, ℕ, ◌∷◌, Some, None, refl, sym, ◌∙◌, arith, codes}
use Rattle.std.specs.Prelude.{⊤}
use Rattle.serde_json.specs.Data.{Data, string}
use Rattle.rp_fit.specs.declared.levels.Lack.{Lack}
use Rattle.rp_fit.specs.declared.levels.Lack.TheVariants.{Mean, Squares}
use Rattle.rp_json_indices.specs.MeasureValue.{measure_value}
use Rattle.rp_json_entries.specs.Reading.{IsFound}
use Rattle.rp_json_entries.proofs.ShapeDifferences.{differ}

abbrev pub value_mean : Unit {0} → Data
value_mean x = string (codes "mean")

abbrev pub value_squares : Unit {0} → Data
value_squares x = string (codes "squares")

abbrev pub Fits_name : Unit {0} → Type 0
Fits_name x = ⊤

abbrev pub Fits_measure : Lack → Type 0
Fits_measure x = ⊤

-- the first letter of a text
abbrev text_letter : Data → ℕ
text_letter (string (letter ∷ letters)) = letter
text_letter _ = 0

pub found_mean : (d : Data) → IsFound value_mean Fits_name d (Some tt) → IsFound measure_value Fits_measure d (Some Mean)
found_mean d r = (r.0, tt, only)
  where
    only : (y : Lack) → ⊤ → measure_value y ≡ d → y ≡ Mean
    only Mean h e = refl
    only Squares h e = absurd (differ text_letter _ _ (e ∙ sym r.0) (λ q. omega (arith, q)))

pub found_squares : (d : Data) → IsFound value_mean Fits_name d None → IsFound value_squares Fits_name d (Some tt) → IsFound measure_value Fits_measure d (Some Squares)
found_squares d no_mean r = (r.0, tt, only)
  where
    only : (y : Lack) → ⊤ → measure_value y ≡ d → y ≡ Squares
    only Mean h e = absurd (no_mean tt tt e)
    only Squares h e = refl

pub found_none : (d : Data) → IsFound value_mean Fits_name d None → IsFound value_squares Fits_name d None → IsFound measure_value Fits_measure d None
found_none d no_mean no_squares Mean h e = no_mean tt tt e
found_none d no_mean no_squares Squares h e = no_squares tt tt e
