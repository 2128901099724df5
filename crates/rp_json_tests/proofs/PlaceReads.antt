-- What is read of the place of a product that is too wide.
use Rattle.std.proofs.Common.{ℕ, None}
use Rattle.std.specs.Prelude.{⊤}
use Rattle.serde_json.specs.Data.{Data}
use Rattle.rp_json_tests.specs.HomotheticValue.{place_value}
use Rattle.rp_json_entries.specs.Reading.{FitsCount, FitsObservation, IsFound}

abbrev pub Form : Type 0
Form = ℕ × (ℕ × (ℕ × Unit {0}))

abbrev pub value_place : Form → Data
value_place x = place_value x.0 x.1.0 x.1.1.0

abbrev pub Fits_place : Form → Type 0
Fits_place x = FitsCount x.0 × (FitsObservation x.1.0 × (FitsObservation x.1.1.0 × ⊤))

pub no_place : (d : Data) → IsFound value_place Fits_place d None
    → IsFound (λ (p : ℕ × ℕ × ℕ). place_value p.0 p.1 p.2) (λ p. FitsCount p.0 × FitsObservation p.1 × FitsObservation p.2) d None
no_place d none x h e = none (x.0, (x.1, (x.2, tt))) (h.0, (h.1, (h.2, tt))) e
