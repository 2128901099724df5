-- What is read of a verdict on random choices (this program's own format).
use Rattle.std.proofs.Common.{◌≡◌, ℕ, List, All, Some, None, sym, ap, ◌∙◌, arith}
use Rattle.std.specs.Prelude.{⊤}
use Rattle.serde_json.specs.Data.{Data}
use Rattle.rp_evidence.specs.declared.random.RandomPart.{RandomPart}
use Rattle.rp_evidence.specs.declared.random.RandomPart.TheVariants.{Mixture, Violated, Wide}
use Rattle.rp_evidence.specs.declared.random.Share.{Share}
use Rattle.rp_json_programs.specs.RandomValue.{random_value}
use Rattle.rp_json_programs.specs.Limits.{FitsRandom, FitsShare}
use Rattle.rp_json_entries.specs.Reading.{FitsLong, IsFound}
use Rattle.rp_json_entries.proofs.ShapeDifferences.{differ, first_letter, members_count}

abbrev pub random_of : ℕ × RandomPart → Data
random_of r = random_value r.0 r.1

abbrev pub FitsRandomOf : ℕ × RandomPart → Type 0
FitsRandomOf r = FitsRandom r.0 r.1

abbrev pub Form_mixture : Type 0
Form_mixture = (ℕ) × ((Unit {0}) × ((List Share) × ((ℕ) × (Unit {0}))))

abbrev pub made_mixture : Form_mixture → ℕ × RandomPart
made_mixture x = ((x.1.1.1.0), Mixture (x.0) (x.1.1.0))

abbrev pub value_mixture : Form_mixture → Data
value_mixture x = random_of (made_mixture x)

abbrev pub Fits_mixture : Form_mixture → Type 0
Fits_mixture x = (FitsLong x.0) × ((⊤) × ((All FitsShare x.1.1.0) × ((FitsLong x.1.1.1.0) × (⊤))))

abbrev pub Form_violated : Type 0
Form_violated = (ℕ) × ((Unit {0}) × ((List Share) × ((ℕ) × ((List ℕ) × (Unit {0})))))

abbrev pub made_violated : Form_violated → ℕ × RandomPart
made_violated x = ((x.1.1.1.0), Violated (x.0) (x.1.1.0) (x.1.1.1.1.0))

abbrev pub value_violated : Form_violated → Data
value_violated x = random_of (made_violated x)

abbrev pub Fits_violated : Form_violated → Type 0
Fits_violated x = (FitsLong x.0) × ((⊤) × ((All FitsShare x.1.1.0) × ((FitsLong x.1.1.1.0) × ((All FitsLong x.1.1.1.1.0) × (⊤)))))

abbrev pub Form_wide : Type 0
Form_wide = (Unit {0}) × ((ℕ) × ((ℕ) × (Unit {0})))

abbrev pub made_wide : Form_wide → ℕ × RandomPart
made_wide x = ((x.1.0), Wide (x.1.1.0))

abbrev pub value_wide : Form_wide → Data
value_wide x = random_of (made_wide x)

abbrev pub Fits_wide : Form_wide → Type 0
Fits_wide x = (⊤) × ((FitsLong x.1.0) × ((FitsLong x.1.1.0) × (⊤)))

pub found_mixture : (d : Data) (x : Form_mixture) → IsFound value_mixture Fits_mixture d (Some x) → IsFound random_of FitsRandomOf d (Some (made_mixture x))
found_mixture d x r = (r.0, (r.1.0, r.1.1.1.0, r.1.1.1.1.0), only)
  where
    only : (y : ℕ × RandomPart) → FitsRandomOf y → random_of y ≡ d → y ≡ made_mixture x
    only (total', Mixture den' parts') h e = ap made_mixture (r.2 (den', (tt, (parts', (total', tt)))) (h.0, (tt, (h.1, (h.2, tt)))) e)
    only (total', Violated den' parts' weights') h e = absurd (differ members_count _ _ (e ∙ sym r.0) (λ q. omega (arith, q)))
    only (total', Wide step') h e = absurd (differ first_letter _ _ (e ∙ sym r.0) (λ q. omega (arith, q)))

pub found_violated : (d : Data) (x : Form_violated) → IsFound value_mixture Fits_mixture d None → IsFound value_violated Fits_violated d (Some x) → IsFound random_of FitsRandomOf d (Some (made_violated x))
found_violated d x no_mixture r = (r.0, (r.1.0, r.1.1.1.0, r.1.1.1.1.0, r.1.1.1.1.1.0), only)
  where
    only : (y : ℕ × RandomPart) → FitsRandomOf y → random_of y ≡ d → y ≡ made_violated x
    only (total', Mixture den' parts') h e = absurd (no_mixture (den', (tt, (parts', (total', tt)))) (h.0, (tt, (h.1, (h.2, tt)))) e)
    only (total', Violated den' parts' weights') h e = ap made_violated (r.2 (den', (tt, (parts', (total', (weights', tt))))) (h.0, (tt, (h.1, (h.2, (h.3, tt))))) e)
    only (total', Wide step') h e = absurd (differ first_letter _ _ (e ∙ sym r.0) (λ q. omega (arith, q)))

pub found_wide : (d : Data) (x : Form_wide) → IsFound value_mixture Fits_mixture d None → IsFound value_violated Fits_violated d None → IsFound value_wide Fits_wide d (Some x) → IsFound random_of FitsRandomOf d (Some (made_wide x))
found_wide d x no_mixture no_violated r = (r.0, (r.1.1.0, r.1.1.1.0), only)
  where
    only : (y : ℕ × RandomPart) → FitsRandomOf y → random_of y ≡ d → y ≡ made_wide x
    only (total', Mixture den' parts') h e = absurd (no_mixture (den', (tt, (parts', (total', tt)))) (h.0, (tt, (h.1, (h.2, tt)))) e)
    only (total', Violated den' parts' weights') h e = absurd (no_violated (den', (tt, (parts', (total', (weights', tt))))) (h.0, (tt, (h.1, (h.2, (h.3, tt))))) e)
    only (total', Wide step') h e = ap made_wide (r.2 (tt, (total', (step', tt))) (tt, (h.0, (h.1, tt))) e)

pub found_none : (d : Data) → IsFound value_mixture Fits_mixture d None → IsFound value_violated Fits_violated d None → IsFound value_wide Fits_wide d None → IsFound random_of FitsRandomOf d None
found_none d no_mixture no_violated no_wide (total', Mixture den' parts') h e = no_mixture (den', (tt, (parts', (total', tt)))) (h.0, (tt, (h.1, (h.2, tt)))) e
found_none d no_mixture no_violated no_wide (total', Violated den' parts' weights') h e = no_violated (den', (tt, (parts', (total', (weights', tt))))) (h.0, (tt, (h.1, (h.2, (h.3, tt))))) e
found_none d no_mixture no_violated no_wide (total', Wide step') h e = no_wide (tt, (total', (step', tt))) (tt, (h.0, (h.1, tt))) e
