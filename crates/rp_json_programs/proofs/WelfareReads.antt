-- What is read of welfare bounds (this program's own format).
use Rattle.std.proofs.Common.{◌≡◌, ℕ, List, All, Some, None, sym, ap, ◌∙◌, arith}
use Rattle.std.specs.Prelude.{⊤}
use Rattle.serde_json.specs.Data.{Data}
use Rattle.rp_evidence.specs.declared.demand.Bound.{Bound}
use Rattle.rp_evidence.specs.declared.demand.WelfarePart.{WelfarePart}
use Rattle.rp_evidence.specs.declared.demand.WelfarePart.TheVariants.{Bounds, NoModel}
use Rattle.rp_json_programs.specs.DemandValue.{welfare_value}
use Rattle.rp_json_entries.specs.Reading.{FitObservations, FitsCount, FitsLong, FitsObservation, IsFound}
use Rattle.rp_json_programs.specs.Limits.{FitsBound, FitsWelfare}
use Rattle.rp_json_entries.proofs.ShapeDifferences.{differ, first_letter}

abbrev pub welfare_of : List ℕ × ℕ × WelfarePart → Data
welfare_of w = welfare_value w.0 w.1 w.2

abbrev pub FitsWelfareOf : List ℕ × ℕ × WelfarePart → Type 0
FitsWelfareOf w = FitsWelfare w.0 w.1 w.2

abbrev pub Form_bounds : Type 0
Form_bounds = (ℕ) × ((Unit {0}) × ((Bound) × ((ℕ) × ((List ℕ) × ((ℕ) × (Unit {0}))))))

abbrev pub made_bounds : Form_bounds → List ℕ × ℕ × WelfarePart
made_bounds x = ((x.1.1.1.1.0), (x.1.1.1.0), Bounds (x.1.1.1.1.1.0) (x.0) (x.1.1.0))

abbrev pub value_bounds : Form_bounds → Data
value_bounds x = welfare_of (made_bounds x)

abbrev pub Fits_bounds : Form_bounds → Type 0
Fits_bounds x = (FitsObservation x.0) × ((⊤) × ((FitsBound x.1.1.0) × ((FitsObservation x.1.1.1.0) × ((All FitsCount x.1.1.1.1.0) × ((FitsLong x.1.1.1.1.1.0) × (⊤))))))

abbrev pub Form_cycle : Type 0
Form_cycle = (List ℕ) × ((Unit {0}) × ((ℕ) × ((List ℕ) × (Unit {0}))))

abbrev pub made_cycle : Form_cycle → List ℕ × ℕ × WelfarePart
made_cycle x = ((x.1.1.1.0), (x.1.1.0), NoModel (x.0))

abbrev pub value_cycle : Form_cycle → Data
value_cycle x = welfare_of (made_cycle x)

abbrev pub Fits_cycle : Form_cycle → Type 0
Fits_cycle x = (FitObservations x.0) × ((⊤) × ((FitsObservation x.1.1.0) × ((All FitsCount x.1.1.1.0) × (⊤))))

pub found_bounds : (d : Data) (x : Form_bounds) → IsFound value_bounds Fits_bounds d (Some x) → IsFound welfare_of FitsWelfareOf d (Some (made_bounds x))
found_bounds d x r = (r.0, (r.1.0, r.1.1.1.0, r.1.1.1.1.0, r.1.1.1.1.1.0, r.1.1.1.1.1.1.0), only)
  where
    only : (y : List ℕ × ℕ × WelfarePart) → FitsWelfareOf y → welfare_of y ≡ d → y ≡ made_bounds x
    only (prices', of', Bounds upper' at' lower') h e = ap made_bounds (r.2 (at', (tt, (lower', (of', (prices', (upper', tt)))))) (h.0, (tt, (h.1, (h.2, (h.3, (h.4, tt)))))) e)
    only (prices', of', NoModel cycle') h e = absurd (differ first_letter _ _ (e ∙ sym r.0) (λ q. omega (arith, q)))

pub found_cycle : (d : Data) (x : Form_cycle) → IsFound value_bounds Fits_bounds d None → IsFound value_cycle Fits_cycle d (Some x) → IsFound welfare_of FitsWelfareOf d (Some (made_cycle x))
found_cycle d x no_bounds r = (r.0, (r.1.0, r.1.1.1.0, r.1.1.1.1.0), only)
  where
    only : (y : List ℕ × ℕ × WelfarePart) → FitsWelfareOf y → welfare_of y ≡ d → y ≡ made_cycle x
    only (prices', of', Bounds upper' at' lower') h e = absurd (no_bounds (at', (tt, (lower', (of', (prices', (upper', tt)))))) (h.0, (tt, (h.1, (h.2, (h.3, (h.4, tt)))))) e)
    only (prices', of', NoModel cycle') h e = ap made_cycle (r.2 (cycle', (tt, (of', (prices', tt)))) (h.0, (tt, (h.1, (h.2, tt)))) e)

pub found_none : (d : Data) → IsFound value_bounds Fits_bounds d None → IsFound value_cycle Fits_cycle d None → IsFound welfare_of FitsWelfareOf d None
found_none d no_bounds no_cycle (prices', of', Bounds upper' at' lower') h e = no_bounds (at', (tt, (lower', (of', (prices', (upper', tt)))))) (h.0, (tt, (h.1, (h.2, (h.3, (h.4, tt)))))) e
found_none d no_bounds no_cycle (prices', of', NoModel cycle') h e = no_cycle (cycle', (tt, (of', (prices', tt)))) (h.0, (tt, (h.1, (h.2, tt)))) e
