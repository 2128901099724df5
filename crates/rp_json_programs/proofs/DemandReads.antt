-- What is read of demand at new prices (this program's own format).
use Rattle.std.proofs.Common.{◌≡◌, ℕ, List, All, Some, None, sym, ap, ◌∙◌, arith}
use Rattle.std.specs.Prelude.{⊤}
use Rattle.serde_json.specs.Data.{Data}
use Rattle.rp_evidence.specs.declared.demand.DemandPart.{DemandPart}
use Rattle.rp_evidence.specs.declared.demand.DemandPart.TheVariants.{Bounds, NoModel}
use Rattle.rp_evidence.specs.declared.demand.GoodBounds.{GoodBounds}
use Rattle.rp_evidence.specs.declared.demand.Point.{Point}
use Rattle.rp_json_programs.specs.DemandValue.{demand_value}
use Rattle.rp_json_entries.specs.Reading.{FitObservations, FitsCount, FitsLong, IsFound}
use Rattle.rp_json_programs.specs.Limits.{FitsDemand, FitsGood, FitsPoint}
use Rattle.rp_json_entries.proofs.ShapeDifferences.{differ, first_letter}

abbrev pub demand_of : List ℕ × ℕ × DemandPart → Data
demand_of d = demand_value d.0 d.1 d.2

abbrev pub FitsDemandOf : List ℕ × ℕ × DemandPart → Type 0
FitsDemandOf d = FitsDemand d.0 d.1 d.2

abbrev pub Form_bounds : Type 0
Form_bounds = (List ℕ) × ((ℕ) × ((List GoodBounds) × ((Point) × ((Unit {0}) × ((List ℕ) × ((List ℕ) × (Unit {0})))))))

abbrev pub made_bounds : Form_bounds → List ℕ × ℕ × DemandPart
made_bounds x = ((x.1.1.1.1.1.0), (x.1.0), Bounds (x.0) (x.1.1.1.1.1.1.0) (x.1.1.1.0) (x.1.1.0))

abbrev pub value_bounds : Form_bounds → Data
value_bounds x = demand_of (made_bounds x)

abbrev pub Fits_bounds : Form_bounds → Type 0
Fits_bounds x = (FitObservations x.0) × ((FitsLong x.1.0) × ((All FitsGood x.1.1.0) × ((FitsPoint x.1.1.1.0) × ((⊤) × ((All FitsCount x.1.1.1.1.1.0) × ((FitObservations x.1.1.1.1.1.1.0) × (⊤)))))))

abbrev pub Form_cycle : Type 0
Form_cycle = (List ℕ) × ((ℕ) × ((Unit {0}) × ((List ℕ) × (Unit {0}))))

abbrev pub made_cycle : Form_cycle → List ℕ × ℕ × DemandPart
made_cycle x = ((x.1.1.1.0), (x.1.0), NoModel (x.0))

abbrev pub value_cycle : Form_cycle → Data
value_cycle x = demand_of (made_cycle x)

abbrev pub Fits_cycle : Form_cycle → Type 0
Fits_cycle x = (FitObservations x.0) × ((FitsLong x.1.0) × ((⊤) × ((All FitsCount x.1.1.1.0) × (⊤))))

pub found_bounds : (d : Data) (x : Form_bounds) → IsFound value_bounds Fits_bounds d (Some x) → IsFound demand_of FitsDemandOf d (Some (made_bounds x))
found_bounds d x r = (r.0, (r.1.0, r.1.1.0, r.1.1.1.0, r.1.1.1.1.0, r.1.1.1.1.1.1.0, r.1.1.1.1.1.1.1.0), only)
  where
    only : (y : List ℕ × ℕ × DemandPart) → FitsDemandOf y → demand_of y ≡ d → y ≡ made_bounds x
    only (prices', m', Bounds below' strict' inner' goods') h e = ap made_bounds (r.2 (below', (m', (goods', (inner', (tt, (prices', (strict', tt))))))) (h.0, (h.1, (h.2, (h.3, (tt, (h.4, (h.5, tt))))))) e)
    only (prices', m', NoModel cycle') h e = absurd (differ first_letter _ _ (e ∙ sym r.0) (λ q. omega (arith, q)))

pub found_cycle : (d : Data) (x : Form_cycle) → IsFound value_bounds Fits_bounds d None → IsFound value_cycle Fits_cycle d (Some x) → IsFound demand_of FitsDemandOf d (Some (made_cycle x))
found_cycle d x no_bounds r = (r.0, (r.1.0, r.1.1.0, r.1.1.1.1.0), only)
  where
    only : (y : List ℕ × ℕ × DemandPart) → FitsDemandOf y → demand_of y ≡ d → y ≡ made_cycle x
    only (prices', m', Bounds below' strict' inner' goods') h e = absurd (no_bounds (below', (m', (goods', (inner', (tt, (prices', (strict', tt))))))) (h.0, (h.1, (h.2, (h.3, (tt, (h.4, (h.5, tt))))))) e)
    only (prices', m', NoModel cycle') h e = ap made_cycle (r.2 (cycle', (m', (tt, (prices', tt)))) (h.0, (h.1, (tt, (h.2, tt)))) e)

pub found_none : (d : Data) → IsFound value_bounds Fits_bounds d None → IsFound value_cycle Fits_cycle d None → IsFound demand_of FitsDemandOf d None
found_none d no_bounds no_cycle (prices', m', Bounds below' strict' inner' goods') h e = no_bounds (below', (m', (goods', (inner', (tt, (prices', (strict', tt))))))) (h.0, (h.1, (h.2, (h.3, (tt, (h.4, (h.5, tt))))))) e
found_none d no_bounds no_cycle (prices', m', NoModel cycle') h e = no_cycle (cycle', (m', (tt, (prices', tt)))) (h.0, (h.1, (tt, (h.2, tt)))) e
