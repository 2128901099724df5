-- What is read of the bounds of a good (this program's own format).
use Rattle.std.proofs.Common.{◌≡◌, Some, None, ap}
use Rattle.std.specs.Prelude.{⊤}
use Rattle.serde_json.specs.Data.{Data}
use Rattle.rp_evidence.specs.declared.demand.Bound.{Bound}
use Rattle.rp_evidence.specs.declared.demand.GoodBounds.{GoodBounds}
use Rattle.rp_json_programs.specs.BoundValue.{good_value}
use Rattle.rp_json_programs.specs.Limits.{FitsBound, FitsGood}
use Rattle.rp_json_entries.specs.Reading.{IsFound}

abbrev pub Form_good : Type 0
Form_good = (Bound) × ((Bound) × (Unit {0}))

abbrev pub made_good : Form_good → GoodBounds
made_good x = record { lower = (x.0); upper = (x.1.0) }

abbrev pub value_good : Form_good → Data
value_good x = good_value (made_good x)

abbrev pub Fits_good : Form_good → Type 0
Fits_good x = (FitsBound x.0) × ((FitsBound x.1.0) × (⊤))

pub found_good : (d : Data) (x : Form_good) → IsFound value_good Fits_good d (Some x) → IsFound good_value FitsGood d (Some (made_good x))
found_good d x r = (r.0, (r.1.0, r.1.1.0), only)
  where
    only : (y : GoodBounds) → FitsGood y → good_value y ≡ d → y ≡ made_good x
    only y h e = ap made_good (r.2 (y.lower, (y.upper, tt)) (h.0, (h.1, tt)) e)

pub found_none : (d : Data) → IsFound value_good Fits_good d None → IsFound good_value FitsGood d None
found_none d no_good y h e = no_good (y.lower, (y.upper, tt)) (h.0, (h.1, tt)) e
