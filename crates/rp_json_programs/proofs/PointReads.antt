-- What is read of a point (this program's own format).
use Rattle.std.proofs.Common.{◌≡◌, ℕ, List, All, Some, None, ap}
use Rattle.std.specs.Prelude.{⊤}
use Rattle.serde_json.specs.Data.{Data}
use Rattle.rp_evidence.specs.declared.demand.Point.{Point}
use Rattle.rp_json_programs.specs.BoundValue.{point_value}
use Rattle.rp_json_programs.specs.Limits.{FitsPoint}
use Rattle.rp_json_entries.specs.Reading.{FitsLong, IsFound}

abbrev pub Form_point : Type 0
Form_point = (ℕ) × ((List ℕ) × (Unit {0}))

abbrev pub made_point : Form_point → Point
made_point x = record { den = (x.0); num = (x.1.0) }

abbrev pub value_point : Form_point → Data
value_point x = point_value (made_point x)

abbrev pub Fits_point : Form_point → Type 0
Fits_point x = (FitsLong x.0) × ((All FitsLong x.1.0) × (⊤))

pub found_point : (d : Data) (x : Form_point) → IsFound value_point Fits_point d (Some x) → IsFound point_value FitsPoint d (Some (made_point x))
found_point d x r = (r.0, (r.1.0, r.1.1.0), only)
  where
    only : (y : Point) → FitsPoint y → point_value y ≡ d → y ≡ made_point x
    only y h e = ap made_point (r.2 (y.den, (y.num, tt)) (h.0, (h.1, tt)) e)

pub found_none : (d : Data) → IsFound value_point Fits_point d None → IsFound point_value FitsPoint d None
found_none d no_point y h e = no_point (y.den, (y.num, tt)) (h.0, (h.1, tt)) e
