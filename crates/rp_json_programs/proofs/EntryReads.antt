-- What is read of an entry of a point (this program's own format).
use Rattle.std.proofs.Common.{◌≡◌, ℕ, Some, None, ap}
use Rattle.std.specs.Prelude.{⊤}
use Rattle.serde_json.specs.Data.{Data}
use Rattle.rp_farkas.specs.declared.entry.Entry.{Entry}
use Rattle.rp_json_programs.specs.BoundValue.{entry_value}
use Rattle.rp_json_programs.specs.Limits.{FitsEntry}
use Rattle.rp_json_entries.specs.Reading.{FitsLong, FitsObservation, IsFound}

abbrev pub Form_entry : Type 0
Form_entry = (ℕ) × ((ℕ) × (Unit {0}))

abbrev pub made_entry : Form_entry → Entry
made_entry x = record { at = (x.0); value = (x.1.0) }

abbrev pub value_entry : Form_entry → Data
value_entry x = entry_value (made_entry x)

abbrev pub Fits_entry : Form_entry → Type 0
Fits_entry x = (FitsObservation x.0) × ((FitsLong x.1.0) × (⊤))

pub found_entry : (d : Data) (x : Form_entry) → IsFound value_entry Fits_entry d (Some x) → IsFound entry_value FitsEntry d (Some (made_entry x))
found_entry d x r = (r.0, (r.1.0, r.1.1.0), only)
  where
    only : (y : Entry) → FitsEntry y → entry_value y ≡ d → y ≡ made_entry x
    only y h e = ap made_entry (r.2 (y.at, (y.value, tt)) (h.0, (h.1, tt)) e)

pub found_none : (d : Data) → IsFound value_entry Fits_entry d None → IsFound entry_value FitsEntry d None
found_none d no_entry y h e = no_entry (y.at, (y.value, tt)) (h.0, (h.1, tt)) e
