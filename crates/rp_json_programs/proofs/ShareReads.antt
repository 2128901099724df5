-- What is read of a part of a mixture (this program's own format).
use Rattle.std.proofs.Common.{◌≡◌, ℕ, List, Some, None, ap}
use Rattle.std.specs.Prelude.{⊤}
use Rattle.serde_json.specs.Data.{Data}
use Rattle.rp_evidence.specs.declared.random.Share.{Share}
use Rattle.rp_json_programs.specs.RandomValue.{share_value}
use Rattle.rp_json_entries.specs.Reading.{FitObservations, FitsLong, IsFound}
use Rattle.rp_json_programs.specs.Limits.{FitsShare}

abbrev pub Form_share : Type 0
Form_share = (List ℕ) × ((ℕ) × (Unit {0}))

abbrev pub made_share : Form_share → Share
made_share x = record { patches = (x.0); weight = (x.1.0) }

abbrev pub value_share : Form_share → Data
value_share x = share_value (made_share x)

abbrev pub Fits_share : Form_share → Type 0
Fits_share x = (FitObservations x.0) × ((FitsLong x.1.0) × (⊤))

pub found_share : (d : Data) (x : Form_share) → IsFound value_share Fits_share d (Some x) → IsFound share_value FitsShare d (Some (made_share x))
found_share d x r = (r.0, (r.1.0, r.1.1.0), only)
  where
    only : (y : Share) → FitsShare y → share_value y ≡ d → y ≡ made_share x
    only y h e = ap made_share (r.2 (y.patches, (y.weight, tt)) (h.0, (h.1, tt)) e)

pub found_none : (d : Data) → IsFound value_share Fits_share d None → IsFound share_value FitsShare d None
found_none d no_share y h e = no_share (y.patches, (y.weight, tt)) (h.0, (h.1, tt)) e
