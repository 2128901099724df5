-- What is read of evidence: the most observations that are consistent (this program's own format).
use Rattle.std.proofs.Common.{◌≡◌, ℕ, List, All, Some, None, ap}
use Rattle.std.specs.Prelude.{⊤}
use Rattle.serde_json.specs.Data.{Data}
use Rattle.rp_fit.specs.declared.kept.KeptPart.{KeptPart}
use Rattle.rp_fit.specs.declared.kept.Group.{Group}
use Rattle.rp_json_indices.specs.KeptValue.{kept_value}
use Rattle.rp_json_entries.specs.Reading.{FitObservations, FitsCount, IsFound}
use Rattle.rp_json_indices.specs.Limits.{FitsKept, FitsGroup}

abbrev pub Form : Type 0
Form = (ℕ) × ((List Group) × ((Unit {0}) × ((List ℕ) × ((ℕ) × ((List ℕ) × (Unit {0}))))))

abbrev pub made : Form → KeptPart
made x = record { kept = x.1.1.1.0; ranks = x.1.1.1.1.1.0; den = x.0; groups = x.1.0; most = x.1.1.1.1.0 }

abbrev pub value_made : Form → Data
value_made x = kept_value (made x)

abbrev pub Fits_made : Form → Type 0
Fits_made x = (FitsCount x.0) × ((All FitsGroup x.1.0) × ((⊤) × ((FitObservations x.1.1.1.0) × ((FitsCount x.1.1.1.1.0) × ((All FitsCount x.1.1.1.1.1.0) × (⊤))))))

pub found_one : (d : Data) (x : Form) → IsFound value_made Fits_made d (Some x) → IsFound kept_value FitsKept d (Some (made x))
found_one d x r = (r.0, (r.1.0, r.1.1.0, r.1.1.1.1.0, r.1.1.1.1.1.0, r.1.1.1.1.1.1.0), only)
  where
    only : (y : KeptPart) → FitsKept y → kept_value y ≡ d → y ≡ made x
    only y h e = ap made (r.2 (y.den, (y.groups, (tt, (y.kept, (y.most, (y.ranks, tt)))))) (h.0, (h.1, (tt, (h.2, (h.3, (h.4, tt)))))) e)

pub found_none : (d : Data) → IsFound value_made Fits_made d None → IsFound kept_value FitsKept d None
found_none d none y h e = none (y.den, (y.groups, (tt, (y.kept, (y.most, (y.ranks, tt)))))) (h.0, (h.1, (tt, (h.2, (h.3, (h.4, tt)))))) e
