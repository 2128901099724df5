-- What is read of evidence: numbers of pairs of observations that violate an axiom (this program's own format).
use Rattle.std.proofs.Common.{◌≡◌, ℕ, Some, None, ap}
use Rattle.std.specs.Prelude.{⊤}
use Rattle.serde_json.specs.Data.{Data}
use Rattle.rp_fit.specs.declared.violations.ViolationsPart.{ViolationsPart}
use Rattle.rp_json_indices.specs.ViolationsValue.{violations_value}
use Rattle.rp_json_entries.specs.Reading.{FitsCount, IsFound}
use Rattle.rp_json_indices.specs.Limits.{FitsViolations}

abbrev pub Form : Type 0
Form = (ℕ) × ((Unit {0}) × ((ℕ) × ((ℕ) × ((ℕ) × ((ℕ) × (Unit {0}))))))

abbrev pub made : Form → ViolationsPart
made x = record { garp = x.0; weak_garp = x.1.1.1.1.1.0; warp = x.1.1.1.1.0; sarp = x.1.1.1.0; observations = x.1.1.0 }

abbrev pub value_made : Form → Data
value_made x = violations_value (made x)

abbrev pub Fits_made : Form → Type 0
Fits_made x = (FitsCount x.0) × ((⊤) × ((FitsCount x.1.1.0) × ((FitsCount x.1.1.1.0) × ((FitsCount x.1.1.1.1.0) × ((FitsCount x.1.1.1.1.1.0) × (⊤))))))

pub found_one : (d : Data) (x : Form) → IsFound value_made Fits_made d (Some x) → IsFound violations_value FitsViolations d (Some (made x))
found_one d x r = (r.0, (r.1.0, r.1.1.1.0, r.1.1.1.1.0, r.1.1.1.1.1.0, r.1.1.1.1.1.1.0), only)
  where
    only : (y : ViolationsPart) → FitsViolations y → violations_value y ≡ d → y ≡ made x
    only y h e = ap made (r.2 (y.garp, (tt, (y.observations, (y.sarp, (y.warp, (y.weak_garp, tt)))))) (h.0, (tt, (h.1, (h.2, (h.3, (h.4, tt)))))) e)

pub found_none : (d : Data) → IsFound value_made Fits_made d None → IsFound violations_value FitsViolations d None
found_none d none y h e = none (y.garp, (tt, (y.observations, (y.sarp, (y.warp, (y.weak_garp, tt)))))) (h.0, (tt, (h.1, (h.2, (h.3, (h.4, tt)))))) e
