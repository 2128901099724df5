-- What is read of a verdict on the generalized axiom (this program's own format).
use Rattle.std.proofs.Common.{◌≡◌, ℕ, List, All, Some, None, sym, ap, ◌∙◌, arith}
use Rattle.std.specs.Prelude.{⊤}
use Rattle.serde_json.specs.Data.{Data}
use Rattle.rp_evidence.specs.declared.garp.Garp.{Garp}
use Rattle.rp_evidence.specs.declared.garp.Garp.TheVariants.{Ranks, Cycle}
use Rattle.rp_json_tests.specs.GarpValue.{garp_value}
use Rattle.rp_json_entries.specs.Reading.{FitObservations, FitsCount, IsFound}
use Rattle.rp_json_tests.specs.Limits.{FitsGarp}
use Rattle.rp_json_entries.proofs.ShapeDifferences.{differ, first_letter}

abbrev pub Form_ranks : Type 0
Form_ranks = (Unit {0}) × ((List ℕ) × (Unit {0}))

abbrev pub made_ranks : Form_ranks → Garp
made_ranks x = Ranks (x.1.0)

abbrev pub value_ranks : Form_ranks → Data
value_ranks x = garp_value (made_ranks x)

abbrev pub Fits_ranks : Form_ranks → Type 0
Fits_ranks x = (⊤) × ((All FitsCount x.1.0) × (⊤))

abbrev pub Form_cycle : Type 0
Form_cycle = (List ℕ) × ((Unit {0}) × (Unit {0}))

abbrev pub made_cycle : Form_cycle → Garp
made_cycle x = Cycle (x.0)

abbrev pub value_cycle : Form_cycle → Data
value_cycle x = garp_value (made_cycle x)

abbrev pub Fits_cycle : Form_cycle → Type 0
Fits_cycle x = (FitObservations x.0) × ((⊤) × (⊤))

pub found_ranks : (d : Data) (x : Form_ranks) → IsFound value_ranks Fits_ranks d (Some x) → IsFound garp_value FitsGarp d (Some (made_ranks x))
found_ranks d x r = (r.0, r.1.1.0, only)
  where
    only : (y : Garp) → FitsGarp y → garp_value y ≡ d → y ≡ made_ranks x
    only (Ranks ranks') h e = ap made_ranks (r.2 (tt, (ranks', tt)) (tt, (h, tt)) e)
    only (Cycle cycle') h e = absurd (differ first_letter _ _ (e ∙ sym r.0) (λ q. omega (arith, q)))

pub found_cycle : (d : Data) (x : Form_cycle) → IsFound value_ranks Fits_ranks d None → IsFound value_cycle Fits_cycle d (Some x) → IsFound garp_value FitsGarp d (Some (made_cycle x))
found_cycle d x no_ranks r = (r.0, r.1.0, only)
  where
    only : (y : Garp) → FitsGarp y → garp_value y ≡ d → y ≡ made_cycle x
    only (Ranks ranks') h e = absurd (no_ranks (tt, (ranks', tt)) (tt, (h, tt)) e)
    only (Cycle cycle') h e = ap made_cycle (r.2 (cycle', (tt, tt)) (h, (tt, tt)) e)

pub found_none : (d : Data) → IsFound value_ranks Fits_ranks d None → IsFound value_cycle Fits_cycle d None → IsFound garp_value FitsGarp d None
found_none d no_ranks no_cycle (Ranks ranks') h e = no_ranks (tt, (ranks', tt)) (tt, (h, tt)) e
found_none d no_ranks no_cycle (Cycle cycle') h e = no_cycle (cycle', (tt, tt)) (h, (tt, tt)) e
