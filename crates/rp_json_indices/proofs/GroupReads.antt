-- What is read of a group of observations with its weight (this program's own format).
use Rattle.std.proofs.Common.{◌≡◌, ◌≢◌, ℕ, List, Some, None, sym, ap, ◌∙◌, arith}
use Rattle.std.specs.Prelude.{⊤}
use Rattle.serde_json.specs.Data.{Data}
use Rattle.rp_fit.specs.declared.kept.Group.{Group}
use Rattle.rp_fit.specs.declared.kept.GroupKind.{GroupKind}
use Rattle.rp_fit.specs.declared.kept.GroupKind.TheVariants.{Pairs, Cycle}
use Rattle.rp_json_indices.specs.GroupValue.{group_value}
use Rattle.rp_json_entries.specs.Reading.{FitObservations, FitsCount, IsFound}
use Rattle.rp_json_indices.specs.Limits.{FitsGroup}
use Rattle.rp_json_entries.proofs.ShapeDifferences.{differ, first_letter}

-- the observations and the weight
abbrev pub Form : Type 0
Form = (List ℕ) × ((ℕ) × (Unit {0}))

abbrev group_of : GroupKind → Form → Group
group_of kind x = record { weight = x.1.0; kind = kind; members = x.0 }

abbrev pub made_pairs : Form → Group
made_pairs x = group_of Pairs x

abbrev pub made_cycle : Form → Group
made_cycle x = group_of Cycle x

abbrev pub value_pairs : Form → Data
value_pairs x = group_value (made_pairs x)

abbrev pub value_cycle : Form → Data
value_cycle x = group_value (made_cycle x)

abbrev pub Fits_made : Form → Type 0
Fits_made x = (FitObservations x.0) × ((FitsCount x.1.0) × (⊤))

pub found_pairs : (d : Data) (x : Form) → IsFound value_pairs Fits_made d (Some x) → IsFound group_value FitsGroup d (Some (made_pairs x))
found_pairs d x r = (r.0, (r.1.0, r.1.1.0), λ y. go y.weight y.kind y.members)
  where
    go : (weight : ℕ) (kind : GroupKind) (members : List ℕ) → FitsGroup (record { weight = weight; kind = kind; members = members })
        → group_value (record { weight = weight; kind = kind; members = members }) ≡ d → record { weight = weight; kind = kind; members = members } ≡ made_pairs x
    go weight Pairs members h e = ap made_pairs (r.2 (members, (weight, tt)) (h.0, (h.1, tt)) e)
    go weight Cycle members h e = absurd (differ first_letter _ _ (e ∙ sym r.0) (λ q. omega (arith, q)))

pub found_cycle : (d : Data) (x : Form) → IsFound value_pairs Fits_made d None → IsFound value_cycle Fits_made d (Some x) → IsFound group_value FitsGroup d (Some (made_cycle x))
found_cycle d x none r = (r.0, (r.1.0, r.1.1.0), λ y. go y.weight y.kind y.members)
  where
    go : (weight : ℕ) (kind : GroupKind) (members : List ℕ) → FitsGroup (record { weight = weight; kind = kind; members = members })
        → group_value (record { weight = weight; kind = kind; members = members }) ≡ d → record { weight = weight; kind = kind; members = members } ≡ made_cycle x
    go weight Pairs members h e = absurd (none (members, (weight, tt)) (h.0, (h.1, tt)) e)
    go weight Cycle members h e = ap made_cycle (r.2 (members, (weight, tt)) (h.0, (h.1, tt)) e)

pub found_none : (d : Data) → IsFound value_pairs Fits_made d None → IsFound value_cycle Fits_made d None → IsFound group_value FitsGroup d None
found_none d no_pairs no_cycle y = go y.weight y.kind y.members
  where
    go : (weight : ℕ) (kind : GroupKind) (members : List ℕ) → FitsGroup (record { weight = weight; kind = kind; members = members })
        → group_value (record { weight = weight; kind = kind; members = members }) ≢ d
    go weight Pairs members h e = no_pairs (members, (weight, tt)) (h.0, (h.1, tt)) e
    go weight Cycle members h e = no_cycle (members, (weight, tt)) (h.0, (h.1, tt)) e
