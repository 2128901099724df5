-- Words that only proofs need: the items of a list of values, and the levels of a certificate.
use Rattle.std.specs.Prelude.{◌≡◌, ◌≢◌, ◌+◌, ◌-◌, ◌^◌, ℕ, List, [], ◌∷◌, All, map, min, Option, Some, None}
use Rattle.std.specs.Prelude.{Result, Ok, Err, Vec}
use Rattle.std.specs.declared.alloc.Global.{Global}
use Rattle.rp_evidence.specs.declared.certificate.Item.{Item}
use Rattle.rp_evidence.specs.declared.certificate.Kind.{Kind}
use Rattle.rp_json_entries.specs.Values.{counts_value}
use Rattle.serde_json.specs.Data.{Data}
use Rattle.rp_json.specs.CertificateValue.{item_value, top_value}
use Rattle.rp_json.specs.Denoted.{AreSomeLevels, FitLevels, FitsKind, IsFirstNoItem, IsTop}
use Rattle.rp_json.specs.declared.fault.JsonFault.{JsonFault}
use Rattle.rp_json.specs.declared.fault.JsonFault.TheVariants.{BadShape, BadVersion, NoMemory, NotJson}

-- The one list of items of the kind with these values.
pub record AreItems (kind : Kind) (values : List Data) (items : List Item) : Type 0 where
  pub same_values : map item_value items ≡ values
  pub fit : All (FitsKind kind) items
  pub only : (others : List Item) → All (FitsKind kind) others → map item_value others ≡ values → others ≡ items

-- What is wrong with these values: the first that is no item.
abbrev pub IsItemFault : Kind → List Data → JsonFault → Type 0
IsItemFault kind values NotJson = ⊥
IsItemFault kind values BadVersion = ⊥
IsItemFault kind values (BadShape item) = (k : ℕ) × IsFirstNoItem kind values k × (item ≡ min (k + 1) (2 ^ 32 - 1))
IsItemFault kind values NoMemory = Unit {0}

-- The items of these values, or what is wrong with them.
abbrev pub AreItemsBy : Kind → List Data → Result (Vec Item Global) JsonFault → Type 0
AreItemsBy kind values (Ok items) = AreItems kind values items.items
AreItemsBy kind values (Err fault) = IsItemFault kind values fault

-- The levels of a certificate of this kind and version that has this value, whatever its items; or that none has it.
abbrev pub AreLevelsBy : Kind → ℕ → Data → Option (List ℕ) → Type 0
AreLevelsBy kind version d (Some levels) =
    FitLevels kind version levels
    × ((items : List Data) → IsTop kind version items d → d ≡ top_value kind version levels items)
AreLevelsBy kind version d None =
    (levels : List ℕ) (items : List Data) → FitLevels kind version levels → d ≢ top_value kind version levels items

-- The levels that are the third of four values, or that there are none.
abbrev pub AreThirdBy : List Data → Option (List ℕ) → Type 0
AreThirdBy values (Some levels) = AreSomeLevels levels
    × ((a : Data) × (b : Data) × (c : Data) × (values ≡ a ∷ b ∷ counts_value levels ∷ c ∷ []))
AreThirdBy values None = (levels : List ℕ) (a b c : Data) → AreSomeLevels levels
    → values ≢ a ∷ b ∷ counts_value levels ∷ c ∷ []
