-- What bytes denote as a certificate of a kind, or their first refusal (this program's own format). Bytes are read as
-- `serde_json` reads them, so every spelling of a value denotes the same.
use Rattle.std.specs.Prelude.{◌≡◌, ◌≢◌, ◌⊎◌, ◌<◌, ◌+◌, ◌-◌, ◌^◌, ℕ, List, [], All, length, map, min}
use Rattle.std.specs.Prelude.{slice_index_or, take, codes, Result, Ok, Err, IsUtf8, Some}
use Rattle.rp_evidence.specs.Kinds.{IsOfKind}
use Rattle.rp_evidence.specs.declared.certificate.Certificate.{Certificate}
use Rattle.rp_evidence.specs.declared.certificate.Item.{Item}
use Rattle.rp_evidence.specs.declared.certificate.Kind.{Kind}
use Rattle.rp_evidence.specs.declared.certificate.Kind.TheVariants.{Table}
use Rattle.rp_table.specs.OwnLevels.{IsOwnLevel}
use Rattle.serde_json.specs.Data.{Data, array, null, number, string, unsigned}
use Rattle.serde_json.specs.Find.{get}
use Rattle.serde_json.specs.Read.{read}
use Rattle.serde_json.specs.View.{items_of}
use Rattle.rp_json.specs.CertificateValue.{certificate_value, item_value, kind_name, top_value}
use Rattle.rp_json.specs.Limits.{FitsItem}
use Rattle.rp_json.specs.declared.fault.JsonFault.{JsonFault}
use Rattle.rp_json.specs.declared.fault.JsonFault.TheVariants.{BadShape, BadVersion, NoMemory, NotJson}

-- The bytes spell this value.
abbrev pub Spells : List ℕ → Data → Type 0
Spells bytes d = IsUtf8 bytes × (read bytes ≡ Some d)

-- An object with these items, this kind and this version, and whatever else.
pub record IsTop (kind : Kind) (version : ℕ) (items : List Data) (d : Data) : Type 0 where
  pub has_items : get (codes "items") d ≡ Some (array (items_of items))
  pub has_kind : get (codes "kind") d ≡ Some (string (kind_name kind))
  pub has_version : get (codes "version") d ≡ Some (number (unsigned version))

-- The item is of the kind, and within the limits.
abbrev pub FitsKind : Kind → Item → Type 0
FitsKind kind item = IsOfKind kind item × FitsItem item

-- Levels of one or more observations, in thousandths.
abbrev pub AreSomeLevels : List ℕ → Type 0
AreSomeLevels levels = (levels ≢ []) × All IsOwnLevel levels

-- What levels a certificate of this kind and version has: of version 1 none, and of version 2, on a table alone, some.
abbrev pub FitLevels : Kind → ℕ → List ℕ → Type 0
FitLevels kind version levels =
    ((version ≡ 1) × (levels ≡ [])) ⊎ ((version ≡ 2) × (kind ≡ Table) × AreSomeLevels levels)

-- A certificate of the kind, within the limits.
pub record IsReadable (kind : Kind) (c : Certificate) : Type 0 where
  pub of_kind : c.kind ≡ kind
  pub levels : FitLevels kind c.version c.levels
  pub items : All (FitsKind kind) c.items

-- The values before k are those of items; the one at k, from 0, is that of none.
pub record IsFirstNoItem (kind : Kind) (values : List Data) (k : ℕ) : Type 0 where
  pub within : k < length values
  pub before : (items : List Item) × (map item_value items ≡ take k values) × All (FitsKind kind) items
  pub none : (item : Item) → FitsKind kind item → item_value item ≢ slice_index_or values k null

-- A certificate of the kind, but of another version than 1 and 2.
abbrev pub HasOtherVersion : Kind → Data → Type 0
HasOtherVersion kind d =
    (version : ℕ) × (items : List Data) × IsTop kind version items d × (version ≢ 1) × (version ≢ 2)

-- No certificate of the kind and of version 1 or 2, whatever its levels and its items.
abbrev pub HasNoShape : Kind → Data → Type 0
HasNoShape kind d =
    (version : ℕ) (levels : List ℕ) (items : List Data) → FitLevels kind version levels
    → d ≢ top_value kind version levels items

-- Of version 1 or 2, and this is the first value that is no item; item numbers start at 1 and are cut off at 2^32 - 1.
abbrev pub HasBadItem : Kind → Data → ℕ → Type 0
HasBadItem kind d item =
    (version : ℕ) × (levels : List ℕ) × (values : List Data) × FitLevels kind version levels
    × (d ≡ top_value kind version levels values)
    × ((k : ℕ) × IsFirstNoItem kind values k × (item ≡ min (k + 1) (2 ^ 32 - 1)))

-- What a value denotes: the one certificate with this value, or the first refusal.
abbrev pub IsDenotedBy : Kind → Data → Result Certificate JsonFault → Type 0
IsDenotedBy kind d (Ok c) =
    (certificate_value c ≡ d) × IsReadable kind c
    × ((other : Certificate) → IsReadable kind other → certificate_value other ≡ d → other ≡ c)
IsDenotedBy kind d (Err NotJson) = ⊥
IsDenotedBy kind d (Err BadVersion) = HasOtherVersion kind d
IsDenotedBy kind d (Err (BadShape item)) =
    ((item ≡ 0) × HasNoShape kind d × ¬ HasOtherVersion kind d) ⊎ HasBadItem kind d item
IsDenotedBy kind d (Err NoMemory) = Unit {0}

-- The bytes spell a value that denotes this.
abbrev pub IsSpelledSo : Kind → List ℕ → Result Certificate JsonFault → Type 0
IsSpelledSo kind bytes result = (d : Data) × Spells bytes d × IsDenotedBy kind d result

-- What bytes denote: they spell no value, or what their value denotes. Want of memory says nothing.
abbrev pub IsDenoted : Kind → List ℕ → Result Certificate JsonFault → Type 0
IsDenoted kind bytes (Ok c) = IsSpelledSo kind bytes (Ok c)
IsDenoted kind bytes (Err NotJson) = (d : Data) → ¬ Spells bytes d
IsDenoted kind bytes (Err BadVersion) = IsSpelledSo kind bytes (Err BadVersion)
IsDenoted kind bytes (Err (BadShape item)) = IsSpelledSo kind bytes (Err (BadShape item))
IsDenoted kind bytes (Err NoMemory) = Unit {0}
