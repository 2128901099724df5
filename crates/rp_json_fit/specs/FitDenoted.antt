-- What bytes denote as a certificate on goodness of fit, or their first refusal (this program's own format). Bytes are
-- read as `serde_json` reads them, so every spelling of a value denotes the same.
use Rattle.std.specs.Prelude.{◌≡◌, ◌≢◌, ◌⊎◌, ◌<◌, ◌+◌, ◌-◌, ◌^◌, ℕ, List, All, length, map, min}
use Rattle.std.specs.Prelude.{slice_index_or, take, codes, Result, Ok, Err, Some}
use Rattle.rp_fit.specs.declared.item.FitItem.{FitItem}
use Rattle.serde_json.specs.Data.{Data, array, null, number, string, unsigned}
use Rattle.serde_json.specs.Find.{get}
use Rattle.serde_json.specs.View.{items_of}
use Rattle.rp_json.specs.Denoted.{Spells}
use Rattle.rp_json.specs.declared.fault.JsonFault.{JsonFault}
use Rattle.rp_json.specs.declared.fault.JsonFault.TheVariants.{BadShape, BadVersion, NoMemory, NotJson}
use Rattle.rp_json_fit.specs.FitLimits.{FitsItem}
use Rattle.rp_json_fit.specs.FitValue.{fit_item_value, fit_top, fit_value}

-- An object of the kind `fit` with these items and this version, and whatever else.
pub record IsFitTop (version : ℕ) (items : List Data) (d : Data) : Type 0 where
  pub has_items : get (codes "items") d ≡ Some (array (items_of items))
  pub has_kind : get (codes "kind") d ≡ Some (string (codes "fit"))
  pub has_version : get (codes "version") d ≡ Some (number (unsigned version))

-- The values before k are those of items; the one at k, from 0, is that of none.
pub record IsFirstNoItem (values : List Data) (k : ℕ) : Type 0 where
  pub within : k < length values
  pub before : (items : List FitItem) × (map fit_item_value items ≡ take k values) × All FitsItem items
  pub none : (item : FitItem) → FitsItem item → fit_item_value item ≢ slice_index_or values k null

-- A certificate of another version than 1.
abbrev pub HasOtherVersion : Data → Type 0
HasOtherVersion d = (version : ℕ) × (items : List Data) × IsFitTop version items d × (version ≢ 1)

-- No certificate of version 1, whatever its items.
abbrev pub HasNoShape : Data → Type 0
HasNoShape d = (items : List Data) → d ≢ fit_top 1 items

-- Of version 1, and this is the first value that is no item; item numbers start at 1 and are cut off at 2^32 - 1.
abbrev pub HasBadItem : Data → ℕ → Type 0
HasBadItem d item =
    (values : List Data) × (d ≡ fit_top 1 values) × ((k : ℕ) × IsFirstNoItem values k × (item ≡ min (k + 1) (2 ^ 32 - 1)))

-- What a value denotes: the items of the one certificate with this value, or the first refusal.
abbrev pub IsFitDenotedBy : Data → Result (List FitItem) JsonFault → Type 0
IsFitDenotedBy d (Ok items) =
    (fit_value items ≡ d) × All FitsItem items
    × ((others : List FitItem) → All FitsItem others → fit_value others ≡ d → others ≡ items)
IsFitDenotedBy d (Err NotJson) = ⊥
IsFitDenotedBy d (Err BadVersion) = HasOtherVersion d
IsFitDenotedBy d (Err (BadShape item)) =
    ((item ≡ 0) × HasNoShape d × ¬ HasOtherVersion d) ⊎ HasBadItem d item
IsFitDenotedBy d (Err NoMemory) = Unit {0}

-- The bytes spell a value that denotes this.
abbrev pub IsSpelledSo : List ℕ → Result (List FitItem) JsonFault → Type 0
IsSpelledSo bytes result = (d : Data) × Spells bytes d × IsFitDenotedBy d result

-- What bytes denote: they spell no value, or what their value denotes. Want of memory says nothing.
abbrev pub IsFitDenoted : List ℕ → Result (List FitItem) JsonFault → Type 0
IsFitDenoted bytes (Ok items) = IsSpelledSo bytes (Ok items)
IsFitDenoted bytes (Err NotJson) = (d : Data) → ¬ Spells bytes d
IsFitDenoted bytes (Err BadVersion) = IsSpelledSo bytes (Err BadVersion)
IsFitDenoted bytes (Err (BadShape item)) = IsSpelledSo bytes (Err (BadShape item))
IsFitDenoted bytes (Err NoMemory) = Unit {0}
