-- Words that only proofs need: the items of a list of values, and the members of a certificate.
use Rattle.std.specs.Prelude.{◌≡◌, ◌≢◌, ◌+◌, ◌-◌, ◌^◌, ℕ, Bool, true, false, List, All, map, min, Result, Ok, Err, Vec}
use Rattle.std.specs.declared.alloc.Global.{Global}
use Rattle.rp_fit.specs.declared.item.FitItem.{FitItem}
use Rattle.serde_json.specs.Data.{Data}
use Rattle.rp_json.specs.declared.fault.JsonFault.{JsonFault}
use Rattle.rp_json.specs.declared.fault.JsonFault.TheVariants.{BadShape, BadVersion, NoMemory, NotJson}
use Rattle.rp_json_fit.specs.FitDenoted.{IsFirstNoItem, IsFitTop}
use Rattle.rp_json_fit.specs.FitLimits.{FitsItem}
use Rattle.rp_json_fit.specs.FitValue.{fit_item_value, fit_top}

-- The one list of items with these values.
pub record AreFitItems (values : List Data) (items : List FitItem) : Type 0 where
  pub same_values : map fit_item_value items ≡ values
  pub fit : All FitsItem items
  pub only : (others : List FitItem) → All FitsItem others → map fit_item_value others ≡ values → others ≡ items

-- What is wrong with these values: the first that is no item.
abbrev pub IsItemFault : List Data → JsonFault → Type 0
IsItemFault values NotJson = ⊥
IsItemFault values BadVersion = ⊥
IsItemFault values (BadShape item) = (k : ℕ) × IsFirstNoItem values k × (item ≡ min (k + 1) (2 ^ 32 - 1))
IsItemFault values NoMemory = Unit {0}

-- The items of these values, or what is wrong with them.
abbrev pub AreFitItemsBy : List Data → Result (Vec FitItem Global) JsonFault → Type 0
AreFitItemsBy values (Ok items) = AreFitItems values items.items
AreFitItemsBy values (Err fault) = IsItemFault values fault

-- Whether the members are those of a certificate, and no others.
abbrev pub AreAllMembers : Data → Bool → Type 0
AreAllMembers d true = (items : List Data) → IsFitTop 1 items d → d ≡ fit_top 1 items
AreAllMembers d false = (items : List Data) → d ≢ fit_top 1 items
