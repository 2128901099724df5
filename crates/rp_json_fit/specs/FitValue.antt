-- The JSON value of a certificate on goodness of fit, and its text (this program's own format). The keys stand in the order
-- of their bytes.
use Rattle.std.specs.Prelude.{ℕ, List, [], ◌∷◌, ◌++◌, codes, map}
use Rattle.rp_fit.specs.declared.item.FitItem.{FitItem}
use Rattle.rp_fit.specs.declared.item.FitItem.TheVariants.{Violations as ViolationsItem, Efficiency as EfficiencyItem, Kept as KeptItem, Levels as LevelsItem, Steps as StepsItem, Pump as PumpItem, QuasilinearLevel as QuasilinearLevelItem, HomotheticLevel as HomotheticLevelItem}
use Rattle.serde_json.specs.Data.{Data, array, object, string, member, no_members}
use Rattle.serde_json.specs.View.{items_of}
use Rattle.serde_json.specs.Written.{compact_text}
use Rattle.rp_json_tests.specs.EfficiencyValue.{efficiency_value}
use Rattle.rp_json_indices.specs.ViolationsValue.{violations_value}
use Rattle.rp_json_indices.specs.KeptValue.{kept_value}
use Rattle.rp_json_indices.specs.LevelsValue.{levels_value}
use Rattle.rp_json_indices.specs.StepsValue.{steps_value}
use Rattle.rp_json_indices.specs.PumpValue.{pump_value}
use Rattle.rp_json_indices.specs.QuasilinearLevelValue.{quasilinear_level_value}
use Rattle.rp_json_indices.specs.HomotheticLevelValue.{homothetic_level_value}
use Rattle.rp_json_entries.specs.Values.{count_value}

-- an item
abbrev pub fit_item_value : FitItem → Data
fit_item_value (ViolationsItem part) = violations_value part
fit_item_value (EfficiencyItem part) = efficiency_value part
fit_item_value (KeptItem part) = kept_value part
fit_item_value (LevelsItem part) = levels_value part
fit_item_value (StepsItem part) = steps_value part
fit_item_value (PumpItem part) = pump_value part
fit_item_value (QuasilinearLevelItem part) = quasilinear_level_value part
fit_item_value (HomotheticLevelItem part) = homothetic_level_value part

-- an object with this version and these items
abbrev pub fit_top : ℕ → List Data → Data
fit_top version items = object (member (codes "items") (array (items_of items))
    (member (codes "kind") (string (codes "fit")) (member (codes "version") (count_value version) no_members)))

-- a certificate with these items
abbrev pub fit_value : List FitItem → Data
fit_value items = fit_top 1 (map fit_item_value items)

-- its text: the value with no space, and a line feed
abbrev pub fit_text : List FitItem → List ℕ
fit_text items = compact_text (fit_value items) ++ 10 ∷ []
