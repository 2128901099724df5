-- The report of a certificate on goodness of fit as text (this program's own format).
use Rattle.std.specs.Prelude.{ℕ, List, ◌++◌}
use Rattle.std.specs.List.{flat_map}
use Rattle.rp_fit.specs.declared.item.FitItem.{FitItem}
use Rattle.rp_fit.specs.declared.item.FitItem.TheVariants.{Efficiency, HomotheticLevel, Kept, Levels, Pump, QuasilinearLevel, Steps, Violations}
use Rattle.rp_print.specs.HeadText.{head_text}
use Rattle.rp_report.specs.EfficiencyText.{efficiency_text}
use Rattle.rp_table.specs.Cost.{cost_of}
use Rattle.rp_table.specs.Tables.{Observations, records_of}
use Rattle.rp_fit_report.specs.KeptText.{kept_text}
use Rattle.rp_fit_report.specs.LevelWalksText.{homothetic_level_text, pump_ratio_text, quasilinear_level_text}
use Rattle.rp_fit_report.specs.LevelsText.{levels_text}
use Rattle.rp_fit_report.specs.StepsText.{steps_text}
use Rattle.rp_fit_report.specs.ViolationsText.{violations_text}

-- an item on a table, by its kind
abbrev pub fit_item_text : Observations → FitItem → List ℕ
fit_item_text table (Violations part) = violations_text (records_of table) part
fit_item_text table (Efficiency evidence) = efficiency_text evidence
fit_item_text table (Kept part) = kept_text (records_of table) part
fit_item_text table (Levels part) = levels_text (records_of table) (cost_of table) part
fit_item_text table (Steps part) = steps_text (records_of table) (cost_of table) part
fit_item_text table (Pump part) = pump_ratio_text part
fit_item_text table (QuasilinearLevel part) = quasilinear_level_text part
fit_item_text table (HomotheticLevel part) = homothetic_level_text part

-- the line on the table, and the lines of each item
abbrev pub fit_report_text : Observations → List FitItem → List ℕ
fit_report_text table items = head_text table ++ flat_map (fit_item_text table) items
