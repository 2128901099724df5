-- The report of a certificate as text (this program's own format).
use Rattle.std.specs.Prelude.{ℕ, List, [], ◌∷◌, ◌++◌, codes}
use Rattle.std.specs.List.{flat_map}
use Rattle.rp_table.specs.Tables.{Observations}
use Rattle.rp_evidence.specs.declared.certificate.Item.{Item}
use Rattle.rp_evidence.specs.declared.certificate.Item.TheVariants.{Garp as GarpItem, Afriat as AfriatItem}
use Rattle.rp_evidence.specs.declared.certificate.Item.TheVariants.{Efficiency as EfficiencyItem}
use Rattle.rp_evidence.specs.declared.certificate.Item.TheVariants.{Homothetic as HomotheticItem, Quasi as QuasiItem}
use Rattle.rp_evidence.specs.declared.certificate.Item.TheVariants.{Demand as DemandItem, Welfare as WelfareItem}
use Rattle.rp_evidence.specs.declared.certificate.Item.TheVariants.{Random as RandomItem}
use Rattle.rp_report.specs.AfriatText.{afriat_text}
use Rattle.rp_report.specs.DemandText.{demand_text}
use Rattle.rp_report.specs.EfficiencyText.{efficiency_text}
use Rattle.rp_report.specs.GarpText.{garp_text}
use Rattle.rp_report.specs.HomotheticText.{homothetic_text}
use Rattle.rp_print.specs.HeadText.{head_text}
use Rattle.rp_print.specs.ListText.{line_of, numbers_text}
use Rattle.rp_report.specs.QuasilinearText.{quasilinear_text}
use Rattle.rp_report.specs.WelfareText.{welfare_text}

-- an item on a table; random choices have no place in this report
abbrev pub item_text : Item → List ℕ
item_text (GarpItem verdict) = garp_text verdict
item_text (AfriatItem evidence) = afriat_text evidence
item_text (EfficiencyItem evidence) = efficiency_text evidence
item_text (HomotheticItem verdict) = homothetic_text verdict
item_text (QuasiItem verdict) = quasilinear_text verdict
item_text (DemandItem prices m evidence) = demand_text prices m evidence
item_text (WelfareItem prices of evidence) = welfare_text prices of evidence
item_text (RandomItem total evidence) = []

-- the levels of observations, where they have any
abbrev pub levels_text : List ℕ → List ℕ
levels_text [] = []
levels_text (level ∷ levels) = line_of (codes "levels " ++ numbers_text (level ∷ levels))

-- the lines on a table
abbrev pub table_text : Observations → List ℕ
table_text table = head_text table ++ levels_text table.levels

-- the report of these items on a table
abbrev pub report_text : Observations → List Item → List ℕ
report_text table items = table_text table ++ flat_map item_text items
