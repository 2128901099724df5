-- What the searches give for a table, item by item (sources at each kind of evidence), and what it is that nothing is
-- found wrong with it.
use Rattle.std.specs.Prelude.{◌≡◌, ◌<◌, Ok, []}
use Rattle.rp_afriat.specs.AfriatVerdict.{IsOwnAfriatVerdict}
use Rattle.rp_evidence.specs.Clauses.{Finding}
use Rattle.rp_effic.specs.EfficiencyVerdict.{IsEfficiencyVerdict}
use Rattle.rp_evidence.specs.DemandEvidence.{budget_of}
use Rattle.rp_evidence.specs.Input.{TableInput}
use Rattle.rp_evidence.specs.Proves.{Proves}
use Rattle.rp_evidence.specs.declared.certificate.Item.{Item}
use Rattle.rp_evidence.specs.declared.certificate.Item.TheVariants.{Garp as GarpItem, Afriat as AfriatItem}
use Rattle.rp_evidence.specs.declared.certificate.Item.TheVariants.{Efficiency as EfficiencyItem}
use Rattle.rp_evidence.specs.declared.certificate.Item.TheVariants.{Homothetic as HomotheticItem, Quasi as QuasiItem}
use Rattle.rp_evidence.specs.declared.certificate.Item.TheVariants.{Demand as DemandItem, Welfare as WelfareItem}
use Rattle.rp_evidence.specs.declared.certificate.Item.TheVariants.{Random as RandomItem}
use Rattle.rp_evidence.specs.declared.garp.Garp.{Garp}
use Rattle.rp_garp.specs.GarpVerdict.{IsOwnGarpVerdict}
use Rattle.rp_homo.specs.HomotheticVerdict.{IsHomotheticVerdict}
use Rattle.rp_quasi.specs.QuasilinearVerdict.{IsQuasilinearVerdict}
use Rattle.rp_support.specs.DemandVerdict.{IsDemandVerdict}
use Rattle.rp_table.specs.Limits.{IsExpenditure}
use Rattle.rp_table.specs.NewPrices.{AreNewPrices}
use Rattle.rp_welfare.specs.WelfareVerdict.{IsWelfareVerdict}

-- Nothing is found wrong.
abbrev pub PassesCheck : Finding → Type 0
PassesCheck finding = finding (Ok tt)

-- The item is as the search for its kind gives it: for the axiom and Afriat's numbers by the levels of the
-- observations' own, where they have them. Demand and welfare are given from this verdict on the axiom, where there are
-- no levels, at new prices that are within their limits.
abbrev pub IsVerdictFrom : TableInput → Garp → Item → Type 0
IsVerdictFrom input verdict (GarpItem garp) = IsOwnGarpVerdict input.n input.levels input.cost garp
IsVerdictFrom input verdict (AfriatItem part) = IsOwnAfriatVerdict input.n input.levels input.cost part
IsVerdictFrom input verdict (EfficiencyItem evidence) = IsEfficiencyVerdict input.n input.cost evidence
IsVerdictFrom input verdict (HomotheticItem homothetic) = IsHomotheticVerdict input.n input.cost homothetic
IsVerdictFrom input verdict (QuasiItem quasilinear) = IsQuasilinearVerdict input.n input.cost quasilinear
IsVerdictFrom input verdict (DemandItem prices m part) =
    (input.levels ≡ []) × AreNewPrices input.goods prices × IsExpenditure m
    × IsDemandVerdict input (budget_of prices m) verdict part
IsVerdictFrom input verdict (WelfareItem prices t part) =
    (input.levels ≡ []) × AreNewPrices input.goods prices × (t < input.n)
    × IsWelfareVerdict input prices t verdict part
IsVerdictFrom input verdict (RandomItem total part) = ⊥

-- The item proves its verdict, and it is as it is given.
abbrev pub ProvesVerdict : TableInput → Garp → Item → Type 0
ProvesVerdict input verdict item = Proves input item × IsVerdictFrom input verdict item
