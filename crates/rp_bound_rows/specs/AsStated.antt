-- Bounds as they are computed, under a true verdict on the axiom (sources at each kind of bound).
use Rattle.std.specs.Prelude.{ℕ, List}
use Rattle.rp_evidence.specs.DemandEvidence.{budget_of}
use Rattle.rp_evidence.specs.Garp.{ProvesGarp}
use Rattle.rp_evidence.specs.Input.{input_of_table}
use Rattle.rp_evidence.specs.declared.demand.DemandPart.{DemandPart}
use Rattle.rp_evidence.specs.declared.demand.WelfarePart.{WelfarePart}
use Rattle.rp_evidence.specs.declared.garp.Garp.{Garp}
use Rattle.rp_support.specs.DemandVerdict.{IsDemandVerdict}
use Rattle.rp_table.specs.Cost.{cost_of}
use Rattle.rp_table.specs.Tables.{Observations, records_of}
use Rattle.rp_welfare.specs.WelfareVerdict.{IsWelfareVerdict}

abbrev pub demand_as_stated : Observations → List ℕ → ℕ → DemandPart → Type 0
demand_as_stated table prices m part =
    (garp : Garp) × ProvesGarp (records_of table) (cost_of table) garp
    × IsDemandVerdict (input_of_table table) (budget_of prices m) garp part

abbrev pub welfare_as_stated : Observations → List ℕ → ℕ → WelfarePart → Type 0
welfare_as_stated table prices t part =
    (garp : Garp) × ProvesGarp (records_of table) (cost_of table) garp
    × IsWelfareVerdict (input_of_table table) prices t garp part
