-- What is given on demand at new prices, from a verdict on the axiom (Varian 1982).
use Rattle.std.specs.Prelude.{◌≡◌}
use Rattle.rp_evidence.specs.Demand.{BudgetInput, IsInnerDemand}
use Rattle.rp_evidence.specs.DemandEvidence.{bundle_of}
use Rattle.rp_evidence.specs.Input.{TableInput}
use Rattle.rp_evidence.specs.declared.demand.DemandPart.{DemandPart}
use Rattle.rp_evidence.specs.declared.demand.DemandPart.TheVariants.{Bounds, NoModel}
use Rattle.rp_evidence.specs.declared.garp.Garp.{Garp}
use Rattle.rp_evidence.specs.declared.garp.Garp.TheVariants.{Cycle, Ranks}
use Rattle.rp_support.specs.Bounds.{AreBoundsOf, AreMixed}

-- Where the axiom holds: the inner demand, and the bounds of each good's programs over the list of those below.
abbrev pub AreDemandBounds : TableInput → BudgetInput → DemandPart → Type 0
AreDemandBounds input budget (Bounds below strict inner goods) =
    IsInnerDemand input budget (bundle_of inner) × AreBoundsOf input budget below goods
AreDemandBounds input budget (NoModel walk) = ⊥

-- From ranks what is given where the axiom holds; from a violation that violation.
abbrev pub IsDemandVerdict : TableInput → BudgetInput → Garp → DemandPart → Type 0
IsDemandVerdict input budget (Ranks ranks) part = AreDemandBounds input budget part
IsDemandVerdict input budget (Cycle cycle) (Bounds below strict inner goods) = ⊥
IsDemandVerdict input budget (Cycle cycle) (NoModel walk) = walk ≡ cycle

-- Where the axiom holds, the price sides of the shown pairs mix with the inner demand, and the programs are bounded.
abbrev pub HasMixtures : TableInput → BudgetInput → DemandPart → Type 0
HasMixtures input budget (Bounds below strict inner goods) = AreMixed input budget below (bundle_of inner) goods
HasMixtures input budget (NoModel walk) = Unit {0}
