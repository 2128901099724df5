-- How large the parts of shown bounds are (this program's own limits).
use Rattle.std.specs.Prelude.{◌^◌, ◌<◌, All}
use Rattle.rp_evidence.specs.declared.demand.Bound.{Bound}
use Rattle.rp_evidence.specs.declared.demand.Bound.TheVariants.{Shown, Wide}
use Rattle.rp_evidence.specs.declared.demand.DemandPart.{DemandPart}
use Rattle.rp_evidence.specs.declared.demand.DemandPart.TheVariants.{Bounds, NoModel}
use Rattle.rp_evidence.specs.declared.demand.GoodBounds.{GoodBounds}
use Rattle.rp_evidence.specs.declared.demand.WelfarePart.{WelfarePart}
use Rattle.rp_evidence.specs.declared.demand.WelfarePart.TheVariants.{Bounds as WelfareBounds, NoModel as NoWelfare}

-- the parts of a shown value; a withheld bound has none
abbrev pub HasSmallParts : Bound → Type 0
HasSmallParts (Shown value pair) = (value.num < 2 ^ 107) × (value.den < 2 ^ 64)
HasSmallParts (Wide step) = Unit {0}

-- those of both bounds of a good
abbrev pub HasSmallGood : GoodBounds → Type 0
HasSmallGood bounds = HasSmallParts bounds.lower × HasSmallParts bounds.upper

-- those of all bounds on demand
abbrev pub HasSmallDemand : DemandPart → Type 0
HasSmallDemand (Bounds below strict inner goods) = All HasSmallGood goods
HasSmallDemand (NoModel walk) = Unit {0}

-- those of the lower bound on the money metric
abbrev pub HasSmallWelfare : WelfarePart → Type 0
HasSmallWelfare (WelfareBounds upper at lower) = HasSmallParts lower
HasSmallWelfare (NoWelfare walk) = Unit {0}
