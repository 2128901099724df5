-- The limits within which bounds and random choices are read back (this program's own format).
use Rattle.std.specs.Prelude.{ℕ, List, All}
use Rattle.rp_num.specs.Spelled.{IsReduced}
use Rattle.rp_evidence.specs.declared.demand.Bound.{Bound}
use Rattle.rp_evidence.specs.declared.demand.Bound.TheVariants.{Shown, Wide as WideBound}
use Rattle.rp_evidence.specs.declared.demand.DemandPart.{DemandPart}
use Rattle.rp_evidence.specs.declared.demand.DemandPart.TheVariants.{Bounds, NoModel as NoDemand}
use Rattle.rp_evidence.specs.declared.demand.GoodBounds.{GoodBounds}
use Rattle.rp_evidence.specs.declared.demand.Point.{Point}
use Rattle.rp_evidence.specs.declared.demand.WelfarePart.{WelfarePart}
use Rattle.rp_evidence.specs.declared.demand.WelfarePart.TheVariants.{Bounds as WelfareBounds, NoModel as NoWelfare}
use Rattle.rp_evidence.specs.declared.random.RandomPart.{RandomPart}
use Rattle.rp_evidence.specs.declared.random.RandomPart.TheVariants.{Mixture, Violated, Wide as WideRandom}
use Rattle.rp_evidence.specs.declared.random.Share.{Share}
use Rattle.rp_farkas.specs.declared.entry.Entry.{Entry}
use Rattle.rp_json_entries.specs.Reading.{FitObservations, FitsCount, FitsLong, FitsObservation}

abbrev pub FitsEntry : Entry → Type 0
FitsEntry entry = FitsObservation entry.at × FitsLong entry.value

abbrev pub FitsBound : Bound → Type 0
FitsBound (Shown value pair) = FitsLong pair.den × IsReduced value × All FitsLong pair.x × All FitsEntry pair.y
FitsBound (WideBound step) = FitsLong step

abbrev pub FitsGood : GoodBounds → Type 0
FitsGood bounds = FitsBound bounds.lower × FitsBound bounds.upper

abbrev pub FitsPoint : Point → Type 0
FitsPoint point = FitsLong point.den × All FitsLong point.num

abbrev pub FitsDemand : List ℕ → ℕ → DemandPart → Type 0
FitsDemand prices m (Bounds below strict inner goods) =
    FitObservations below × FitsLong m × All FitsGood goods × FitsPoint inner × All FitsCount prices
    × FitObservations strict
FitsDemand prices m (NoDemand cycle) = FitObservations cycle × FitsLong m × All FitsCount prices

abbrev pub FitsWelfare : List ℕ → ℕ → WelfarePart → Type 0
FitsWelfare prices of (WelfareBounds upper at lower) =
    FitsObservation at × FitsBound lower × FitsObservation of × All FitsCount prices × FitsLong upper
FitsWelfare prices of (NoWelfare cycle) = FitObservations cycle × FitsObservation of × All FitsCount prices

abbrev pub FitsShare : Share → Type 0
FitsShare share = FitObservations share.patches × FitsLong share.weight

abbrev pub FitsRandom : ℕ → RandomPart → Type 0
FitsRandom total (Mixture den parts) = FitsLong den × All FitsShare parts × FitsLong total
FitsRandom total (Violated den parts weights) = FitsLong den × All FitsShare parts × FitsLong total
    × All FitsLong weights
FitsRandom total (WideRandom step) = FitsLong total × FitsLong step
