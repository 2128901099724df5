-- The limits within which evidence of the tests of a table is read back (this program's own format).
use Rattle.std.specs.Prelude.{All}
use Rattle.rp_num.specs.Spelled.{FitsSum, IsReduced}
use Rattle.rp_evidence.specs.declared.afriat.AfriatPart.{AfriatPart}
use Rattle.rp_evidence.specs.declared.afriat.AfriatPart.TheVariants.{Model, NoModel, Wide}
use Rattle.rp_evidence.specs.declared.efficiency.Efficiency.{Efficiency}
use Rattle.rp_evidence.specs.declared.garp.Garp.{Garp}
use Rattle.rp_evidence.specs.declared.garp.Garp.TheVariants.{Ranks, Cycle}
use Rattle.rp_evidence.specs.declared.homothetic.Homothetic.{Homothetic}
use Rattle.rp_evidence.specs.declared.homothetic.Homothetic.TheVariants.{Values, Cycle as Falls, Withheld}
use Rattle.rp_evidence.specs.declared.level.Level.{Level}
use Rattle.rp_evidence.specs.declared.quasilinear.Quasi.{Quasi}
use Rattle.rp_evidence.specs.declared.quasilinear.Quasi.TheVariants.{Values as Sums, Cycle as Negative}
use Rattle.rp_json_entries.specs.Reading.{FitObservations, FitsCount, FitsLong, FitsObservation}

abbrev pub FitsGarp : Garp → Type 0
FitsGarp (Ranks ranks) = All FitsCount ranks
FitsGarp (Cycle cycle) = FitObservations cycle

abbrev pub FitsAfriat : AfriatPart → Type 0
FitsAfriat (Model numbers) = All FitsLong numbers.lambda × All FitsSum numbers.u
FitsAfriat (NoModel cycle) = FitObservations cycle
FitsAfriat (Wide at) = FitsObservation at

-- A level is a fraction in lowest terms whose parts have 64 bits.
abbrev pub FitsLevel : Level → Type 0
FitsLevel level = IsReduced (record { num = level.num; den = level.den }) × FitsLong level.num × FitsLong level.den

abbrev pub FitsEfficiency : Efficiency → Type 0
FitsEfficiency evidence = FitObservations evidence.above × FitsGarp evidence.at × All FitsCount evidence.below
    × FitsLevel evidence.level

abbrev pub FitsHomothetic : Homothetic → Type 0
FitsHomothetic (Values values) = All IsReduced values
FitsHomothetic (Falls start steps) = FitObservations steps × IsReduced start
FitsHomothetic (Withheld steps from to) = FitsCount steps × FitsObservation from × FitsObservation to

abbrev pub FitsQuasilinear : Quasi → Type 0
FitsQuasilinear (Sums values) = All FitsSum values
FitsQuasilinear (Negative cycle) = FitObservations cycle
