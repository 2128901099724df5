-- The value of a bound, in lowest terms and within its width (this project's own form).
use Rattle.rp_num.specs.Spelled.{IsReduced}
use Rattle.rp_evidence.specs.declared.demand.Bound.{Bound}
use Rattle.rp_evidence.specs.declared.demand.Bound.TheVariants.{Shown, Wide}

abbrev pub HasReducedValue : Bound → Type 0
HasReducedValue (Shown value pair) = IsReduced value
HasReducedValue (Wide step) = Unit {0}
