-- What a line tells of a bound: of the shown one its amount, and that it is withheld just where it is (this program's
-- own).
use Rattle.std.specs.Prelude.{◌≡◌, ℕ}
use Rattle.rp_evidence.specs.declared.demand.Bound.{Bound}
use Rattle.rp_evidence.specs.declared.demand.Bound.TheVariants.{Shown, Wide}
use Rattle.rp_bound_rows.specs.Amounts.{IsInUnits}
use Rattle.rp_bound_rows.specs.declared.side.Side.{Side}
use Rattle.rp_bound_rows.specs.declared.side.Side.TheVariants.{Given, Violated, Withheld}
use Rattle.rp_bound_rows.specs.declared.side.Sides.{Sides}

-- it is the amount of a scaled number, in the units of its file
abbrev pub IsAmountOf : ℕ → ℕ → ℕ → Side → Type 0
IsAmountOf places num den (Given amount) = IsInUnits places num den amount
IsAmountOf places num den Withheld = ⊥
IsAmountOf places num den Violated = ⊥

-- what is told of a bound on scaled numbers, where their scale has so many places
abbrev pub IsSideOf : ℕ → Bound → Side → Type 0
IsSideOf places (Shown value pair) side = IsAmountOf places value.num value.den side
IsSideOf places (Wide step) side = side ≡ Withheld

-- there are no bounds, since the axiom is violated
pub record AreViolated (sides : Sides) : Type 0 where
  pub lower : sides.lower ≡ Violated
  pub upper : sides.upper ≡ Violated
