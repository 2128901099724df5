-- When two texts of bounds tell the same of each household, but that one may withhold an amount that the other gives.
use Rattle.std.specs.Prelude.{◌≡◌, ℕ, List}
use Rattle.std.specs.List.{AllZip}
use Rattle.rp_bound_rows.specs.RowText.{bound_rows_text}
use Rattle.rp_bound_rows.specs.declared.asked.BoundsAsked.{BoundsAsked}
use Rattle.rp_bound_rows.specs.declared.asked.BoundsAsked.TheVariants.{Demand, Welfare}
use Rattle.rp_bound_rows.specs.declared.line.Line.{Line}
use Rattle.rp_bound_rows.specs.declared.row.BoundRow.{BoundRow}
use Rattle.rp_bound_rows.specs.declared.row.Bounds.{Bounds}
use Rattle.rp_bound_rows.specs.declared.row.FoundBounds.{FoundBounds}
use Rattle.rp_bound_rows.specs.declared.row.FoundBounds.TheVariants.{Bounds as BoundsFound, Fault as FaultFound}
use Rattle.rp_bound_rows.specs.declared.side.Side.{Side}
use Rattle.rp_bound_rows.specs.declared.side.Side.TheVariants.{Given, Violated, Withheld}

-- what is told of two bounds is the same amount, the same violation of the axiom, or one of them is withheld where the
-- other is given or withheld too
abbrev pub IsSameUnlessWithheld : Side → Side → Type 0
IsSameUnlessWithheld (Given amount) (Given other) = amount ≡ other
IsSameUnlessWithheld (Given amount) Withheld = Unit {0}
IsSameUnlessWithheld (Given amount) Violated = ⊥
IsSameUnlessWithheld Withheld (Given other) = Unit {0}
IsSameUnlessWithheld Withheld Withheld = Unit {0}
IsSameUnlessWithheld Withheld Violated = ⊥
IsSameUnlessWithheld Violated (Given other) = ⊥
IsSameUnlessWithheld Violated Withheld = ⊥
IsSameUnlessWithheld Violated Violated = Unit {0}

-- the same of two upper bounds; of those on the money metric the same is told
abbrev pub IsSameUpper : BoundsAsked → Side → Side → Type 0
IsSameUpper Demand = IsSameUnlessWithheld
IsSameUpper Welfare = λ side other. side ≡ other

-- two lines are about one good or observation at one record of new prices, where `Lower` is what holds of what they tell
-- of the lower bound, and `Upper` of the upper one
pub record IsSameLine (Lower Upper : Side → Side → Type 0) (line other : Line) : Type 0 where
  pub price : line.price ≡ other.price
  pub about : line.about ≡ other.about
  pub lower : Lower line.bounds.lower other.bounds.lower
  pub upper : Upper line.bounds.upper other.bounds.upper

-- the bounds on a table are the same, so
pub record AreSameBounds (Lower Upper : Side → Side → Type 0) (bounds other : Bounds) : Type 0 where
  pub observations : bounds.observations ≡ other.observations
  pub goods : bounds.goods ≡ other.goods
  pub at : AllZip (AllZip (IsSameLine Lower Upper)) bounds.at other.at

-- what two rows tell is the same, so
abbrev pub IsSameFound : (Side → Side → Type 0) → (Side → Side → Type 0) → FoundBounds → FoundBounds → Type 0
IsSameFound Lower Upper (BoundsFound bounds) (BoundsFound other) = AreSameBounds Lower Upper bounds other
IsSameFound Lower Upper (BoundsFound bounds) (FaultFound fault) = ⊥
IsSameFound Lower Upper (FaultFound fault) (BoundsFound bounds) = ⊥
IsSameFound Lower Upper (FaultFound fault) (FaultFound other) = fault ≡ other

pub record IsSameRow (Lower Upper : Side → Side → Type 0) (row other : BoundRow) : Type 0 where
  pub household : row.household ≡ other.household
  pub kept : row.kept ≡ other.kept
  pub found : IsSameFound Lower Upper row.found other.found

-- two texts are rows of bounds that tell the same of each household and of each record that is refused
pub record AreSameButWithheld (asked : BoundsAsked) (kept : List (List ℕ)) (text other : List ℕ) : Type 0 where
  pub rows : List BoundRow
  pub other_rows : List BoundRow
  pub text_is : text ≡ bound_rows_text asked kept rows
  pub other_is : other ≡ bound_rows_text asked kept other_rows
  pub same : AllZip (IsSameRow IsSameUnlessWithheld (IsSameUpper asked)) rows other_rows
