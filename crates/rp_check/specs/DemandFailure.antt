-- When evidence on demand at new prices fails (this program's own order of clauses; Varian 1982).
use Rattle.std.specs.Prelude.{◌≡◌, ◌+◌, ◌*◌, ◌<◌, ◌≤◌, ℕ, Bool, IsTrue, List, [], ◌∷◌, length, slice_index}
use Rattle.std.specs.Prelude.{slice_index_or}
use Rattle.rp_evidence.specs.Clauses.{Finding, Unless, InOrder, FirstBelow, FirstUnless}
use Rattle.rp_clauses.specs.PricesFailure.{ExpenditureFails, PricesFail}
use Rattle.rp_clauses.specs.WalkFailure.{ViolationFails}
use Rattle.rp_evidence.specs.BoundEvidence.{BoundHolds}
use Rattle.rp_evidence.specs.Demand.{BudgetInput, FractionBundle, IsBelow, IsStrictlyBelow, spending}
use Rattle.rp_evidence.specs.DemandEvidence.{budget_of, bundle_of}
use Rattle.rp_evidence.specs.DemandPrograms.{ListsBelow, ListsStrictlyBelow, lower_program, upper_program}
use Rattle.rp_evidence.specs.Input.{TableInput}
use Rattle.rp_evidence.specs.Preference.{IsStrict, IsWeak}
use Rattle.rp_evidence.specs.declared.demand.DemandPart.{DemandPart}
use Rattle.rp_evidence.specs.declared.demand.DemandPart.TheVariants.{Bounds, NoModel}
use Rattle.rp_evidence.specs.declared.demand.GoodBounds.{GoodBounds}
use Rattle.rp_evidence.specs.declared.demand.Point.{Point as InnerPoint}
use Rattle.rp_evidence.specs.declared.failure.Reason.TheVariants.{Shape, Number, NoGarp, Set, Point}
use Rattle.rp_evidence.specs.declared.failure.Reason.TheVariants.{Bound as BoundReason}

-- Good g, from 0: its lower bound, then its upper one, each of which is the price of row g.
abbrev pub GoodFails : TableInput → BudgetInput → List ℕ → ℕ → GoodBounds → Finding
GoodFails input budget below g bounds = InOrder (
    Unless (BoundHolds (lower_program input budget below g) (λ x. x g) bounds.lower) BoundReason (2 * g + 1)
    ∷ Unless (BoundHolds (upper_program input budget below g) (λ x. x g) bounds.upper) BoundReason (2 * g + 2)
    ∷ [])

-- The good of that number in a list of bounds.
abbrev pub GoodFailsAt : TableInput → BudgetInput → List ℕ → List GoodBounds → ℕ → Finding
GoodFailsAt input budget below goods g found =
    (other : GoodBounds) → GoodFails input budget below g (slice_index_or goods g other) found

-- One pair of bounds for each good, and the bounds of each good in order.
abbrev pub GoodsFail : TableInput → BudgetInput → List ℕ → List GoodBounds → Finding
GoodsFail input budget below goods = InOrder (
    Unless (length goods ≡ input.goods) Shape 2
    ∷ FirstBelow input.goods (GoodFailsAt input budget below goods)
    ∷ [])

-- The bundle costs enough at observation t: at least what was spent there where t is below, and more where it is
-- strictly below.
abbrev pub CostsEnoughAt : TableInput → BudgetInput → FractionBundle → ℕ → Type 0
CostsEnoughAt input budget bundle t =
    (IsBelow input budget t → bundle.den * input.cost t t ≤ spending input.goods (input.price t) bundle.num)
    × (IsStrictlyBelow input budget t → bundle.den * input.cost t t < spending input.goods (input.price t) bundle.num)

-- The inner point: a denominator, one numerator for each good, on the budget, and it costs enough at each observation.
abbrev pub InnerFails : TableInput → BudgetInput → InnerPoint → Finding
InnerFails input budget inner = InOrder (
    Unless (0 < inner.den) Number 0
    ∷ Unless (length inner.num ≡ input.goods) Shape 1
    ∷ Unless (spending input.goods budget.prices (slice_index inner.num) ≡ inner.den * budget.expenditure) Point 0
    ∷ FirstUnless input.n (CostsEnoughAt input budget (bundle_of inner)) Point
    ∷ [])

-- The lists of the observations below and strictly below.
abbrev pub SetsFail : TableInput → BudgetInput → List ℕ → List ℕ → Finding
SetsFail input budget below strict = InOrder (
    Unless (ListsBelow input budget below) Set 1 ∷ Unless (ListsStrictlyBelow input budget strict) Set 2 ∷ [])

-- Bounds; `garp_shown` says whether an item before this one shows by ranks that the axiom holds.
abbrev pub DemandBoundsFail : TableInput → Bool → BudgetInput → List ℕ → List ℕ → InnerPoint → List GoodBounds → Finding
DemandBoundsFail input garp_shown budget below strict inner goods = InOrder (
    Unless (IsTrue garp_shown) NoGarp 0
    ∷ SetsFail input budget below strict
    ∷ InnerFails input budget inner
    ∷ GoodsFail input budget below goods
    ∷ [])

-- Bounds, or a violation.
abbrev pub DemandPartFails : TableInput → Bool → BudgetInput → DemandPart → Finding
DemandPartFails input garp_shown budget (Bounds below strict inner goods) =
    DemandBoundsFail input garp_shown budget below strict inner goods
DemandPartFails input garp_shown budget (NoModel walk) =
    ViolationFails input.n (IsWeak input.cost) (IsStrict input.cost) walk

-- An item on demand: the new prices, what is spent at them, and then its part.
abbrev pub DemandFails : TableInput → Bool → List ℕ → ℕ → DemandPart → Finding
DemandFails input garp_shown prices m evidence = InOrder (
    PricesFail input.goods prices
    ∷ ExpenditureFails m
    ∷ DemandPartFails input garp_shown (budget_of prices m) evidence
    ∷ [])
