-- When evidence on the money metric fails (this program's own order of clauses; after Varian 1982).
use Rattle.std.specs.Prelude.{◌≡◌, ◌<◌, ◌≤◌, ℕ, Bool, IsTrue, List, [], ◌∷◌, slice_index}
use Rattle.rp_evidence.specs.Clauses.{Finding, Unless, InOrder, FirstUnless}
use Rattle.rp_clauses.specs.PricesFailure.{PricesFail}
use Rattle.rp_clauses.specs.WalkFailure.{ViolationFails}
use Rattle.rp_evidence.specs.BoundEvidence.{BoundHolds}
use Rattle.rp_evidence.specs.Demand.{spending}
use Rattle.rp_evidence.specs.Input.{TableInput}
use Rattle.rp_evidence.specs.Preference.{IsStrict, IsWeak}
use Rattle.rp_evidence.specs.LeastCost.{least_cost_program}
use Rattle.rp_evidence.specs.Welfare.{EqualsOrReaches, ListsReached}
use Rattle.rp_evidence.specs.declared.demand.Bound.{Bound}
use Rattle.rp_evidence.specs.declared.demand.WelfarePart.{WelfarePart}
use Rattle.rp_evidence.specs.declared.demand.WelfarePart.TheVariants.{Bounds, NoModel}
use Rattle.rp_evidence.specs.declared.failure.Reason.TheVariants.{Number, NoGarp, Set, Point, Least}
use Rattle.rp_evidence.specs.declared.failure.Reason.TheVariants.{Bound as BoundReason}

-- The lower bound of observation t is what the price side costs, by the program over t and all that t reaches.
abbrev pub LowerHolds : TableInput → (ℕ → ℕ) → ℕ → Bound → Type 0
LowerHolds input prices t lower =
    (reached : List ℕ) × ListsReached input t reached
    × BoundHolds (least_cost_program input prices reached) (spending input.goods prices) lower

-- The upper bound is not above what the bundle of s costs, if s equals or reaches t.
abbrev pub IsNotAboveAt : TableInput → (ℕ → ℕ) → ℕ → ℕ → ℕ → Type 0
IsNotAboveAt input prices t upper s =
    EqualsOrReaches input s t → upper ≤ spending input.goods prices (input.quantity s)

-- Bounds; `garp_shown` says whether an item before this one shows by ranks that the axiom holds.
abbrev pub WelfareBoundsFail : TableInput → Bool → (ℕ → ℕ) → ℕ → ℕ → ℕ → Bound → Finding
WelfareBoundsFail input garp_shown prices t upper at lower = InOrder (
    Unless (IsTrue garp_shown) NoGarp 0
    ∷ Unless (EqualsOrReaches input at t) Set 1
    ∷ Unless (upper ≡ spending input.goods prices (input.quantity at)) Point 0
    ∷ FirstUnless input.n (IsNotAboveAt input prices t upper) Least
    ∷ Unless (LowerHolds input prices t lower) BoundReason 1
    ∷ [])

-- Bounds, of which the observation that the upper one stands at is looked at too; or a violation.
abbrev pub WelfarePartFails : TableInput → Bool → (ℕ → ℕ) → ℕ → WelfarePart → Finding
WelfarePartFails input garp_shown prices t (Bounds upper at lower) = InOrder (
    Unless ((t < input.n) × (at < input.n)) Number 0
    ∷ WelfareBoundsFail input garp_shown prices t upper at lower
    ∷ [])
WelfarePartFails input garp_shown prices t (NoModel walk) = InOrder (
    Unless (t < input.n) Number 0 ∷ ViolationFails input.n (IsWeak input.cost) (IsStrict input.cost) walk ∷ [])

-- An item on welfare: the new prices, and then its part.
abbrev pub WelfareFails : TableInput → Bool → List ℕ → ℕ → WelfarePart → Finding
WelfareFails input garp_shown prices t evidence = InOrder (
    PricesFail input.goods prices ∷ WelfarePartFails input garp_shown (slice_index prices) t evidence ∷ [])
