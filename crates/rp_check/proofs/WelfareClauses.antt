-- The clauses of an item on welfare, put together.
use Rattle.std.proofs.Common.{◌≡◌, ◌<◌, ◌↔◌, [], ◌∷◌, ℕ, Bool, IsTrue, List, Result, Ok, slice_index, sym, subst}
use Rattle.rp_evidence.specs.BoundEvidence.{BoundHolds}
use Rattle.rp_evidence.specs.Demand.{spending}
use Rattle.rp_evidence.specs.Input.{TableInput}
use Rattle.rp_evidence.specs.Preference.{IsStrict, IsWeak}
use Rattle.rp_evidence.specs.LeastCost.{least_cost_program}
use Rattle.rp_evidence.specs.Welfare.{EqualsOrReaches, ListsReached}
use Rattle.rp_evidence.specs.declared.demand.Bound.{Bound}
use Rattle.rp_evidence.specs.declared.demand.WelfarePart.{WelfarePart}
use Rattle.rp_evidence.specs.declared.demand.WelfarePart.TheVariants.{Bounds, NoModel}
use Rattle.rp_evidence.specs.declared.failure.Failure.{Failure}
use Rattle.rp_evidence.specs.declared.failure.Reason.TheVariants.{Number}
use Rattle.rp_evidence.specs.Clauses.{InOrder, Unless}
use Rattle.rp_clauses.specs.PricesFailure.{PricesFail}
use Rattle.rp_evidence.specs.Enumeration.{Enumerates}
use Rattle.rp_evidence.specs.Marks.{AreMarked, IsMarked}
use Rattle.rp_clauses.specs.WalkFailure.{ViolationFails}
use Rattle.rp_check.specs.WelfareFailure.{LowerHolds, WelfareBoundsFail, WelfareFails, WelfarePartFails}
use Rattle.rp_evidence.proofs.Enumerations.{enumerates_same, enumeration_is_one}
use Rattle.rp_farkas.specs.Measure.{measured}
use Rattle.rp_farkas.specs.declared.measure.Measure.TheVariants.{Cost}
use Rattle.rp_clauses.proofs.BoundMeasures.{holds_alike}
use Rattle.rp_programs.proofs.LeastCosts.{measure_is}
use Rattle.rp_evidence.proofs.ClauseLemmas.{then_last}

module _ (input : TableInput) (t : ℕ) where
  pub lists_reached : (marks : List Bool) (list : List ℕ) → AreMarked input.n (EqualsOrReaches input t) marks → Enumerates input.n (IsMarked marks) list → ListsReached input t list
  lists_reached marks list are lists = enumerates_same input.n (IsMarked marks) (EqualsOrReaches input t) are list lists

  pub lower_told : (prices : ℕ → ℕ) (lower : Bound) (list : List ℕ) (b : Bool) → ListsReached input t list
      → IsTrue b ↔ BoundHolds (least_cost_program input prices list) (spending input.goods prices) lower → IsTrue b ↔ LowerHolds input prices t lower
  lower_told prices lower list b lists told = (
    (λ h. (list, lists, told.0 h)),
    (λ h. told.1 (subst (λ (xs : List ℕ). BoundHolds (least_cost_program input prices xs) (spending input.goods prices) lower) (enumeration_is_one input.n (EqualsOrReaches input t) h.0 list h.1 lists) h.2)),
  )

-- ---- what the price side costs is what it costs at the new prices

module _ (input : TableInput) (prices : ℕ → ℕ) (reached : List ℕ) where
  pub cost_told : (bound : Bound) (b : Bool) → IsTrue b ↔ BoundHolds (least_cost_program input prices reached) (measured (least_cost_program input prices reached) Cost) bound
      → IsTrue b ↔ BoundHolds (least_cost_program input prices reached) (spending input.goods prices) bound
  cost_told bound b told =
      let same = holds_alike (least_cost_program input prices reached) (measured (least_cost_program input prices reached) Cost) (spending input.goods prices) (measure_is input prices reached) bound in
      ((λ h. same.0 (told.0 h)), (λ h. told.1 (same.1 h)))

-- ---- the parts of an item

module _ (input : TableInput) (garp_shown : Bool) (prices : List ℕ) (t : ℕ) (evidence : WelfarePart) (r : Result (Unit {0}) Failure) (fit : PricesFail input.goods prices (Ok tt)) where
  whole : WelfarePartFails input garp_shown (slice_index prices) t evidence r → WelfareFails input garp_shown prices t evidence r
  whole h = then_last (PricesFail input.goods prices) (WelfarePartFails input garp_shown (slice_index prices) t evidence) r fit h

  pub from_part : (other : WelfarePart) → evidence ≡ other → WelfarePartFails input garp_shown (slice_index prices) t other r → WelfareFails input garp_shown prices t evidence r
  from_part other is h = whole (subst (λ (p : WelfarePart). WelfarePartFails input garp_shown (slice_index prices) t p r) (sym is) h)

  pub from_bounds : (upper at : ℕ) (lower : Bound) → evidence ≡ Bounds upper at lower → t < input.n → at < input.n
      → WelfareBoundsFail input garp_shown (slice_index prices) t upper at lower r → WelfareFails input garp_shown prices t evidence r
  from_bounds upper at lower is t_in at_in h =
      from_part (Bounds upper at lower) is
      (then_last (Unless ((t < input.n) × (at < input.n)) Number 0) (WelfareBoundsFail input garp_shown (slice_index prices) t upper at lower) r (t_in, at_in) h)

  pub from_violation : (walk walk' : List ℕ) → evidence ≡ NoModel walk → walk' ≡ walk → InOrder (Unless (t < input.n) Number 0 ∷ ViolationFails input.n (IsWeak input.cost) (IsStrict input.cost) walk' ∷ []) r
      → WelfareFails input garp_shown prices t evidence r
  from_violation walk walk' is same h =
      from_part (NoModel walk) is (subst (λ (w : List ℕ). InOrder (Unless (t < input.n) Number 0 ∷ ViolationFails input.n (IsWeak input.cost) (IsStrict input.cost) w ∷ []) r) same h)
