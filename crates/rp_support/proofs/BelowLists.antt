-- The observations below and strictly below, by what the closure tells of where the walks to them start.
use Rattle.std.proofs.Common.{◌<◌, ◌↔◌, inl, inr, ℕ, Bool, List, Contains, length, arith, IsTrue, slice_index_or}
use Rattle.rp_evidence.specs.Demand.{BudgetInput, Buys, BuysWithRest, IsBelow, IsStrictStart, IsStrictlyBelow}
use Rattle.rp_evidence.specs.DemandPrograms.{ListsBelow, ListsStrictlyBelow}
use Rattle.rp_evidence.specs.Enumeration.{Enumerates}
use Rattle.rp_evidence.specs.Input.{TableInput}
use Rattle.rp_evidence.specs.Preference.{IsStrict, IsWeak}
use Rattle.rp_evidence.specs.Welfare.{EqualsOrReaches}
use Rattle.rp_evidence.proofs.Enumerations.{enumerates_observed, enumerates_same}
use Rattle.rp_evidence.proofs.EqualOrReached.{equal_or_reached, equals, reaches}
use Rattle.rp_evidence.proofs.StrictStarts.{below_exactly, strictly_exactly}
use Rattle.rp_pref.specs.Closure.{EqualsOrReachesIn, IsClosureOf, Reached}
use Rattle.rp_support.specs.InnerMarks.{MarksEach, IsReachedFrom}

module _ (input : TableInput) (budget : BudgetInput) where
  -- ---- what the closure tells

  module _ (reached : Reached) (closed : IsClosureOf reached input.n (IsWeak input.cost)) (P : ℕ → Type 0) (starts : List Bool) (marks : MarksEach input.n P starts) where
    reached_exactly : (t : ℕ) → t < input.n → IsReachedFrom reached starts t ↔ ((s : ℕ) × (s < input.n) × P s × EqualsOrReaches input s t)
    reached_exactly t t_in = (
      (λ h. let s_in : h.0 < input.n = omega (arith, h.1, closed.size) in (h.0, s_in, (marks.each h.0 s_in).0 h.2, there h.0 s_in h.3)),
      (λ h. (h.0, omega (arith, h.1, closed.size), (marks.each h.0 h.1).1 h.2, back h.0 h.1 h.3)),
    )
      where
        there : (s : ℕ) → s < input.n → EqualsOrReachesIn reached s t → EqualsOrReaches input s t
        there s s_in (inl e) = equals input s t s_in e
        there s s_in (inr r) = reaches input s t ((closed.exact s t s_in t_in).0 r)

        back : (s : ℕ) → s < input.n → EqualsOrReaches input s t → EqualsOrReachesIn reached s t
        back s s_in h = elim (equal_or_reached input s t h) [ inl e ↦ inl e | inr r ↦ inr ((closed.exact s t s_in t_in).1 r) ]

    pub enumerates_reached : (Q : ℕ → Type 0) → ((t : ℕ) → ((s : ℕ) × (s < input.n) × P s × EqualsOrReaches input s t) ↔ Q t) → (list : List ℕ)
        → Enumerates input.n (IsReachedFrom reached starts) list → Enumerates input.n Q list
    enumerates_reached Q same list lists =
        enumerates_same input.n (IsReachedFrom reached starts) Q (λ t t_in. ((λ h. (same t).0 ((reached_exactly t t_in).0 h)), (λ q. (reached_exactly t t_in).1 ((same t).1 q)))) list lists

  pub lists_below : (reached : Reached) → IsClosureOf reached input.n (IsWeak input.cost) → (starts : List Bool) → MarksEach input.n (Buys input budget) starts
      → (those : List ℕ) → Enumerates input.n (IsReachedFrom reached starts) those → ListsBelow input budget those
  lists_below reached closed starts marks those lists =
      enumerates_reached reached closed (Buys input budget) starts marks (IsBelow input budget) (below_exactly input budget) those lists

  pub lists_strictly_below : (reached : Reached) → IsClosureOf reached input.n (IsWeak input.cost) → (starts : List Bool) → MarksEach input.n (IsStrictStart input budget) starts
      → (those : List ℕ) → Enumerates input.n (IsReachedFrom reached starts) those → ListsStrictlyBelow input budget those
  lists_strictly_below reached closed starts marks those lists =
      enumerates_reached reached closed (IsStrictStart input budget) starts marks (IsStrictlyBelow input budget) (strictly_exactly input budget) those lists

  pub strict_start_decided : (below : List ℕ) → ListsBelow input budget below → (v : ℕ) (b : Bool) → ¬ BuysWithRest input budget v
      → IsTrue b ↔ ((u : ℕ) × Contains below u × IsStrict input.cost u v) → IsTrue b ↔ IsStrictStart input budget v
  strict_start_decided below lists v b none marks = (
    (λ h. let u = marks.0 h in let l = (lists.just_these u.0).0 u.1 in inr (u.0, l.0, l.1, u.2)),
    (λ h. elim h [
      | inl rest ↦ absurd (none rest)
      | inr u ↦ marks.1 (u.0, (lists.just_these u.0).1 (u.1, u.2), u.3)
    ]),
  )

  pub below_observed : (below : List ℕ) → ListsBelow input budget below → (k d : ℕ) → k < length below → slice_index_or below k d < input.n
  below_observed below lists = enumerates_observed input.n (IsBelow input budget) below lists
