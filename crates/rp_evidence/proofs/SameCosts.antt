-- What holds for some steps or costs holds for all that are the same between the observations.
use Rattle.std.proofs.Common.{◌≡◌, ◌<◌, ◌≤◌, ◌*◌, ◌⊎◌, ◌↔◌, ℕ, List, inl, inr, sym, subst}
use Rattle.rp_evidence.specs.Count.{AreCounts, IsCount}
use Rattle.rp_evidence.specs.Garp.{HasNoViolation, IsViolation, IsViolationAt, MeetsGarpAt, ProvesGarp, ProvesOfPreference}
use Rattle.rp_evidence.specs.Preference.{AgreeBelow, IsStrict, IsStrictAt, IsWeak, IsWeakAt}
use Rattle.rp_evidence.specs.Ranks.{OrderSteps, OrderStrictSteps, RespectPreference}
use Rattle.rp_evidence.specs.Walk.{IsShortestWalk, IsWalk, Reaches}
use Rattle.rp_evidence.specs.declared.garp.Garp.{Garp}
use Rattle.rp_evidence.specs.declared.garp.Garp.TheVariants.{Ranks, Cycle}
use Rattle.rp_evidence.proofs.CountLists.{number_same}
use Rattle.rp_evidence.proofs.Violations.{violates_by_weaker}
use Rattle.rp_evidence.proofs.Walks.{walks_by_weaker}

pub agree_back : (n : ℕ) (c d : ℕ → ℕ → ℕ) → AgreeBelow n c d → AgreeBelow n d c
agree_back n c d same s t a b = sym (same s t a b)

-- ---- walks by steps that are the same

module _ (n : ℕ) (step other : ℕ → ℕ → Type 0) (same : (s t : ℕ) → s < n → t < n → step s t ↔ other s t) where
  pub walk_same : (s t : ℕ) (walk : List ℕ) → IsWalk n step s t walk → IsWalk n other s t walk
  walk_same = walks_by_weaker n step other (λ s t a b. (same s t a b).0)

  pub walk_same_back : (s t : ℕ) (walk : List ℕ) → IsWalk n other s t walk → IsWalk n step s t walk
  walk_same_back = walks_by_weaker n other step (λ s t a b. (same s t a b).1)

  pub reach_same : (s t : ℕ) → Reaches n step s t ↔ Reaches n other s t
  reach_same s t = (λ r. (r.0, walk_same s t r.0 r.1, r.2), λ r. (r.0, walk_same_back s t r.0 r.1, r.2))

  pub shortest_same : (s t : ℕ) (walk : List ℕ) → IsShortestWalk n step s t walk → IsShortestWalk n other s t walk
  shortest_same s t walk h = record {
    leads = walk_same s t walk h.leads;
    has_step = h.has_step;
    fewest = λ w k l. h.fewest w (walk_same_back s t w k) l;
  }

  pub count_same : (s k : ℕ) → IsCount n step s k → IsCount n other s k
  count_same s k = number_same n (λ t. (t ≡ s) ⊎ Reaches n step s t) (λ t. (t ≡ s) ⊎ Reaches n other s t) k (λ t l. (there t, back t))
    where
      there : (t : ℕ) → (t ≡ s) ⊎ Reaches n step s t → (t ≡ s) ⊎ Reaches n other s t
      there t (inl e) = inl e
      there t (inr r) = inr ((reach_same s t).0 r)

      back : (t : ℕ) → (t ≡ s) ⊎ Reaches n other s t → (t ≡ s) ⊎ Reaches n step s t
      back t (inl e) = inl e
      back t (inr r) = inr ((reach_same s t).1 r)

  pub counts_same : (counts : List ℕ) → AreCounts n step counts → AreCounts n other counts
  counts_same counts are = record { one_each = are.one_each; each = λ s l. count_same s _ (are.each s l) }

  pub order_steps_same : (ranks : List ℕ) → OrderSteps n step ranks → OrderSteps n other ranks
  order_steps_same ranks r = record { one_each = r.one_each; step_falls = λ s t a b h. r.step_falls s t a b ((same s t a b).1 h) }

-- ---- preferences that are the same

module _ (n : ℕ) (weak strict weak' strict' : ℕ → ℕ → Type 0) (weak_is : (s t : ℕ) → s < n → t < n → weak s t ↔ weak' s t) (strict_is : (s t : ℕ) → s < n → t < n → strict s t ↔ strict' s t) where
  pub preference_violation_same : (walk : List ℕ) → IsViolation n weak strict walk → IsViolation n weak' strict' walk
  preference_violation_same =
      violates_by_weaker n weak strict weak' strict' (λ s t a b. (weak_is s t a b).0) (λ s t a b. (strict_is s t a b).0)

  pub no_violation_same : HasNoViolation n weak strict → HasNoViolation n weak' strict'
  no_violation_same none walk v =
      none walk (violates_by_weaker n weak' strict' weak strict (λ s t a b. (weak_is s t a b).1) (λ s t a b. (strict_is s t a b).1) walk v)

  pub respect_preference_same : (ranks : List ℕ) → RespectPreference n weak strict ranks → RespectPreference n weak' strict' ranks
  respect_preference_same ranks r = record {
    one_each = r.one_each;
    weak_never_rises = λ s t a b h. r.weak_never_rises s t a b ((weak_is s t a b).1 h);
    strict_falls = λ s t a b h. r.strict_falls s t a b ((strict_is s t a b).1 h);
  }

  pub proves_of_preference_same : (verdict : Garp) → ProvesOfPreference n weak strict verdict → ProvesOfPreference n weak' strict' verdict
  proves_of_preference_same (Ranks ranks) p = (respect_preference_same ranks p.0, no_violation_same p.1)
  proves_of_preference_same (Cycle walk) p = preference_violation_same walk p

-- ---- costs that are the same

module _ (n : ℕ) (c d : ℕ → ℕ → ℕ) (num den : ℕ) (same : AgreeBelow n c d) where
  weak_there : (s t : ℕ) → s < n → t < n → IsWeakAt c num den s t → IsWeakAt d num den s t
  weak_there s t a b h =
      subst (λ y. den * d s t ≤ num * y) (same s s a a) (subst (λ x. den * x ≤ num * c s s) (same s t a b) h)

  strict_there : (s t : ℕ) → s < n → t < n → IsStrictAt c num den s t → IsStrictAt d num den s t
  strict_there s t a b h =
      subst (λ y. den * d s t < num * y) (same s s a a) (subst (λ x. den * x < num * c s s) (same s t a b) h)

module _ (n : ℕ) (c d : ℕ → ℕ → ℕ) (num den : ℕ) (same : AgreeBelow n c d) where
  pub weak_same : (s t : ℕ) → s < n → t < n → IsWeakAt c num den s t ↔ IsWeakAt d num den s t
  weak_same s t a b = (weak_there n c d num den same s t a b, weak_there n d c num den (agree_back n c d same) s t a b)

  pub strict_same : (s t : ℕ) → s < n → t < n → IsStrictAt c num den s t ↔ IsStrictAt d num den s t
  strict_same s t a b = (strict_there n c d num den same s t a b, strict_there n d c num den (agree_back n c d same) s t a b)

  pub violation_same : (walk : List ℕ) → IsViolationAt n c num den walk → IsViolationAt n d num den walk
  violation_same = preference_violation_same n (IsWeakAt c num den) (IsStrictAt c num den) (IsWeakAt d num den) (IsStrictAt d num den) weak_same strict_same

  pub meets_same : MeetsGarpAt n c num den → MeetsGarpAt n d num den
  meets_same = no_violation_same n (IsWeakAt c num den) (IsStrictAt c num den) (IsWeakAt d num den) (IsStrictAt d num den) weak_same strict_same

  pub respect_same : (ranks : List ℕ) → RespectPreference n (IsWeakAt c num den) (IsStrictAt c num den) ranks → RespectPreference n (IsWeakAt d num den) (IsStrictAt d num den) ranks
  respect_same = respect_preference_same n (IsWeakAt c num den) (IsStrictAt c num den) (IsWeakAt d num den) (IsStrictAt d num den) weak_same strict_same

  pub order_same : (ranks : List ℕ) → OrderStrictSteps n c num den ranks → OrderStrictSteps n d num den ranks
  order_same = order_steps_same n (IsStrictAt c num den) (IsStrictAt d num den) strict_same

-- ---- evidence

pub garp_same : (n : ℕ) (c d : ℕ → ℕ → ℕ) (verdict : Garp) → AgreeBelow n c d → ProvesGarp n c verdict → ProvesGarp n d verdict
garp_same n c d verdict same =
    proves_of_preference_same n (IsWeak c) (IsStrict c) (IsWeak d) (IsStrict d) (weak_same n c d 1 1 same) (strict_same n c d 1 1 same) verdict
