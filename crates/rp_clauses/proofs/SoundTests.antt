-- What is found nothing wrong with proves its verdict.
use Rattle.std.proofs.Common.{◌≡◌, ◌*◌, ◌-◌, ◌<◌, ◌≤◌, ℕ, [], ◌∷◌, List, length, Ok, arith, inl, inr, refl}
use Rattle.std.proofs.Math.Nat.{lt_of_mul-lt-mul_right, mul-le-mul_left}
use Rattle.rp_evidence.specs.AfriatEvidence.{ProvesOwnAfriat}
use Rattle.rp_evidence.specs.Efficiency.{BoundsFromAbove, FailsGarpAt, IsEfficiencyIndex, ProvesEfficiency}
use Rattle.rp_evidence.specs.Garp.{ProvesOfPreference, ViolatesByPlaces}
use Rattle.rp_evidence.specs.Homothetic.{BoundProducts, EndsBelow, ProvesHomothetic, next_product, spent_product}
use Rattle.rp_evidence.specs.Preference.{IsLevel, IsStrictAt, IsWeakAt, StrictByLevels, WeakByLevels}
use Rattle.rp_evidence.specs.Quasilinear.{BoundSteps, ProvesQuasilinear}
use Rattle.rp_evidence.specs.Ranks.{OrderStrictSteps, RespectPreference}
use Rattle.rp_evidence.specs.Walk.{AnyStep, IsClosedWalk}
use Rattle.rp_evidence.specs.declared.afriat.AfriatPart.{AfriatPart}
use Rattle.rp_evidence.specs.declared.afriat.AfriatPart.TheVariants.{Model, NoModel, Wide}
use Rattle.rp_evidence.specs.declared.efficiency.Efficiency.{Efficiency}
use Rattle.rp_evidence.specs.declared.garp.Garp.{Garp}
use Rattle.rp_evidence.specs.declared.garp.Garp.TheVariants.{Ranks, Cycle}
use Rattle.rp_evidence.specs.declared.homothetic.Homothetic.{Homothetic}
use Rattle.rp_evidence.specs.declared.homothetic.Homothetic.TheVariants.{Values as ProductValues, Cycle as FallingCycle, Withheld}
use Rattle.rp_evidence.specs.declared.quasilinear.Quasi.{Quasi}
use Rattle.rp_evidence.specs.declared.quasilinear.Quasi.TheVariants.{Values, Cycle as NegativeCycle}
use Rattle.rp_evidence.proofs.Levels.{ordering_ranks_exclude, weak_cycle_violates}
use Rattle.rp_evidence.proofs.Places.{violates_by_places}
use Rattle.rp_evidence.proofs.Values.{bound_products_meet_test, bound_steps_meet_test}
use Rattle.rp_evidence.proofs.Violations.{no_violation_under_ranks}
use Rattle.rp_num.specs.Fraction.{Fraction}
use Rattle.rp_clauses.specs.AfriatFailure.{AfriatFails}
use Rattle.rp_clauses.specs.EfficiencyFailure.{AboveFails, EfficiencyFails}
use Rattle.rp_clauses.specs.GarpFailure.{GarpFails, OrderingFails}
use Rattle.rp_clauses.specs.HomotheticFailure.{HomotheticFails}
use Rattle.rp_clauses.specs.QuasilinearFailure.{QuasilinearFails}
use Rattle.rp_clauses.specs.WalkFailure.{AtStep, ClosedWalkFails}

module _ (n : ℕ) (step : ℕ → ℕ → Type 0) (walk : List ℕ) (closed : ClosedWalkFails n walk (Ok tt)) (steps : (k : ℕ) → k < length walk - 1 → AtStep step walk k) where
  -- a closed walk with a step of another kind at a place
  pub by_places : (other : ℕ → ℕ → Type 0) → (k : ℕ) × (k < length walk - 1) × AtStep other walk k → ViolatesByPlaces n step other walk
  by_places other one = record {
    has_step = closed.0;
    observations = closed.1.0;
    closed = closed.1.1.0;
    steps = λ k within. steps k (omega arith);
    one_strict = (one.0, omega (arith, one.1), one.2);
  }

  pub is_closed_walk : IsClosedWalk n step walk
  is_closed_walk = (violates_by_places n step AnyStep walk (by_places AnyStep (0, omega (arith, closed.0), tt))).0

pub garp_proves : (n : ℕ) (weak strict : ℕ → ℕ → Type 0) (evidence : Garp) → GarpFails n weak strict evidence (Ok tt) → ProvesOfPreference n weak strict evidence
garp_proves n weak strict (Ranks ranks) (one_each, (respect, done)) =
    let r : RespectPreference n weak strict ranks = record {
      one_each = one_each;
      weak_never_rises = λ s t s_in t_in. (respect s s_in t t_in).0;
      strict_falls = λ s t s_in t_in. (respect s s_in t t_in).1;
    } in
    (r, no_violation_under_ranks n weak strict ranks r)
garp_proves n weak strict (Cycle walk) (closed, (weak_steps, (strict_step, done))) =
    violates_by_places n weak strict walk (by_places n weak walk closed weak_steps strict strict_step)

pub afriat_proves : (n : ℕ) (levels : List ℕ) (c : ℕ → ℕ → ℕ) (evidence : AfriatPart) → AfriatFails n levels c evidence (Ok tt) → ProvesOwnAfriat n levels c evidence
afriat_proves n levels c (Model numbers) (one_each, (fit, (allow, done))) = (
  one_each,
  record {
    at_least_one = λ s s_in. (fit s s_in).0;
    none_above = λ s t s_in t_in. allow s s_in t t_in;
  },
)
afriat_proves n levels c (NoModel walk) found = garp_proves n (WeakByLevels levels c) (StrictByLevels levels c) (Cycle walk) found
afriat_proves n levels c (Wide at) found = tt

module _ (n : ℕ) (c : ℕ → ℕ → ℕ) where
  pub quasilinear_proves : (evidence : Quasi) → QuasilinearFails n c evidence (Ok tt) → ProvesQuasilinear n c evidence
  quasilinear_proves (Values values) (one_each, (fit, (bound, done))) =
      let b : BoundSteps n c values = record { one_each = one_each; each = λ t s t_in s_in. bound t t_in s s_in } in
      (b, bound_steps_meet_test n c values b)
  quasilinear_proves (NegativeCycle walk) (closed, (negative, done)) = record {
    closed = is_closed_walk n AnyStep walk closed (λ k within. tt);
    negative = negative;
  }

  falls : (start : Fraction) (walk : List ℕ) → EndsBelow c start walk → next_product c walk < spent_product c walk
  falls start walk below = less start.num start.den (next_product c walk) (spent_product c walk) below
    where
      less : (a b p q : ℕ) → (a * p) * b < a * (b * q) → p < q
      less a b p q h = lt_of_mul-lt-mul_right (a * b) (omega (arith, h))

  pub homothetic_proves : (evidence : Homothetic) → HomotheticFails n c evidence (Ok tt) → ProvesHomothetic n c evidence
  homothetic_proves (ProductValues values) (one_each, (positive, (steps, done))) =
      let b : BoundProducts n c values = record {
        one_each = one_each;
        positive = λ s s_in. positive s (omega (arith, one_each));
        each = λ t s t_in s_in. (steps t t_in s s_in).1.0;
      } in
      (b, bound_products_meet_test n c values b)
  homothetic_proves (FallingCycle start walk) (some, (closed, ((narrow, (below, end)), done))) = record {
    closed = is_closed_walk n AnyStep walk closed (λ k within. tt);
    falls = falls start walk below;
  }
  homothetic_proves (Withheld steps from to) found = tt

  module _ (positive : (s : ℕ) → s < n → 0 < c s s) (num den : ℕ) (level : IsLevel num den) where
    ordered : (ranks : List ℕ) → OrderingFails n (IsStrictAt c num den) ranks (Ok tt) → OrderStrictSteps n c num den ranks
    ordered ranks (one_each, (orders, done)) = record {
      one_each = one_each;
      step_falls = λ s t s_in t_in. orders s s_in t t_in;
    }

    bounded : (walk : List ℕ) → AboveFails n c num den walk (Ok tt) → BoundsFromAbove n c num den walk
    bounded walk (inl (one, empty)) = record {
      none_at_one = λ e. no_entry walk empty;
      closed_below_one = λ other. absurd (other one);
    }
      where
        no_entry : (w : List ℕ) → length w ≡ 0 → w ≡ []
        no_entry [] e = refl
        no_entry (x ∷ w) e = absurd (omega (arith, e))
    bounded walk (inr (other, (closed, (weak, done)))) = record {
      none_at_one = λ one. absurd (other one);
      closed_below_one = λ e. is_closed_walk n (IsWeakAt c num den) walk closed weak;
    }

    above_fails : (walk : List ℕ) → AboveFails n c num den walk (Ok tt) → (p q : ℕ) → IsLevel p q → num * q < p * den → FailsGarpAt n c p q
    above_fails walk (inl (one, empty)) p q high more = absurd (none_above p q num den one high.1 more)
      where
        none_above : (p q num den : ℕ) → num ≡ den → p ≤ q → num * q < p * den → ⊥
        none_above p q num den one h more = absurd (omega (arith, rw one at more, mul-le-mul_left den h))
    above_fails walk (inr (other, (closed, (weak, done)))) p q high more =
        (walk, weak_cycle_violates n num den p q c walk positive more (is_closed_walk n (IsWeakAt c num den) walk closed weak))

    is_index : (below above : List ℕ) → OrderingFails n (IsStrictAt c num den) below (Ok tt) → AboveFails n c num den above (Ok tt) → IsEfficiencyIndex n c num den
    is_index below above orders bounds = record {
      level = level;
      holds_below = λ p q lower less walk. ordering_ranks_exclude n num den p q c below walk positive less (ordered below orders);
      fails_above = above_fails above bounds;
    }

  pub efficiency_proves : ((s : ℕ) → s < n → 0 < c s s) → (evidence : Efficiency) → EfficiencyFails n c evidence (Ok tt) → ProvesEfficiency n c evidence
  efficiency_proves positive evidence ((level, fits), ((orders, (bounds, (at, end))), done)) = record {
    index = is_index positive evidence.level.num evidence.level.den level evidence.below evidence.above orders bounds;
    below = ordered positive evidence.level.num evidence.level.den level evidence.below orders;
    above = bounded positive evidence.level.num evidence.level.den level evidence.above bounds;
    at = garp_proves n (IsWeakAt c evidence.level.num evidence.level.den) (IsStrictAt c evidence.level.num evidence.level.den) evidence.at at;
  }
