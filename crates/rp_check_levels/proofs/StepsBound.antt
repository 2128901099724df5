-- Weights of closed walks of strict steps bound what steps cost whose removal is enough: each walk has one of them, and
-- each step carries at most the denominator times its cost.
use Rattle.std.proofs.Common.{◌≡◌, ◌<◌, ◌≤◌, ◌+◌, ◌-◌, ◌*◌, ◌&&◌, ◌==◌, ◌⊎◌, ℕ, Bool, true, false, List, inl, inr, refl, sym, ap, subst, ◌∙◌, arith, eq-eqb, if◌then◌else◌}
use Rattle.std.proofs.lemmas.Bool.{cases_lt, false≢true}
use Rattle.std.proofs.lemmas.Bool.Decides.{Decides-eqb}
use Rattle.rp_table.specs.Sums.{sum_below}
use Rattle.rp_evidence.specs.Preference.{IsStrict}
use Rattle.rp_evidence.specs.Walk.{IsClosedWalk}
use Rattle.rp_fit.specs.Steps.{CostsAtLeast, IsEnough, step_cost, taken_cost}
use Rattle.rp_fit.specs.WeightedWalks.{goes_by, weight_by, weight_of_all}
use Rattle.rp_fit.specs.declared.weighted.WeightedWalk.{WeightedWalk}
use Rattle.rp_check_levels.specs.Loads.{goes_to}
use Rattle.rp_check_levels.proofs.Carried.{All_walks, IsCarried, all_go, step_of_walk, sum_is_monotone, sum_of_times, weight_is_carried}
use Rattle.rp_check_levels.proofs.CarriedSteps.{AreStrict, all_of, and_first, and_second, and_true, closes_by_none, goes_or_not, leaves_by, weight_leaves, weight_of_more, weight_of_none}

module _ (n : ℕ) (c : ℕ → ℕ → ℕ) (den : ℕ) (walks : List WeightedWalk) (strict : AreStrict n c walks)
    (within : (s t : ℕ) → s < n → t < n → IsStrict c s t → weight_by (goes_to s t) walks ≤ den * (c s s - c s t)) where
  module _ (taken : ℕ → ℕ → Bool) (enough : IsEnough n c taken) where
    has_taken : (each : WeightedWalk) → IsClosedWalk n (IsStrict c) each.walk → goes_by taken each.walk ≡ true
    has_taken each closed = elim (goes_or_not taken each.walk) [
      | inl e ↦ e
      | inr e ↦ absurd (enough each.walk (closes_by_none n (IsStrict c) taken each.walk closed e))
    ]

    -- the step from a to b goes from s to t and is taken away
    abbrev taken_to : ℕ → ℕ → ℕ → ℕ → Bool
    taken_to s t a b = goes_to s t a b && taken s t

    leaves_to : (s : ℕ) → weight_by (leaves_by taken s) walks ≤ sum_below n (λ t. weight_by (taken_to s t) walks)
    leaves_to s =
        weight_is_carried n (leaves_by taken s) (taken_to s) walks (all_of walks (λ each. IsClosedWalk n (IsStrict c) each.walk) (IsCarried n (leaves_by taken s) (taken_to s)) carried strict)
      where
        carried : (each : WeightedWalk) → IsClosedWalk n (IsStrict c) each.walk → IsCarried n (leaves_by taken s) (taken_to s) each
        carried each closed g =
            let r = step_of_walk n (IsStrict c) (leaves_by taken s) each.walk closed g in
            let from = and_first (r.0 == s) (taken r.0 r.1) r.5 in
            let is_taken = and_second (r.0 == s) (taken r.0 r.1) r.5 in
            let same : r.0 ≡ s = (Decides-eqb r.0 s).0 from in
            let there : taken s r.1 ≡ true = subst (λ z. taken z r.1 ≡ true) same is_taken in
            (r.1, r.3, r.6 (taken_to s r.1) (and_true (goes_to s r.1 r.0 r.1) (taken s r.1) (and_true (r.0 == s) (r.1 == r.1) from (eq-eqb r.1 r.1 refl)) there))

    carries : (s t : ℕ) → s < n → t < n → weight_by (taken_to s t) walks ≤ den * (if taken s t then step_cost c s t else 0)
    carries s t s_in t_in = go (taken s t) refl
      where
        is_it : (a b : ℕ) → taken_to s t a b ≡ true → (a ≡ s) × (b ≡ t) × (taken s t ≡ true)
        is_it a b h =
            let g = and_first (goes_to s t a b) (taken s t) h in
            ((Decides-eqb a s).0 (and_first (a == s) (b == t) g), (Decides-eqb b t).0 (and_second (a == s) (b == t) g), and_second (goes_to s t a b) (taken s t) h)

        go : (b : Bool) → taken s t ≡ b → weight_by (taken_to s t) walks ≤ den * (if b then step_cost c s t else 0)
        go false e =
            let none = weight_of_none n c (taken_to s t) walks strict (λ a b a_in b_in h g. false≢true (sym e ∙ (is_it a b g).2)) in
            omega (arith, none)
        go true e = elim (cases_lt (c s t) (c s s)) [
          | inl l ↦
              (let more = weight_of_more n c (taken_to s t) (goes_to s t) walks strict (λ a b a_in b_in h g. and_first (goes_to s t a b) (taken s t) g) in
              let load = within s t s_in t_in (omega (arith, l)) in
              omega (arith, more, load))
          | inr l ↦
              (let none = weight_of_none n c (taken_to s t) walks strict (λ a b a_in b_in h g.
              let i = is_it a b g in
              let k : IsStrict c s t = subst (λ z. IsStrict c z t) i.0 (subst (λ z. IsStrict c a z) i.1 h) in
              absurd (omega (arith, k, l))) in
              omega (arith, none))
        ]

    of_row : (s : ℕ) → s < n → weight_by (leaves_by taken s) walks ≤ den * sum_below n (λ t. if taken s t then step_cost c s t else 0)
    of_row s s_in =
        let a = leaves_to s in
        let b = sum_is_monotone n (λ t. weight_by (taken_to s t) walks) (λ t. den * (if taken s t then step_cost c s t else 0)) (λ t t_in. carries s t s_in t_in) in
        let d = sum_of_times n den (λ t. if taken s t then step_cost c s t else 0) in
        omega (arith, a, b, d)

    pub weight_at_most_cost : weight_of_all walks ≤ den * taken_cost n c taken
    weight_at_most_cost =
        let a = all_go taken walks (all_of walks (λ each. IsClosedWalk n (IsStrict c) each.walk) (λ each. goes_by taken each.walk ≡ true) has_taken strict) in
        let b = weight_leaves n c taken walks strict in
        let d = sum_is_monotone n (λ s. weight_by (leaves_by taken s) walks) (λ s. den * sum_below n (λ t. if taken s t then step_cost c s t else 0)) of_row in
        let e = sum_of_times n den (λ s. sum_below n (λ t. if taken s t then step_cost c s t else 0)) in
        omega (arith, a, b, d, e)

  pub costs_at_least : CostsAtLeast n c (weight_of_all walks) den
  costs_at_least taken enough = weight_at_most_cost taken enough
