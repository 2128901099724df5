-- Every table of positive costs has an efficiency index. All ratios have the product of what was spent as a
-- denominator, and whether a closed walk of weak steps exists at a level can be told (Warshall), so the index is a
-- least number.
use Rattle.std.proofs.Common.{◌≡◌, ◌<◌, ◌≤◌, ◌*◌, ◌⊎◌, inl, inr, ℕ, zero, suc, List, [], ◌∷◌, refl, sym, ap, subst, arith}
use Rattle.std.proofs.Math.Nat.{lt_of_mul-lt-mul_left, mul-lt-mul_of_pos_left, one-le-mul}
use Rattle.std.proofs.lemmas.Bool.{cases_eq, cases_lt}
use Rattle.rp_num.specs.Fraction.{Fraction, IsLowestTerms}
use Rattle.rp_num.proofs.Lowest.{IsLowestTerms-exists, IsLowestTerms-itself}
use Rattle.rp_evidence.specs.Efficiency.{IsEfficiencyIndex}
use Rattle.rp_evidence.specs.Preference.{IsWeakAt}
use Rattle.rp_evidence.specs.Walk.{IsClosedWalk}
use Rattle.rp_evidence.proofs.Index.{NoLowerCycle, closed_rises, index_by_cycle, index_same}
use Rattle.rp_evidence.proofs.ClosedWalks.{closed_walk_decided}
use Rattle.rp_evidence.proofs.Walks.{starts_below}

pub weak_decided : (c : ℕ → ℕ → ℕ) (num den s t : ℕ) → IsWeakAt c num den s t ⊎ (¬ IsWeakAt c num den s t)
weak_decided c num den s t = elim (cases_lt (num * c s s) (den * c s t)) [ inl more ↦ inr (λ h. absurd (omega arith)) | inr most ↦ inl most ]

-- the least number that meets P, up to one that does
least_number : (P : ℕ → Type 0) → ((k : ℕ) → P k ⊎ (¬ P k)) → (m : ℕ) → ((k : ℕ) × (k ≤ m) × P k × ((j : ℕ) → j < k → ¬ P j)) ⊎ ((j : ℕ) → j ≤ m → ¬ P j)
least_number P told zero = elim (told zero) [
  | inl p ↦ inl (0, omega arith, p, λ j l. absurd (omega arith))
  | inr q ↦ inr (λ j l. elim (cases_eq j 0) [ inl e ↦ subst (λ x. ¬ P x) (sym e) q | inr d ↦ absurd (omega arith) ])
]
least_number P told (suc m) = go (least_number P told m) (told (suc m))
  where
    go : ((k : ℕ) × (k ≤ m) × P k × ((j : ℕ) → j < k → ¬ P j)) ⊎ ((j : ℕ) → j ≤ m → ¬ P j) → P (suc m) ⊎ (¬ P (suc m))
        → ((k : ℕ) × (k ≤ suc m) × P k × ((j : ℕ) → j < k → ¬ P j)) ⊎ ((j : ℕ) → j ≤ suc m → ¬ P j)
    go (inl r) b = inl (r.0, omega (arith, r.1), r.2, r.3)
    go (inr none) (inl p) = inl (suc m, omega arith, p, λ j l. none j (omega arith))
    go (inr none) (inr q) = inr (λ j l. elim (cases_eq j (suc m)) [ inl e ↦ subst (λ x. ¬ P x) (sym e) q | inr d ↦ none j (omega arith) ])

-- the product of what was spent at the first k observations: a denominator for all ratios
own_product : (ℕ → ℕ → ℕ) → ℕ → ℕ
own_product c zero = 1
own_product c (suc k) = own_product c k * c k k

module _ (n : ℕ) (c : ℕ → ℕ → ℕ) (positive : (s t : ℕ) → s < n → t < n → 0 < c s t) where
  product_positive : (k : ℕ) → k ≤ n → 1 ≤ own_product c k
  unfolding own_product
  product_positive zero l = omega arith
  product_positive (suc k) l = one-le-mul (product_positive k (omega arith)) (positive k k (omega arith) (omega arith))

  product_divided : (k s : ℕ) → s < k → (m : ℕ) × (m * c s s ≡ own_product c k)
  unfolding own_product
  product_divided zero s l = absurd (omega arith)
  product_divided (suc k) s l = elim (cases_eq s k) [
    | inl e ↦ (own_product c k, ap (λ x. own_product c k * c x x) e)
    | inr d ↦ (let r = product_divided k s (omega arith) in (r.0 * c k k, omega (arith, ap (λ x. x * c k k) r.1)))
  ]

  -- the least number of parts of the product at which a closed walk of weak steps exists
  module _ (some : 1 ≤ n) (whole : ℕ) (whole_positive : 0 < whole) (divided : (s : ℕ) → s < n → (m : ℕ) × (m * c s s ≡ whole)) where
    HasCycle : ℕ → Type 0
    HasCycle k = (walk : List ℕ) × IsClosedWalk n (IsWeakAt c k whole) walk

    has_cycle_decided : (k : ℕ) → HasCycle k ⊎ (¬ HasCycle k)
    unfolding HasCycle
    has_cycle_decided k = elim (closed_walk_decided n (IsWeakAt c k whole) (λ s t. weak_decided c k whole s t)) [
      | inl r ↦ inl r
      | inr none ↦ inr (λ h. none h.0 h.1)
    ]

    whole_has : HasCycle whole
    unfolding HasCycle
    whole_has = (0 ∷ 0 ∷ [], (0, (refl, (omega arith, omega arith, (omega arith, refl))), omega arith))

    none_at_zero : ¬ HasCycle 0
    unfolding HasCycle
    none_at_zero h = no_step h.0 h.1
      where
        no_step : (walk : List ℕ) → ¬ IsClosedWalk n (IsWeakAt c 0 whole) walk
        no_step [] k = absurd k.1
        no_step (x ∷ []) k = absurd (omega (arith, k.2))
        no_step (x ∷ y ∷ w) k =
            let costs : whole * 0 < whole * c x y = mul-lt-mul_of_pos_left (positive x y k.1.1.0 (starts_below n (IsWeakAt c 0 whole) y k.0 w k.1.1.2)) whole_positive in
            let step : whole * c x y ≤ 0 * c x x = k.1.1.1 in
            absurd (omega arith)

    pub found : (m : ℕ) × (walk : List ℕ) × IsClosedWalk n (IsWeakAt c m whole) walk × IsEfficiencyIndex n c m whole
    unfolding HasCycle
    found = elim (least_number HasCycle has_cycle_decided whole) [
      | inr none ↦ absurd (none whole (omega arith) whole_has)
      | inl r ↦ (
        r.0,
        r.2.0,
        r.2.1,
        index_by_cycle n c (λ s s_in. positive s s s_in s_in) r.0 whole r.2.0 (above_zero r.0 r.2, r.1) r.2.1 (none_lower r.0 r.3),
      )
    ]
      where
        above_zero : (m : ℕ) → HasCycle m → 0 < m
        above_zero zero h = absurd (none_at_zero h)
        above_zero (suc m) h = omega arith

        none_lower : (m : ℕ) → ((j : ℕ) → j < m → ¬ HasCycle j) → NoLowerCycle n c m whole
        none_lower m none u v u_in v_in less walk closed =
            let k = divided u u_in in
            let same : c u v * whole ≡ (k.0 * c u v) * c u u = omega (arith, ap (λ x. c u v * x) k.1) in
            let fewer : c u u * (k.0 * c u v) < c u u * m = omega (arith, same, less) in
            none (k.0 * c u v) (lt_of_mul-lt-mul_left (c u u) fewer)
            (walk, closed_rises n (c u v) (c u u) (k.0 * c u v) whole c walk (positive u u u_in u_in) (omega (arith, same)) closed)

-- an index with a closed walk of weak steps at it
pub index_exists : (n : ℕ) (c : ℕ → ℕ → ℕ) → 1 ≤ n → ((s t : ℕ) → s < n → t < n → 0 < c s t) → (num : ℕ) × (den : ℕ) × (walk : List ℕ) × IsClosedWalk n (IsWeakAt c num den) walk × IsEfficiencyIndex n c num den
index_exists n c some positive =
    let whole = own_product c n in
    let r = found n c positive some whole (product_positive n c positive n (omega arith)) (λ s s_in. product_divided n c positive n s s_in) in
    (r.0, whole, r.1, r.2, r.3)

pub lowest_index_exists : (n : ℕ) (c : ℕ → ℕ → ℕ) → 1 ≤ n → ((s t : ℕ) → s < n → t < n → 0 < c s t) → (f : Fraction) × IsLowestTerms f.num f.den f × IsEfficiencyIndex n c f.num f.den
lowest_index_exists n c some positive =
    let r = index_exists n c some positive in
    let f = IsLowestTerms-exists r.0 r.1 (omega (arith, r.4.level.0, r.4.level.1)) in
    (f.0, IsLowestTerms-itself r.0 r.1 f.0 f.1, index_same n r.0 r.1 f.0.num f.0.den c f.1.positive f.1.same_number r.4)
