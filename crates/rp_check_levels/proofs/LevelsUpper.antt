-- Below levels at which ranks fall along each strict step the axiom holds, and levels as near to them as wanted are below
-- them: so the index is at most what they lack in the mean.
use Rattle.std.proofs.Common.{◌≡◌, ◌<◌, ◌≤◌, ◌+◌, ◌-◌, ◌*◌, ◌^◌, ◌⊎◌, ℕ, zero, suc, List, [], ◌∷◌, inl, inr, refl, sym, ap, subst, ◌∙◌, arith, slice_index}
use Rattle.std.proofs.Math.Nat.{lt_of_mul-lt-mul_right, mul-le-mul_left, pow-succ', pow-zero}
use Rattle.rp_evidence.specs.Preference.{IsWeakAt}
use Rattle.rp_fit.specs.Fractions.{fractions_below, product_below}
use Rattle.rp_fit.specs.Levels.{AreBelow, AreLevels, IndexIsAtMost, LackAtMost, MeetsGarpAtLevels, lack, lack_den, lack_parts, lack_sum}
use Rattle.rp_fit.proofs.FallingRanks.{no_closed_walk_under_ranks}

-- ---- what a lower level lacks more: with num/den times k/(k+1), at most 1/k

abbrev IsNear : ℕ → ℕ → ℕ → ℕ → Type 0
IsNear power num den k =
    ((den * (k + 1) - num * k) ^ power * den ^ power) * k ≤ ((den - num) ^ power * k + den ^ power) * (den * (k + 1)) ^ power

-- a level num/(num + x)
differs : (num x k : ℕ) → (num + x) * (k + 1) - num * k ≡ x * k + (num + x)
differs num x k = let e : (num + x) * (k + 1) ≡ num * k + (x * k + (num + x)) = omega arith in omega (arith, e)

plain : (x den k : ℕ) → ((x * k + den) * den) * k ≤ (x * k + den) * (den * (k + 1))
plain x den k = omega arith

square : (x d k : ℕ) → 2 * (x * d) ≤ x * x + d * d → (((x * k + d) * (x * k + d)) * (d * d)) * k ≤ ((x * x) * k + d * d) * ((d * (k + 1)) * (d * (k + 1)))
square x d k h = let a : ((d * d) * (k * k)) * (2 * (x * d)) ≤ ((d * d) * (k * k)) * (x * x + d * d) = mul-le-mul_left ((d * d) * (k * k)) h in omega (arith, a)

twice_product : (num x : ℕ) → 2 * (x * (num + x)) ≤ x * x + (num + x) * (num + x)
twice_product num x = omega arith

pow_one : (a : ℕ) → a ^ 1 ≡ a
pow_one a = pow-succ' a 0 ∙ ap (λ z. a * z) (pow-zero a) ∙ omega arith

square_pow : (a : ℕ) → a ^ 2 ≡ a * a
square_pow a = pow-succ' a 1 ∙ ap (λ z. a * z) (pow_one a)

near_mean : (num x k : ℕ) → IsNear 1 num (num + x) k
near_mean num x k =
    let e : num + x - num ≡ x = omega arith in
    rw (differs num x k, e, pow_one (x * k + (num + x)), pow_one (num + x), pow_one x, pow_one ((num + x) * (k + 1))) (plain x (num + x) k)

near_squares : (num x k : ℕ) → IsNear 2 num (num + x) k
near_squares num x k =
    let e : num + x - num ≡ x = omega arith in
    rw (differs num x k, e, square_pow (x * k + (num + x)), square_pow (num + x), square_pow x, square_pow ((num + x) * (k + 1))) (square x (num + x) k (twice_product num x))

pub near : (power num den k : ℕ) → (power ≡ 1) ⊎ (power ≡ 2) → num ≤ den → IsNear power num den k
near power num den k (inl e) l =
    subst (λ p. IsNear p num den k) (sym e) (subst (λ d. IsNear 1 num d k) (of num den l) (near_mean num (den - num) k))
  where
    of : (num den : ℕ) → num ≤ den → num + (den - num) ≡ den
    of num den l = omega arith
near power num den k (inr e) l =
    subst (λ p. IsNear p num den k) (sym e) (subst (λ d. IsNear 2 num d k) (of num den l) (near_squares num (den - num) k))
  where
    of : (num den : ℕ) → num ≤ den → num + (den - num) ≡ den
    of num den l = omega arith

-- ---- the sums

next_sum_of : (f' l' p' d' f l p d k m : ℕ) → (f' * p) * k ≤ (f * k + m * p) * p' → (l' * d) * k ≤ (l * k + d) * d'
    → ((f' * d' + l' * p') * (p * d)) * k ≤ ((f * d + l * p) * k + suc m * (p * d)) * (p' * d')
next_sum_of f' l' p' d' f l p d k m a b =
    let u : (d' * d) * ((f' * p) * k) ≤ (d' * d) * ((f * k + m * p) * p') = mul-le-mul_left (d' * d) a in
    let v : (p' * p) * ((l' * d) * k) ≤ (p' * p) * ((l * k + d) * d') = mul-le-mul_left (p' * p) b in
    omega (arith, u, v)

sums_are_near : (n k : ℕ) (num' den' num den : ℕ → ℕ) → ((s : ℕ) → s < n → (num' s * den s) * k ≤ (num s * k + den s) * den' s)
    → (fractions_below n num' den' * product_below n den) * k ≤ (fractions_below n num den * k + n * product_below n den) * product_below n den'
sums_are_near zero k num' den' num den each = omega arith
sums_are_near (suc n) k num' den' num den each =
    next_sum_of (fractions_below n num' den') (num' n) (product_below n den') (den' n) (fractions_below n num den) (num n) (product_below n den) (den n) k n
    (sums_are_near n k num' den' num den (λ s l. each s (omega arith))) (each n (omega arith))

-- ---- levels by ranks

module _ (n : ℕ) (c : ℕ → ℕ → ℕ) (num den : ℕ → ℕ) (ranks : List ℕ) (spent : (s : ℕ) → s < n → den s ≡ c s s)
    (falls : (s t : ℕ) → s < n → t < n → c s t < num s → slice_index ranks t < slice_index ranks s) where
  pub holds_below : (num' den' : ℕ → ℕ) → AreBelow n num' den' num den → MeetsGarpAtLevels n c num' den'
  holds_below num' den' below walk v =
      no_closed_walk_under_ranks n (λ s t. IsWeakAt c (num' s) (den' s) s t) ranks step_falls walk v.0
    where
      less : (num' den' num den next : ℕ) → num' * den < num * den' → den' * next ≤ num' * den → next < num
      less num' den' num den next a b = lt_of_mul-lt-mul_right den' (omega (arith, a, b))

      step_falls : (s t : ℕ) → s < n → t < n → IsWeakAt c (num' s) (den' s) s t → slice_index ranks t < slice_index ranks s
      step_falls s t s_in t_in weak =
          falls s t s_in t_in (less (num' s) (den' s) (num s) (c s s) (c s t) (subst (λ z. num' s * z < num s * den' s) (spent s s_in) (below s s_in)) weak)

  module _ (levels : AreLevels n num den) (power : ℕ) (kind : (power ≡ 1) ⊎ (power ≡ 2)) where
    -- at k/(k+1) of the levels
    module _ (k : ℕ) (some : 1 ≤ k) where
      abbrev lower_num : ℕ → ℕ
      lower_num s = num s * k

      abbrev lower_den : ℕ → ℕ
      lower_den s = den s * (k + 1)

      are_levels : AreLevels n lower_num lower_den
      are_levels s s_in =
          let l = levels s s_in in
          let a : num s * 1 ≤ num s * k = mul-le-mul_left (num s) some in
          let b : k * num s ≤ k * den s = mul-le-mul_left k l.1 in
          (omega (arith, a, l.0), omega (arith, b))

      are_below : AreBelow n lower_num lower_den num den
      are_below s s_in =
          let l = levels s s_in in
          let a : 1 * 1 ≤ num s * den s = product (num s) (den s) l.0 (omega (arith, l.0, l.1)) in
          omega (arith, a)
        where
          product : (x y : ℕ) → 1 ≤ x → 1 ≤ y → 1 * 1 ≤ x * y
          product x y p q = let a : x * 1 ≤ x * y = mul-le-mul_left x q in omega (arith, a, p)

      lack_little_more : LackAtMost power n lower_num lower_den (lack_sum power n num den * k + lack_parts power n den) (lack_parts power n den * k)
      lack_little_more =
          times (fractions_below n (lack power lower_num lower_den) (lack_den power lower_den)) (product_below n (lack_den power den)) (fractions_below n (lack power num den) (lack_den power den)) (product_below n (lack_den power lower_den))
          (sums_are_near n k (lack power lower_num lower_den) (lack_den power lower_den) (lack power num den) (lack_den power den) (λ s l. near power (num s) (den s) k kind (levels s l).1))
        where
          times : (f' p f p' : ℕ) → (f' * p) * k ≤ (f * k + n * p) * p' → f' * ((n * p) * k) ≤ (f * k + n * p) * (n * p')
          times f' p f p' h =
              let a : n * ((f' * p) * k) ≤ n * ((f * k + n * p) * p') = mul-le-mul_left n h in
              omega (arith, a)

    pub index_is_at_most : IndexIsAtMost power n c (lack_sum power n num den) (lack_parts power n den)
    index_is_at_most k some = (lower_num k some, lower_den k some, are_levels k some, holds_below (lower_num k some) (lower_den k some) (are_below k some), lack_little_more k some)
