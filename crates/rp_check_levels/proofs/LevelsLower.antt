-- Weights of closed walks of strict steps bound what levels lack: at levels that meet the axiom each walk has a step that
-- is not strict there, so the level of its first observation lacks as much as that step does.
use Rattle.std.proofs.Common.{◌≡◌, ◌<◌, ◌≤◌, ◌+◌, ◌-◌, ◌*◌, ◌/◌, ◌^◌, ◌&&◌, ◌==◌, ◌⊎◌, ℕ, zero, suc, Bool, true, false, List, [], ◌∷◌, inl, inr, refl, sym, ap, subst, ◌∙◌, arith, eq-eqb, if◌then◌else◌}
use Rattle.std.specs.Prelude.{nat_le}
use Rattle.std.proofs.Math.Nat.{div-mul-le_self, le_of_mul-le-mul_right, mul-le-mul_left, one-le-pow, pow-le-pow_left}
use Rattle.std.proofs.lemmas.Bool.{cases_lt, false≢true, le-leb, leb-false, leb-true}
use Rattle.std.proofs.lemmas.Bool.Decides.{Decides-eqb}
use Rattle.std.proofs.lemmas.Nat.{mul-pow}
use Rattle.rp_table.specs.Sums.{sum_below}
use Rattle.rp_evidence.specs.Preference.{IsStrict, IsStrictAt, IsWeakAt}
use Rattle.rp_evidence.specs.Walk.{HasStep, IsClosedWalk, LeadsTo}
use Rattle.rp_evidence.proofs.Walks.{walks_by_weaker}
use Rattle.rp_fit.specs.Fractions.{fractions_below, product_below}
use Rattle.rp_fit.specs.Levels.{AreLevels, IndexIsAtLeast, MeetsGarpAtLevels, lack, lack_den, lack_parts, lack_sum}
use Rattle.rp_fit.specs.WeightedWalks.{goes_by, weight_by, weight_of_all}
use Rattle.rp_fit.specs.declared.weighted.WeightedWalk.{WeightedWalk}
use Rattle.rp_check_levels.specs.Loads.{goes_as_dear, lack_floor}
use Rattle.rp_check_levels.proofs.Carried.{all_go}
use Rattle.rp_check_levels.proofs.CarriedSteps.{AreStrict, all_of, and_first, and_second, and_true, closes_by_none, goes_or_not, leaves_by, weight_leaves, weight_of_more, weight_of_none}

-- ---- the least of some numbers

abbrev IsLeastOf : ℕ → (ℕ → Bool) → (ℕ → ℕ) → ℕ → Type 0
IsLeastOf n test f t = (t < n) × (test t ≡ true) × ((u : ℕ) → u < n → test u ≡ true → f t ≤ f u)

least_or_none : (n : ℕ) (test : ℕ → Bool) (f : ℕ → ℕ) → ((u : ℕ) → u < n → ¬ (test u ≡ true)) ⊎ ((t : ℕ) × IsLeastOf n test f t)
least_or_none zero test f = inl (λ u l h. absurd (omega arith))
least_or_none (suc n) test f = go (test n) refl (least_or_none n test f)
  where
    last_or_before : (u : ℕ) → u < suc n → (u < n) ⊎ (u ≡ n)
    last_or_before u l = grind arith

    go : (b : Bool) → test n ≡ b → ((u : ℕ) → u < n → ¬ (test u ≡ true)) ⊎ ((t : ℕ) × IsLeastOf n test f t) → ((u : ℕ) → u < suc n → ¬ (test u ≡ true)) ⊎ ((t : ℕ) × IsLeastOf (suc n) test f t)
    go false e (inl none) = inl (λ u l h. elim (last_or_before u l) [
      | inl m ↦ none u m h
      | inr s ↦ false≢true (sym e ∙ subst (λ z. test z ≡ true) s h)
    ])
    go false e (inr one) = inr (
      one.0,
      (
        omega (arith, one.1.0),
        one.1.1,
        λ u l h. elim (last_or_before u l) [
          | inl m ↦ one.1.2 u m h
          | inr s ↦ absurd (false≢true (sym e ∙ subst (λ z. test z ≡ true) s h))
        ],
      ),
    )
    go true e (inl none) = inr (
      n,
      (
        omega arith,
        e,
        λ u l h. elim (last_or_before u l) [
          | inl m ↦ absurd (none u m h)
          | inr s ↦ subst (λ z. f n ≤ f z) (sym s) (omega arith)
        ],
      ),
    )
    go true e (inr one) = elim (cases_lt (f n) (f one.0)) [
      | inl less ↦ inr (
        n,
        (
          omega arith,
          e,
          λ u l h. elim (last_or_before u l) [
            | inl m ↦ (let k = one.1.2 u m h in omega (arith, k, less))
            | inr s ↦ subst (λ z. f n ≤ f z) (sym s) (omega arith)
          ],
        ),
      )
      | inr more ↦ inr (
        one.0,
        (
          omega (arith, one.1.0),
          one.1.1,
          λ u l h. elim (last_or_before u l) [
            | inl m ↦ one.1.2 u m h
            | inr s ↦ subst (λ z. f one.0 ≤ f z) (sym s) more
          ],
        ),
      )
    ]

-- ---- what one level lacks

-- from cut: den' (spent - next) ≤ (den' - num') spent
lacks_as_much : (num den spent next : ℕ) → num ≤ den → num * spent ≤ den * next → next < spent → den * (spent - next) ≤ (den - num) * spent
lacks_as_much num den spent next small cut less =
    let a : (r : ℕ) × (den ≡ num + r) = (den - num, omega arith) in
    let b : (d : ℕ) × (spent ≡ next + d) = (spent - next, omega arith) in
    let e : spent - next ≡ b.0 = omega (arith, b.1) in
    let f : den - num ≡ a.0 = omega (arith, a.1) in
    rw (e, f) (by a.0 b.0 a.1 b.1)
  where
    by : (r d : ℕ) → den ≡ num + r → spent ≡ next + d → den * d ≤ r * spent
    by r d x y =
        let u : num * spent ≡ num * next + num * d = ap (λ z. num * z) y ∙ omega arith in
        let v : den * next ≡ num * next + r * next = ap (λ z. z * next) x ∙ omega arith in
        let w : den * d ≡ num * d + r * d = ap (λ z. z * d) x ∙ omega arith in
        let s : r * spent ≡ r * next + r * d = ap (λ z. r * z) y ∙ omega arith in
        omega (arith, u, v, w, s, cut)

-- a floor of unit times a quotient of powers, against a greater quotient of powers
floor_is_less : (unit power d spent l den : ℕ) → 1 ≤ spent → den * d ≤ l * spent → ((unit * d ^ power) / spent ^ power) * den ^ power ≤ unit * l ^ power
floor_is_less unit power d spent l den positive more =
    let lower = (unit * d ^ power) / spent ^ power in
    let a : lower * spent ^ power ≤ unit * d ^ power = div-mul-le_self (unit * d ^ power) (spent ^ power) in
    let b : (den * d) ^ power ≤ (l * spent) ^ power = pow-le-pow_left more power in
    let e : den ^ power * d ^ power ≤ l ^ power * spent ^ power = rw (mul-pow den d power, mul-pow l spent power) at b in
    let p : 1 ≤ spent ^ power = one-le-pow power spent positive in
    cancelled lower (den ^ power) (d ^ power) (l ^ power) (spent ^ power) a e p
  where
    cancelled : (lower dp xp lp sp : ℕ) → lower * sp ≤ unit * xp → dp * xp ≤ lp * sp → 1 ≤ sp → lower * dp ≤ unit * lp
    cancelled lower dp xp lp sp a e p =
        let f : dp * (lower * sp) ≤ dp * (unit * xp) = mul-le-mul_left dp a in
        let g : unit * (dp * xp) ≤ unit * (lp * sp) = mul-le-mul_left unit e in
        let h : (lower * dp) * sp ≤ (unit * lp) * sp = omega (arith, f, g) in
        le_of_mul-le-mul_right {k = sp} h p

-- ---- a sum of numbers, each at most a fraction times the same number

next_fraction : (s x p d k f l : ℕ) → s * p ≤ k * f → x * d ≤ k * l → (s + x) * (p * d) ≤ k * (f * d + l * p)
next_fraction s x p d k f l a b =
    let u : d * (s * p) ≤ d * (k * f) = mul-le-mul_left d a in
    let v : p * (x * d) ≤ p * (k * l) = mul-le-mul_left p b in
    omega (arith, u, v)

sum_by_fractions : (n k : ℕ) (x num den : ℕ → ℕ) → ((s : ℕ) → s < n → x s * den s ≤ k * num s) → sum_below n x * product_below n den ≤ k * fractions_below n num den
sum_by_fractions zero k x num den each = omega arith
sum_by_fractions (suc n) k x num den each =
    next_fraction (sum_below n x) (x n) (product_below n den) (den n) k (fractions_below n num den) (num n)
    (sum_by_fractions n k x num den (λ s l. each s (omega arith))) (each n (omega arith))

-- ---- all levels

module _ (n : ℕ) (c : ℕ → ℕ → ℕ) (power den : ℕ) (walks : List WeightedWalk) (strict : AreStrict n c walks) (positive : (s : ℕ) → s < n → 1 ≤ c s s)
    (within : (s t : ℕ) → s < n → t < n → IsStrict c s t → weight_by (goes_as_dear c s t) walks ≤ den * lack_floor power c s t) where
  module _ (num' den' : ℕ → ℕ) (levels : AreLevels n num' den') (meets : MeetsGarpAtLevels n c num' den') where
    -- the step from a to b is not strict at the levels
    abbrev is_cut : ℕ → ℕ → Bool
    is_cut a b = nat_le (num' a * c a a) (den' a * c a b)

    violates : (walk : List ℕ) → IsClosedWalk n (λ s t. IsStrictAt c (num' s) (den' s) s t) walk → ⊥
    violates [] closed = absurd closed.1
    violates (x ∷ []) closed = absurd (omega (arith, closed.2))
    violates (x ∷ y ∷ w) closed =
        meets (x ∷ y ∷ w)
        ((closed.0, walks_by_weaker n (λ s t. IsStrictAt c (num' s) (den' s) s t) (λ s t. IsWeakAt c (num' s) (den' s) s t) (λ s t s_in t_in h. omega (arith, h)) closed.0 closed.0 (x ∷ y ∷ w) closed.1, closed.2), inl closed.1.1.1)

    has_cut : (each : WeightedWalk) → IsClosedWalk n (IsStrict c) each.walk → goes_by is_cut each.walk ≡ true
    has_cut each closed = elim (goes_or_not is_cut each.walk) [
      | inl e ↦ e
      | inr e ↦
          (let none = closes_by_none n (IsStrict c) is_cut each.walk closed e in
          absurd (violates each.walk (none.0, walks_by_weaker n (λ a b. IsStrict c a b × (is_cut a b ≡ false)) (λ s t. IsStrictAt c (num' s) (den' s) s t) (λ s t s_in t_in h. leb-false (num' s * c s s) (den' s * c s t) h.1) none.0 none.0 each.walk none.1, none.2)))
    ]

    -- the bundle of t is cheaper than that of s, and the step to it is not strict at the levels
    abbrev may_bound : ℕ → ℕ → Bool
    may_bound s t = (not_le (c s s) (c s t)) && is_cut s t
      where
        not_le : ℕ → ℕ → Bool
        not_le a b = nat_le (suc b) a

    bounds_it : (s t : ℕ) → IsStrict c s t → is_cut s t ≡ true → may_bound s t ≡ true
    bounds_it s t h cut = and_true (nat_le (suc (c s t)) (c s s)) (is_cut s t) (le-leb (suc (c s t)) (c s s) (omega (arith, h))) cut

    as_leaves : (s : ℕ) → s < n → weight_by (leaves_by is_cut s) walks * lack_den power den' s ≤ (den * 2 ^ 40) * lack power num' den' s
    as_leaves s s_in = elim (least_or_none n (may_bound s) (c s)) [
      | inl none ↦
          (let no : weight_by (leaves_by is_cut s) walks ≡ 0 = weight_of_none n c (leaves_by is_cut s) walks strict (λ a b a_in b_in h g.
          let same : a ≡ s = (Decides-eqb a s).0 (and_first (a == s) (is_cut a b) g) in
          none b b_in (bounds_it s b (subst (λ z. IsStrict c z b) same h) (subst (λ z. is_cut z b ≡ true) same (and_second (a == s) (is_cut a b) g)))) in
          rw no (omega arith))
      | inr one ↦ by_least one.0 one.1
    ]
      where
        product : (w l u p den k : ℕ) → w ≤ den * l → l * p ≤ u * k → w * p ≤ (den * u) * k
        product w l u p den k a b =
            let e : p * w ≤ p * (den * l) = mul-le-mul_left p a in
            let f : den * (l * p) ≤ den * (u * k) = mul-le-mul_left den b in
            omega (arith, e, f)

        by_least : (t : ℕ) → IsLeastOf n (may_bound s) (c s) t → weight_by (leaves_by is_cut s) walks * lack_den power den' s ≤ (den * 2 ^ 40) * lack power num' den' s
        by_least t least =
            let less : suc (c s t) ≤ c s s = leb-true (suc (c s t)) (c s s) (and_first (nat_le (suc (c s t)) (c s s)) (is_cut s t) least.1) in
            let cut : num' s * c s s ≤ den' s * c s t = leb-true (num' s * c s s) (den' s * c s t) (and_second (nat_le (suc (c s t)) (c s s)) (is_cut s t) least.1) in
            let more : weight_by (leaves_by is_cut s) walks ≤ weight_by (goes_as_dear c s t) walks = weight_of_more n c (leaves_by is_cut s) (goes_as_dear c s t) walks strict (λ a b a_in b_in h g.
            let from : (a == s) ≡ true = and_first (a == s) (is_cut a b) g in
            let same : a ≡ s = (Decides-eqb a s).0 from in
            let dear : c s t ≤ c s b = least.2 b b_in (bounds_it s b (subst (λ z. IsStrict c z b) same h) (subst (λ z. is_cut z b ≡ true) same (and_second (a == s) (is_cut a b) g))) in
            and_true (a == s) (nat_le (c s t) (c s b)) from (le-leb (c s t) (c s b) dear)) in
            let load : weight_by (goes_as_dear c s t) walks ≤ den * lack_floor power c s t = within s t s_in least.0 (omega (arith, less)) in
            let lacks = lacks_as_much (num' s) (den' s) (c s s) (c s t) (levels s s_in).1 cut (omega (arith, less)) in
            let floor = floor_is_less (2 ^ 40) power (c s s - c s t) (c s s) (den' s - num' s) (den' s) (positive s s_in) lacks in
            product (weight_by (leaves_by is_cut s) walks) (lack_floor power c s t) (2 ^ 40) (lack_den power den' s) den (lack power num' den' s) (omega (arith, more, load)) floor

    pub lack_at_least : weight_of_all walks * lack_parts power n den' ≤ lack_sum power n num' den' * (den * 2 ^ 40 * n)
    lack_at_least =
        let a = all_go is_cut walks (all_of walks (λ each. IsClosedWalk n (IsStrict c) each.walk) (λ each. goes_by is_cut each.walk ≡ true) has_cut strict) in
        let b = weight_leaves n c is_cut walks strict in
        let d = sum_by_fractions n (den * 2 ^ 40) (λ s. weight_by (leaves_by is_cut s) walks) (lack power num' den') (lack_den power den') as_leaves in
        together (weight_of_all walks) (sum_below n (λ s. weight_by (leaves_by is_cut s) walks)) (product_below n (lack_den power den')) (den * 2 ^ 40) (fractions_below n (lack power num' den') (lack_den power den')) (omega (arith, a, b)) d
      where
        together : (w x p k f : ℕ) → w ≤ x → x * p ≤ k * f → w * (n * p) ≤ f * (k * n)
        together w x p k f a b =
            let e : p * w ≤ p * x = mul-le-mul_left p a in
            let g : w * p ≤ k * f = omega (arith, e, b) in
            let h : n * (w * p) ≤ n * (k * f) = mul-le-mul_left n g in
            omega (arith, h)

  pub index_is_at_least : IndexIsAtLeast power n c (weight_of_all walks) (den * 2 ^ 40 * n)
  index_is_at_least num' den' levels meets = lack_at_least num' den' levels meets
