-- The total of a walk as two products of whole numbers, of the costs across and of those of the observations
-- themselves; it ends below its start just where the first is less.
use Rattle.std.proofs.Common.{IsTrue, nat_lt, ◌*◌, ap, subst, ◌≡◌, ℕ, suc, ◌<◌, ◌≤◌, ◌↔◌, arith, refl, ◌∙◌, List, [], ◌∷◌, All}
use Rattle.std.proofs.Math.Nat.{le-max_left, one-le-mul, mul-lt-mul_of_pos_right, lt_of_mul-lt-mul_right}
use Rattle.std.specs.Prelude.{ℤ, pos, ◌*ℤ◌, ◌<ℤ◌}
use Rattle.rp_walk.specs.ExactTotal.{ExactTotal, IsLess}
use Rattle.rp_walk.specs.Walk.{IsTotal, StartsAlike, total_after}
use Rattle.rp_walk.specs.Settled.{PairBreaks}
use Rattle.rp_walk.proofs.Numbers.{less-pos, pos-less, test, tested}
use Rattle.rp_walk.proofs.Walks.{IsTotal-here}
use Rattle.rp_evidence.specs.Homothetic.{product_from}
use Rattle.rp_walk.specs.Products.{at_least_one, products}
use Rattle.rp_homo.specs.HomotheticVerdict.{PairFalls}
use Rattle.rp_homo.proofs.Steps.{at_least_one-is}

-- what steps multiply by and are divided by
abbrev pub across : (ℕ → ℕ → ℕ) → ℕ → ℕ → ℕ
across c t s = at_least_one (c t s)

abbrev pub own : (ℕ → ℕ → ℕ) → ℕ → ℕ → ℕ
own c t s = at_least_one (c t t)

-- costs of n observations are positive
abbrev pub Positive : ℕ → (ℕ → ℕ → ℕ) → Type 0
Positive n c = (t s : ℕ) → t < n → s < n → 1 ≤ c t s

-- ---- products over the steps of a walk

pub product_from-same : (n : ℕ) (f g : ℕ → ℕ → ℕ) → ((t s : ℕ) → t < n → s < n → f t s ≡ g t s) → (t : ℕ) (rest : List ℕ) → t < n → All (λ s. s < n) rest → product_from f t rest ≡ product_from g t rest
product_from-same n f g same t [] ht within = refl
product_from-same n f g same t (s ∷ rest) ht within =
    let hs : s < n = within 0 s (omega arith) in
    let e = same t s ht hs in
    let d = product_from-same n f g same s rest hs (λ k x below. within (suc k) x (omega arith)) in
    λ i. e i * d i

pub product_from-across : (n : ℕ) (c : ℕ → ℕ → ℕ) → Positive n c → (t : ℕ) (rest : List ℕ) → t < n → All (λ s. s < n) rest → product_from (across c) t rest ≡ product_from c t rest
product_from-across n c positive t rest ht within =
    product_from-same n (across c) c (λ i j hi hj. at_least_one-is (c i j) (positive i j hi hj)) t rest ht within

pub product_from-own : (n : ℕ) (c : ℕ → ℕ → ℕ) → Positive n c → (t : ℕ) (rest : List ℕ) → t < n → All (λ s. s < n) rest → product_from (own c) t rest ≡ product_from (λ i j. c i i) t rest
product_from-own n c positive t rest ht within =
    product_from-same n (own c) (λ i j. c i i) (λ i j hi hj. at_least_one-is (c i i) (positive i i hi hi)) t rest ht within

pub product_from-positive : (f : ℕ → ℕ → ℕ) → ((t s : ℕ) → 1 ≤ f t s) → (t : ℕ) (rest : List ℕ) → 1 ≤ product_from f t rest
product_from-positive f positive t [] = omega arith
product_from-positive f positive t (s ∷ rest) = one-le-mul (positive t s) (product_from-positive f positive s rest)

-- ---- the total after a walk is the product over its steps

pub den_after : (n : ℕ) (c : ℕ → ℕ → ℕ) (x : ExactTotal) (t : ℕ) (rest : List ℕ) → (total_after (products n c) x t rest).den ≡ x.den * product_from (own c) t rest
den_after n c x t [] = omega arith
den_after n c x t (s ∷ rest) =
    den_after n c ((products n c).after x t s) s rest ∙ assoc x.den (at_least_one (c t t)) (product_from (own c) s rest)
  where
    assoc : (a b d : ℕ) → a * b * d ≡ a * (b * d)
    assoc a b d = omega arith

pub num_after : (n : ℕ) (c : ℕ → ℕ → ℕ) (x : ExactTotal) (m t : ℕ) (rest : List ℕ) → x.num ≡ pos m → (total_after (products n c) x t rest).num ≡ pos (m * product_from (across c) t rest)
num_after n c x m t [] e = e ∙ ap pos (times_one m)
  where
    times_one : (a : ℕ) → a ≡ a * 1
    times_one a = omega arith
num_after n c x m t (s ∷ rest) e =
    num_after n c ((products n c).after x t s) (m * at_least_one (c t s)) s rest (ap (λ z. z *ℤ pos (at_least_one (c t s))) e)
    ∙ ap pos (assoc m (at_least_one (c t s)) (product_from (across c) s rest))
  where
    assoc : (a b d : ℕ) → a * b * d ≡ a * (b * d)
    assoc a b d = omega arith

-- the total of a walk is positive
pub positive_total : (n : ℕ) (c : ℕ → ℕ → ℕ) (k s : ℕ) (x : ExactTotal) → IsTotal (products n c) k s x → (m : ℕ) × (1 ≤ m) × (x.num ≡ pos m)
positive_total n c k s x h =
    let m = product_from (across c) h.first h.rest in (
      1 * m,
      one-le-mul (omega arith) (product_from-positive (across c) (λ i j. le-max_left 1 (c i j)) h.first h.rest),
      subst (λ (y : ExactTotal). y.num ≡ pos (1 * m)) h.total (num_after n c (products n c).empty 1 h.first h.rest refl),
    )

-- ---- below a positive start exactly where the product across is less

below : (z w : ℤ) (m p q a d : ℕ) → 1 ≤ m → 1 ≤ a → z ≡ pos (m * p) → w ≡ pos m → d ≡ a * q → p < q → (z *ℤ pos a) <ℤ (w *ℤ pos d)
below z w m p q a d hm ha ez ew ed h =
    let h1 = mul-lt-mul_of_pos_right {k = m} h hm in
    let h2 = mul-lt-mul_of_pos_right {k = a} h1 ha in
    rw (ez, ew, ed) (pos-less (m * p * a) (m * (a * q)) (omega (arith, h2)))

less_of_below : (z w : ℤ) (m p q a d : ℕ) → z ≡ pos (m * p) → w ≡ pos m → d ≡ a * q → (z *ℤ pos a) <ℤ (w *ℤ pos d) → p < q
less_of_below z w m p q a d ez ew ed h =
    let g : pos (m * p * a) <ℤ pos (m * (a * q)) = rw (ez, ew, ed) at h in
    let l = less-pos (m * p * a) (m * (a * q)) g in
    let h2 : p * m * a < q * m * a = omega (arith, l) in
    lt_of_mul-lt-mul_right m (lt_of_mul-lt-mul_right a h2)

pub ends_below : (n : ℕ) (c : ℕ → ℕ → ℕ) (x : ExactTotal) (m t : ℕ) (rest : List ℕ) → 1 ≤ m → x.num ≡ pos m → product_from (across c) t rest < product_from (own c) t rest → IsLess (total_after (products n c) x t rest) x
ends_below n c x m t rest hm e h =
    below (total_after (products n c) x t rest).num x.num m (product_from (across c) t rest) (product_from (own c) t rest) x.den (total_after (products n c) x t rest).den
    hm x.positive (num_after n c x m t rest e) e (den_after n c x t rest) h

pub falls_from : (n : ℕ) (c : ℕ → ℕ → ℕ) (x : ExactTotal) (m t : ℕ) (rest : List ℕ) → x.num ≡ pos m → IsLess (total_after (products n c) x t rest) x → product_from (across c) t rest < product_from (own c) t rest
falls_from n c x m t rest e h =
    less_of_below (total_after (products n c) x t rest).num x.num m (product_from (across c) t rest) (product_from (own c) t rest) x.den (total_after (products n c) x t rest).den
    (num_after n c x m t rest e) e (den_after n c x t rest) h

pub products_treat_starts_alike : (n : ℕ) (c : ℕ → ℕ → ℕ) → StartsAlike (products n c)
products_treat_starts_alike n c first rest is_walk closed k j x y hx hy less =
    let a = positive_total n c k first x hx in
    let b = positive_total n c j first y hy in
    ends_below n c y b.0 first rest b.1 b.2 (falls_from n c x a.0 first rest a.2 less)

-- the walk s, t, s ends below every start exactly where the product of the costs across is less
pub breaks_by_costs : (n : ℕ) (c : ℕ → ℕ → ℕ) (s t : ℕ) → s < n → 1 ≤ c s t → 1 ≤ c t s → 1 ≤ c s s → 1 ≤ c t t → PairFalls c s t ↔ PairBreaks (products n c) s t
breaks_by_costs n c s t hs pst pts pss ptt =
    let est = at_least_one-is (c s t) pst in
    let ets = at_least_one-is (c t s) pts in
    let ess = at_least_one-is (c s s) pss in
    let ett = at_least_one-is (c t t) ptt in (
      λ h k x reached.
          let m = positive_total n c k s x reached in
          ends_below n c x m.0 s (t ∷ s ∷ []) m.1 m.2 (to_parts (c s t) (c t s) (c s s) (c t t) (across c s t) (across c t s) (own c s t) (own c t s) est ets ess ett h),
      λ breaks. from_parts (c s t) (c t s) (c s s) (c t t) (across c s t) (across c t s) (own c s t) (own c t s) est ets ess ett
          (falls_from n c (products n c).empty 1 s (t ∷ s ∷ []) refl (breaks 0 (products n c).empty (IsTotal-here (products n c) s hs))),
    )
  where
    to_parts : (a b d e a' b' d' e' : ℕ) → a' ≡ a → b' ≡ b → d' ≡ d → e' ≡ e → a * b < d * e → a' * (b' * 1) < d' * (e' * 1)
    to_parts a b d e a' b' d' e' ea eb ed ee h = rw (ea, eb, ed, ee) (omega (arith, h))

    from_parts : (a b d e a' b' d' e' : ℕ) → a' ≡ a → b' ≡ b → d' ≡ d → e' ≡ e → a' * (b' * 1) < d' * (e' * 1) → a * b < d * e
    from_parts a b d e a' b' d' e' ea eb ed ee h =
        let g = rw (ea, eb, ed, ee) at h in
        omega (arith, g)

-- the test of the code, on what the calls gave
pub breaks_tested : (n : ℕ) (c : ℕ → ℕ → ℕ) (s t a b d e ab de : ℕ) → s < n → t < n → a ≡ c s t → b ≡ c t s → d ≡ c s s → e ≡ c t t → 1 ≤ a → 1 ≤ b → 1 ≤ d → 1 ≤ e → ab ≡ a * b → de ≡ d * e → IsTrue (nat_lt ab de) ↔ PairBreaks (products n c) s t
breaks_tested n c s t a b d e ab de hs ht ea eb ed ee ha hb hd he eab ede =
    let all = breaks_by_costs n c s t hs (omega (arith, ea, ha)) (omega (arith, eb, hb)) (omega (arith, ed, hd)) (omega (arith, ee, he)) in
    (λ h. all.0 (less (tested ab de h)), λ breaks. test ab de (more (all.1 breaks)))
  where
    less : ab < de → c s t * c t s < c s s * c t t
    less h = rw (← ea, ← eb, ← ed, ← ee, ← eab, ← ede) h

    more : c s t * c t s < c s s * c t t → ab < de
    more h = rw (eab, ede, ea, eb, ed, ee) h
