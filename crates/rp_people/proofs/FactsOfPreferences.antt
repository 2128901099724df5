-- Preferences that hold the definitions in place. Who looks at a number of each bundle has a preference, where the number
-- is the same by value and rises with every good: the sum of two goods, the lesser of them (strict monotonicity is not
-- asked for) and the greater (convexity is not). Answers that lack one property each are none.
use Rattle.std.proofs.Common.{◌≡◌, ℕ, zero, suc, ◌+◌, ◌*◌, ◌<◌, ◌≤◌, ◌⊎◌, inl, inr, [], ◌∷◌, ap, refl, arith}
use Rattle.std.proofs.lemmas.Bool.{cases_lt}
use Rattle.std.proofs.Math.Nat.{le_of_mul-le-mul_left, mul-le-mul_left, mul-pos}
use Rattle.std.specs.Prelude.{IsTrue, ◌&&◌, max, min, nat_le}
use Rattle.rp_table.specs.Spending.{spending}
use Rattle.rp_evidence.specs.Demand.{FractionBundle}
use Rattle.rp_people.specs.Bundles.{AreEqualInValue, AreWithin, HasMoreOfEveryGood, IsBundle, multiple}
use Rattle.rp_people.specs.Preferences.{IsAtLeastAsGood, IsBetter, IsComplete, IsHomotheticPreference, IsNonsatiated, IsNonsatiatedPreference, IsPreference, IsTransitive, PrefersMore, TreatsAlikeByValue}
use Rattle.rp_people.proofs.Affine.{spending_equal, spending_more, spending_multiple}
use Rattle.rp_people.proofs.FactsOfBundles.{over}

-- ---- who looks at a number of each bundle, over its denominator

abbrev pub by : (FractionBundle → ℕ) → FractionBundle → FractionBundle → Type 0
by f x y = IsTrue (nat_le (f y * x.den) (f x * y.den))

pub test : (a b : ℕ) → (IsTrue (nat_le a b) → a ≤ b) × (a ≤ b → IsTrue (nat_le a b))
test a b = (λ e. grind arith, λ l. grind arith)

either_way : (a b : ℕ) → IsTrue (nat_le a b) ⊎ IsTrue (nat_le b a)
either_way a b = elim (cases_lt a b) [ inl l ↦ inl ((test a b).1 (omega arith)) | inr l ↦ inr ((test b a).1 l) ]

module _ (f : FractionBundle → ℕ) where
  by_is_transitive : IsTransitive (by f)
  by_is_transitive x y z ix iy iz h k = (test _ _).1 (on (f x) (f y) (f z) x.den y.den z.den iy ((test _ _).0 h) ((test _ _).0 k))
    where
      on : (a b c d e g : ℕ) → 0 < e → b * d ≤ a * e → c * e ≤ b * g → c * d ≤ a * g
      on a b c d e g some h k =
          let p : g * (b * d) ≤ g * (a * e) = mul-le-mul_left g h in
          let q : d * (c * e) ≤ d * (b * g) = mul-le-mul_left d k in
          le_of_mul-le-mul_left {k = e} (omega arith) some

  pub by_is_preference : (goods : ℕ) → ((x y : FractionBundle) → AreEqualInValue goods x y → f x * y.den ≡ f y * x.den)
      → ((x y : FractionBundle) → HasMoreOfEveryGood goods x y → f y * x.den < f x * y.den) → IsPreference goods (by f)
  by_is_preference goods same more = record {
    complete = λ x y ix iy. either_way (f y * x.den) (f x * y.den);
    transitive = by_is_transitive;
    by_value = λ x y ix iy e. let s = same x y e in (test _ _).1 (omega arith);
    monotone = λ x y ix iy m. let l = more x y m in ((test _ _).1 (omega arith), λ h. let k = (test _ _).0 h in omega arith);
  }

-- ---- the sum, the lesser and the greater of two goods

abbrev pub size : FractionBundle → ℕ
size x = spending 2 (λ g. 1) x.num

abbrev pub lesser : FractionBundle → ℕ
lesser x = min (x.num 0) (x.num 1)

abbrev pub greater : FractionBundle → ℕ
greater x = max (x.num 0) (x.num 1)

pub min_times : (a b c : ℕ) → min a b * c ≡ min (a * c) (b * c)
min_times a b c = elim (cases_lt a b) [
  | inl l ↦ let e : min a b ≡ a = omega arith in let f = ap (λ z. z * c) e in let g : c * a ≤ c * b = mul-le-mul_left c (omega arith) in omega arith
  | inr l ↦ let e : min a b ≡ b = omega arith in let f = ap (λ z. z * c) e in let g : c * b ≤ c * a = mul-le-mul_left c l in omega arith
]

max_times : (a b c : ℕ) → max a b * c ≡ max (a * c) (b * c)
max_times a b c = elim (cases_lt a b) [
  | inl l ↦ let e : max a b ≡ b = omega arith in let f = ap (λ z. z * c) e in let g : c * a ≤ c * b = mul-le-mul_left c (omega arith) in omega arith
  | inr l ↦ let e : max a b ≡ a = omega arith in let f = ap (λ z. z * c) e in let g : c * b ≤ c * a = mul-le-mul_left c l in omega arith
]

pub same_size : (x y : FractionBundle) → AreEqualInValue 2 x y → size x * y.den ≡ size y * x.den
same_size x y same = spending_equal 2 (λ g. 1) x.num y.num x.den y.den same

pub more_size : (x y : FractionBundle) → HasMoreOfEveryGood 2 x y → size y * x.den < size x * y.den
more_size x y more = spending_more 2 (λ g. 1) x.num y.num x.den y.den (omega arith) (λ g l. omega arith) more

pub same_lesser : (x y : FractionBundle) → AreEqualInValue 2 x y → lesser x * y.den ≡ lesser y * x.den
same_lesser x y same = omega (arith, min_times (x.num 0) (x.num 1) y.den, min_times (y.num 0) (y.num 1) x.den, same 0 (omega arith), same 1 (omega arith))

pub more_lesser : (x y : FractionBundle) → HasMoreOfEveryGood 2 x y → lesser y * x.den < lesser x * y.den
more_lesser x y more = omega (arith, min_times (x.num 0) (x.num 1) y.den, min_times (y.num 0) (y.num 1) x.den, more 0 (omega arith), more 1 (omega arith))

by_size : IsPreference 2 (by size)
by_size = by_is_preference size 2 same_size more_size

by_lesser : IsPreference 2 (by lesser)
by_lesser = by_is_preference lesser 2 same_lesser more_lesser

by_greater : IsPreference 2 (by greater)
by_greater =
    by_is_preference greater 2
    (λ x y same. omega (arith, max_times (x.num 0) (x.num 1) y.den, max_times (y.num 0) (y.num 1) x.den, same 0 (omega arith), same 1 (omega arith)))
    (λ x y more. omega (arith, max_times (x.num 0) (x.num 1) y.den, max_times (y.num 0) (y.num 1) x.den, more 0 (omega arith), more 1 (omega arith)))

-- as good as each other, though halfway is worse
greater_is_not_convex : IsAtLeastAsGood (by greater) (over 1 (0 ∷ 2 ∷ [])) (over 1 (2 ∷ 0 ∷ [])) × (¬ IsAtLeastAsGood (by greater) (over 1 (1 ∷ 1 ∷ [])) (over 1 (2 ∷ 0 ∷ [])))
greater_is_not_convex = (refl, λ e. absurd cc)

-- ---- better, and as good

better_by_size : IsBetter (by size) (over 1 (2 ∷ 1 ∷ [])) (over 2 (3 ∷ 1 ∷ []))
better_by_size = (refl, λ e. absurd cc)

no_better_by_size : ¬ IsBetter (by size) (over 1 (2 ∷ 0 ∷ [])) (over 1 (1 ∷ 1 ∷ []))
no_better_by_size is = is.1 refl

-- ---- answers that are no preferences

-- who looks at both goods does not compare (2, 0) and (0, 2)
by_both : FractionBundle → FractionBundle → Type 0
by_both x y = IsTrue (nat_le (y.num 0 * x.den) (x.num 0 * y.den) && nat_le (y.num 1 * x.den) (x.num 1 * y.den))

not_complete : ¬ IsComplete by_both
unfolding by_both
not_complete complete = elim (complete (over 1 (2 ∷ 0 ∷ [])) (over 1 (0 ∷ 2 ∷ [])) (omega arith) (omega arith)) [ inl e ↦ absurd cc | inr e ↦ absurd cc ]

-- who does not see one unit has 1 as good as 2, and 2 as 3
nearly : FractionBundle → FractionBundle → Type 0
nearly x y = IsTrue (nat_le (y.num 0) (x.num 0 + 1))

not_transitive : ¬ IsTransitive nearly
unfolding nearly
not_transitive transitive =
    let e = transitive (over 1 (1 ∷ [])) (over 1 (2 ∷ [])) (over 1 (3 ∷ [])) (omega arith) (omega arith) (omega arith) refl refl in
    absurd cc

-- who looks at numerators tells 1/2 and 2/4 apart
as_written : FractionBundle → FractionBundle → Type 0
as_written x y = IsTrue (nat_le (y.num 0) (x.num 0))

not_by_value : ¬ TreatsAlikeByValue 1 as_written
unfolding as_written
not_by_value alike =
    let e = alike (over 2 (1 ∷ [])) (over 4 (2 ∷ [])) (omega arith) (omega arith) same in
    absurd cc
  where
    same : AreEqualInValue 1 (over 2 (1 ∷ [])) (over 4 (2 ∷ []))
    same zero l = refl
    same (suc g) l = absurd (omega arith)

-- who answers always the same is satiated
always_satiated : (goods : ℕ) (answer : Type 0) → ¬ IsNonsatiated goods (λ x y. answer)
always_satiated goods answer is =
    let r = is (over 1 []) 1 1 (omega arith) (omega arith) (omega arith) in
    r.3.1 r.3.0

-- ---- local nonsatiation asks for less than more of every good: who wants the first good and not the second

abbrev by_difference : FractionBundle → FractionBundle → Type 0
by_difference x y = IsTrue (nat_le (y.num 0 * x.den + x.num 1 * y.den) (x.num 0 * y.den + y.num 1 * x.den))

-- the bundle and 1/parts of the first good
first_added : ℕ → FractionBundle → ℕ → ℕ
first_added parts x zero = parts * x.num 0 + x.den
first_added parts x (suc g) = parts * x.num (suc g)

abbrev more_of_first : ℕ → FractionBundle → FractionBundle
more_of_first parts x = record { den = parts * x.den; num = first_added parts x }

first_near : (x : FractionBundle) (num den : ℕ) → 1 ≤ num → AreWithin 2 (more_of_first den x) x num den
unfolding first_added
first_near x num den some zero l =
    let k : ((den * x.den) * x.den) * 1 ≤ ((den * x.den) * x.den) * num = mul-le-mul_left ((den * x.den) * x.den) some in
    (omega arith, omega arith)
first_near x num den some (suc g) l = (omega arith, omega arith)

first_better : (x : FractionBundle) (den : ℕ) → IsBundle x → IsBetter by_difference (more_of_first den x) x
unfolding first_added
first_better x den ix = (
  (test _ _).1 (omega arith),
  λ e. let l = (test _ _).0 e in let k : 0 < x.den * x.den = mul-pos ix ix in omega arith,
)

by_difference_is_nonsatiated : IsNonsatiatedPreference 2 by_difference
by_difference_is_nonsatiated = record {
  complete = λ x y ix iy. elim (either_way (y.num 0 * x.den + x.num 1 * y.den) (x.num 0 * y.den + y.num 1 * x.den)) [
    | inl e ↦ inl e
    | inr e ↦ inr e
  ];
  transitive = λ x y z ix iy iz h k. (test _ _).1 (on (x.num 0) (x.num 1) x.den (y.num 0) (y.num 1) y.den (z.num 0) (z.num 1) z.den iy ((test _ _).0 h) ((test _ _).0 k));
  nonsatiated = λ x num den ix some_num some_den. (more_of_first den x, mul-pos some_den ix, first_near x num den some_num, first_better x den ix);
}
  where
    on : (a b d p q e v w g : ℕ) → 0 < e → p * d + b * e ≤ a * e + q * d → v * e + q * g ≤ p * g + w * e → v * d + b * g ≤ a * g + w * d
    on a b d p q e v w g some h k =
        let m : g * (p * d + b * e) ≤ g * (a * e + q * d) = mul-le-mul_left g h in
        let n : d * (v * e + q * g) ≤ d * (p * g + w * e) = mul-le-mul_left d k in
        le_of_mul-le-mul_left {k = e} (omega arith) some

by_difference_wants_no_more : ¬ PrefersMore 2 by_difference
by_difference_wants_no_more more =
    let e = (more (over 1 (2 ∷ 3 ∷ [])) (over 1 (1 ∷ 1 ∷ [])) (omega arith) (omega arith) has).0 in
    absurd cc
  where
    has : HasMoreOfEveryGood 2 (over 1 (2 ∷ 3 ∷ [])) (over 1 (1 ∷ 1 ∷ []))
    has zero l = omega arith
    has (suc zero) l = omega arith
    has (suc (suc g)) l = absurd (omega arith)

-- ---- homothetic: the sum is, and the sum where it is above 1 is not, since 1/4 is as good as 1/2 there and 1 not as 2

size_is_homothetic : IsHomotheticPreference (by size)
size_is_homothetic num den x y some_num some_den ix iy e =
    let h = (test _ _).0 e in
    let ex = spending_multiple 2 (λ g. 1) num den x in
    let ey = spending_multiple 2 (λ g. 1) num den y in
    let m : (num * den) * (size y * x.den) ≤ (num * den) * (size x * y.den) = mul-le-mul_left (num * den) h in
    (test _ _).1 (enough (size (multiple num den x)) (size (multiple num den y)) (size x) (size y) num den x.den y.den ex ey m)
  where
    enough : (u v a b num den d e : ℕ) → u ≡ num * a → v ≡ num * b → (num * den) * (b * d) ≤ (num * den) * (a * e) → v * (den * d) ≤ u * (den * e)
    enough u v a b num den d e eu ev m =
        let p = ap (λ z. z * (den * e)) eu in
        let q = ap (λ z. z * (den * d)) ev in
        omega arith

above_one : FractionBundle → FractionBundle → Type 0
above_one x y = IsTrue (nat_le (max (y.num 0) y.den * x.den) (max (x.num 0) x.den * y.den))

above_one_is_not : ¬ IsHomotheticPreference above_one
unfolding above_one
above_one_is_not homothetic =
    let e = homothetic 4 1 (over 4 (1 ∷ [])) (over 2 (1 ∷ [])) (omega arith) (omega arith) (omega arith) (omega arith) refl in
    absurd cc
