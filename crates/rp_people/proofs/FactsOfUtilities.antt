-- Utilities that hold the definitions in place. The sum of two goods is strictly monotone, concave and homogeneous, the
-- lesser of them monotone, and not strictly, and concave, and the greater not concave: halfway between (2, 0) and (0, 2)
-- it is 1.
use Rattle.std.proofs.Common.{◌≡◌, ℕ, zero, suc, ◌+◌, ◌*◌, ◌<◌, ◌≤◌, [], ◌∷◌, ap, refl, sym, subst, arith}
use Rattle.std.proofs.lemmas.Int.{ints}
use Rattle.std.proofs.Math.Nat.{mul-le-mul_left}
use Rattle.std.specs.Prelude.{min, pos, ◌+ℤ◌, ◌*ℤ◌, ◌<ℤ◌, ◌≤ℤ◌}
use Rattle.rp_evidence.specs.Demand.{FractionBundle}
use Rattle.rp_people.specs.Bundles.{AreEqualInValue, HasMoreOfEveryGood, mixture, multiple}
use Rattle.rp_people.specs.Fractions.{SignedFraction}
use Rattle.rp_people.specs.Utilities.{IsConcave, IsConcaveUtility, IsHomogeneous, IsMonotone, IsStrictlyMonotone, IsUtilityOfBundles, preference_of}
use Rattle.rp_people.proofs.Affine.{spending_mixture, spending_more_of_one, spending_multiple}
use Rattle.rp_people.proofs.Differences.{at_most_times}
use Rattle.rp_people.proofs.FactsOfBundles.{more_of_one, over, ratio}
use Rattle.rp_people.proofs.FactsOfPreferences.{greater, lesser, more_lesser, more_size, same_lesser, same_size, size}

-- a number of the bundle, over its denominator
abbrev of : (FractionBundle → ℕ) → FractionBundle → SignedFraction
of f x = ratio (pos (f x)) x.den

-- ---- in whole numbers

below_whole : (a b d e : ℕ) → a * d < b * e → (pos a *ℤ pos d) <ℤ (pos b *ℤ pos e)
below_whole a b d e l = omega (arith, ints)

same_whole : (a b d e : ℕ) → a * d ≡ b * e → pos a *ℤ pos d ≡ pos b *ℤ pos e
same_whole a b d e same = omega (arith, ints)

mixed_whole : (p v d q w e : ℕ) → (pos p *ℤ (pos v *ℤ pos d)) +ℤ (pos q *ℤ (pos w *ℤ pos e)) ≡ pos (p * (v * d) + q * (w * e))
mixed_whole p v d q w e = omega (arith, ints)

at_most_whole : (a b : ℕ) → a ≤ b → pos a ≤ℤ pos b
at_most_whole a b l = omega (arith, ints)

module _ (f : FractionBundle → ℕ) where
  of_bundles : ((x y : FractionBundle) → AreEqualInValue 2 x y → f x * y.den ≡ f y * x.den) → IsUtilityOfBundles 2 (of f)
  of_bundles same = record {
    fraction = λ x ix. ix;
    by_value = λ x y ix iy e. same_whole (f x) (f y) y.den x.den (same x y e);
  }

  of_more : ((x y : FractionBundle) → HasMoreOfEveryGood 2 x y → f y * x.den < f x * y.den) → IsMonotone 2 (of f)
  of_more more x y ix iy m = below_whole (f y) (f x) x.den y.den (more x y m)

  of_mixtures : ((p q : ℕ) (x y : FractionBundle) → p * (f x * y.den) + q * (f y * x.den) ≤ f (mixture p q x y)) → IsConcave (of f)
  of_mixtures mixes p q x y some ix iy =
      at_most_times ((pos p *ℤ (pos (f x) *ℤ pos y.den)) +ℤ (pos q *ℤ (pos (f y) *ℤ pos x.den))) (pos (f (mixture p q x y))) ((p + q) * (x.den * y.den))
      (subst (λ z. z ≤ℤ pos (f (mixture p q x y))) (sym (mixed_whole p (f x) y.den q (f y) x.den)) (at_most_whole _ _ (mixes p q x y)))

-- ---- the sum

size_is_concave_utility : IsConcaveUtility 2 (of size)
size_is_concave_utility = record {
  utility_of_bundles = of_bundles size same_size;
  monotone = of_more size more_size;
  strictly_monotone = λ x y ix iy more.
      below_whole (size y) (size x) x.den y.den
      (spending_more_of_one 2 (λ g. 1) x.num y.num x.den y.den more.good more.among (λ g l. omega arith) more.no_less more.more);
  concave = of_mixtures size (λ p q x y. let e = spending_mixture 2 (λ g. 1) p q x y in omega arith);
}

size_is_homogeneous : IsHomogeneous (of size)
size_is_homogeneous num den x some_num some_den ix =
    multiplied (size (multiple num den x)) num (size x) (den * x.den) (spending_multiple 2 (λ g. 1) num den x)
  where
    multiplied : (u n v d : ℕ) → u ≡ n * v → pos u *ℤ pos d ≡ (pos n *ℤ pos v) *ℤ pos d
    multiplied u n v d e = let f = ap (λ z. z * d) e in omega (arith, ints)

-- one more is not: of nothing it is 1, and of twice nothing too
one_more : FractionBundle → SignedFraction
one_more x = ratio (pos (size x + x.den)) x.den

one_more_is_not : ¬ IsHomogeneous one_more
unfolding one_more
one_more_is_not is = let e = is 2 1 (over 1 (0 ∷ 0 ∷ [])) (omega arith) (omega arith) (omega arith) in absurd (omega (arith, ints, e))

-- nor is what is so for whole multiples alone: the numerators, whatever they are over
numerators : FractionBundle → SignedFraction
numerators x = ratio (pos (x.num 0)) 1

numerators_are_not : ¬ IsHomogeneous numerators
unfolding numerators
numerators_are_not is = let e = is 1 2 (over 1 (1 ∷ [])) (omega arith) (omega arith) (omega arith) in absurd (omega (arith, ints, e))

numerators_are_no_utility : ¬ IsUtilityOfBundles 1 numerators
unfolding numerators
numerators_are_no_utility is = let e = is.by_value (over 2 (1 ∷ [])) (over 4 (2 ∷ [])) (omega arith) (omega arith) same in absurd (omega (arith, ints, e))
  where
    same : AreEqualInValue 1 (over 2 (1 ∷ [])) (over 4 (2 ∷ []))
    same zero l = refl
    same (suc g) l = absurd (omega arith)

-- ---- the lesser of two goods

lesser_is_utility : IsUtilityOfBundles 2 (of lesser) × IsMonotone 2 (of lesser)
lesser_is_utility = (of_bundles lesser same_lesser, of_more lesser more_lesser)

lesser_is_not_strict : ¬ IsStrictlyMonotone 2 (of lesser)
lesser_is_not_strict strictly =
    let l = strictly (over 1 (2 ∷ 1 ∷ [])) (over 1 (1 ∷ 1 ∷ [])) (omega arith) (omega arith) more_of_one in
    absurd (omega (arith, ints, l))

lesser_is_concave : IsConcave (of lesser)
lesser_is_concave = of_mixtures lesser mixes
  where
    both : (k a b : ℕ) → k ≤ a → k ≤ b → k ≤ min a b
    both k a b l m = omega arith

    mixes : (p q : ℕ) (x y : FractionBundle) → p * (lesser x * y.den) + q * (lesser y * x.den) ≤ lesser (mixture p q x y)
    mixes p q x y =
        let x0 : (p * y.den) * lesser x ≤ (p * y.den) * x.num 0 = mul-le-mul_left (p * y.den) (omega arith) in
        let x1 : (p * y.den) * lesser x ≤ (p * y.den) * x.num 1 = mul-le-mul_left (p * y.den) (omega arith) in
        let y0 : (q * x.den) * lesser y ≤ (q * x.den) * y.num 0 = mul-le-mul_left (q * x.den) (omega arith) in
        let y1 : (q * x.den) * lesser y ≤ (q * x.den) * y.num 1 = mul-le-mul_left (q * x.den) (omega arith) in
        both (p * (lesser x * y.den) + q * (lesser y * x.den)) (p * (x.num 0 * y.den) + q * (y.num 0 * x.den)) (p * (x.num 1 * y.den) + q * (y.num 1 * x.den)) (omega arith) (omega arith)

-- ---- the greater

greater_is_not_concave : ¬ IsConcave (of greater)
greater_is_not_concave concave =
    let l = concave 1 1 (over 1 (2 ∷ 0 ∷ [])) (over 1 (0 ∷ 2 ∷ [])) (omega arith) (omega arith) (omega arith) in
    absurd (omega (arith, ints, l))

-- ---- the preference of a utility: what has more of it is better, and what has as much as good

by_utility : preference_of (of size) (over 1 (2 ∷ 0 ∷ [])) (over 2 (2 ∷ 2 ∷ [])) × (¬ preference_of (of size) (over 1 (1 ∷ 0 ∷ [])) (over 2 (2 ∷ 2 ∷ [])))
by_utility = (omega (arith, ints), λ l. absurd (omega (arith, ints, l)))
