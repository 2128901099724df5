-- The mean over the least common denominator is the mean.
use Rattle.std.proofs.Common.{◌≡◌, ◌<◌, ◌≤◌, ◌+◌, ◌*◌, ◌/◌, ◌^◌, ◌==◌, ◌⊎◌, ℕ, zero, suc, Bool, true, false, refl, sym, subst, ap, inl, inr, ◌∙◌, arith}
use Prim.Native.Nat.{◌∣◌}
use Rattle.std.proofs.Math.Nat.{div-mul_cancel, dvd-mul_left, dvd-mul_right, dvd_trans, eq_of_mul-eq-mul_right, le_of_mul-le-mul_right, mul-div-le, mul-le-mul_left, mul-le-mul_right, one-le-mul, one-le-pow}
use Rattle.std.proofs.lemmas.Bool.{false≢true}
use Rattle.std.proofs.lemmas.Bool.Decides.{Decides-eqb}
use Rattle.rp_fit.specs.Fractions.{fractions_below, product_below}
use Rattle.rp_fit.specs.Levels.{lack, lack_den, lack_parts, lack_sum}
use Rattle.rp_fit.specs.LevelsEvidence.{level_den, level_num, power_of}
use Rattle.rp_fit.specs.declared.levels.LevelsPart.{LevelsPart}
use Rattle.rp_num.specs.Fraction.{Fraction, IsLowestTerms}
use Rattle.rp_print.proofs.Euclid.{IsLowestTerms-euclid}
use Rattle.rp_print.specs.LowestTerms.{lowest_terms}
use Rattle.rp_table.specs.Sums.{sum_below}
use Rattle.rp_fit_report.specs.MeanLack.{common_den, lack_of, least_multiple, mean_of, parts_in}

-- ---- multiples

pub some_multiple : (a b : ℕ) → 1 ≤ a → 1 ≤ b → 1 ≤ least_multiple a b
some_multiple a b a_some b_some = one-le-mul a_some (IsLowestTerms-euclid a b b_some).positive

pub multiple_grows : (a b : ℕ) → 1 ≤ b → a ≤ least_multiple a b
multiple_grows a b some =
    let h = mul-le-mul_left a (IsLowestTerms-euclid a b some).positive in
    omega (arith, h)

of_second : (a b : ℕ) → 1 ≤ b → b ∣ least_multiple a b
of_second a b some =
    let f = lowest_terms a b in
    subst (λ k. b ∣ k) (IsLowestTerms-euclid a b some).same_number (dvd-mul_left b f.num)

itself : (a : ℕ) → a ≤ a
itself a = omega arith

last_or_before : (s n : ℕ) → s < suc n → (s ≡ n) ⊎ (s < n)
last_or_before s n l = by_place (s == n) refl
  where
    below : (s n : ℕ) → (s ≡ n → ⊥) → s < suc n → s < n
    below s n other l = omega (arith, other, l)

    by_place : (there : Bool) → (s == n) ≡ there → (s ≡ n) ⊎ (s < n)
    by_place true e = inl ((Decides-eqb s n).0 e)
    by_place false e = inr (below s n (λ same. false≢true (sym e ∙ (Decides-eqb s n).1 same)) l)

module _ (f : ℕ → Fraction) where
  some_den : (n : ℕ) → ((s : ℕ) → s < n → 1 ≤ (f s).den) → 1 ≤ common_den n f
  some_den zero some = omega arith
  some_den (suc n) some = some_multiple (common_den n f) (f n).den (some_den n (λ s l. some s (omega (arith, l)))) (some n (omega arith))

  grows_either : (m n : ℕ) → (m ≡ suc n) ⊎ (m < suc n) → 1 ≤ (f n).den → (m < suc n → common_den m f ≤ common_den n f) → common_den m f ≤ common_den (suc n) f
  grows_either m n (inl e) some rest = subst (λ k. common_den m f ≤ common_den k f) e (itself (common_den m f))
  grows_either m n (inr l) some rest =
      let a = rest l in
      let b = multiple_grows (common_den n f) (f n).den some in
      omega (arith, a, b)

  -- the denominator grows with the observations
  den_grows : (m n : ℕ) → m ≤ n → ((s : ℕ) → s < n → 1 ≤ (f s).den) → common_den m f ≤ common_den n f
  den_grows m zero l some =
      let e : m ≡ 0 = omega (arith, l) in
      subst (λ k. common_den m f ≤ common_den k f) e (itself (common_den m f))
  den_grows m (suc n) l some =
      grows_either m n (last_or_before m (suc n) (omega (arith, l))) (some n (omega arith))
      (λ below. den_grows m n (omega (arith, below)) (λ s s_in. some s (omega (arith, s_in))))

  divides_either : (n s : ℕ) → (s ≡ n) ⊎ (s < n) → 1 ≤ (f n).den → (s < n → (f s).den ∣ common_den n f) → (f s).den ∣ common_den (suc n) f
  divides_either n s (inl e) some rest = subst (λ k. (f k).den ∣ common_den (suc n) f) (sym e) (of_second (common_den n f) (f n).den some)
  divides_either n s (inr l) some rest = dvd_trans (f s).den (rest l) (dvd-mul_right (common_den n f) (lowest_terms (common_den n f) (f n).den).den)

  divides : (n : ℕ) → ((s : ℕ) → s < n → 1 ≤ (f s).den) → (s : ℕ) → s < n → (f s).den ∣ common_den n f
  divides zero some s l = absurd (omega (arith, l))
  divides (suc n) some s l =
      divides_either n s (last_or_before s n l) (some n (omega arith)) (divides n (λ k k_in. some k (omega (arith, k_in))) s)

  -- ---- the sum of the parts

  one_more : (parts fractions product num den k l d m : ℕ) → parts * product ≡ fractions * m → num * d ≡ l * den → k * den ≡ m
      → (parts + num * k) * (product * d) ≡ (fractions * d + l * product) * m
  one_more parts fractions product num den k l d m so_far same whole =
      let a : d * (parts * product) ≡ d * (fractions * m) = ap (λ z. d * z) so_far in
      let b : (product * k) * (num * d) ≡ (product * k) * (l * den) = ap (λ z. (product * k) * z) same in
      let e : (product * l) * (k * den) ≡ (product * l) * m = ap (λ z. (product * l) * z) whole in
      omega (arith, a, b, e)

  module _ (l d : ℕ → ℕ) (m : ℕ) where
    parts_are : (n : ℕ) → ((s : ℕ) → s < n → (f s).num * d s ≡ l s * (f s).den) → ((s : ℕ) → s < n → (f s).den ∣ m)
        → sum_below n (λ s. parts_in m (f s)) * product_below n d ≡ fractions_below n l d * m
    parts_are zero same whole = omega arith
    parts_are (suc n) same whole =
        one_more (sum_below n (λ s. parts_in m (f s))) (fractions_below n l d) (product_below n d) (f n).num (f n).den (m / (f n).den) (l n) (d n) m
        (parts_are n (λ s s_in. same s (omega (arith, s_in))) (λ s s_in. whole s (omega (arith, s_in)))) (same n (omega arith)) (div-mul_cancel (f n).den (whole n (omega arith)))

-- ---- the mean

-- num/den is parts over m times n, and these are the fractions
same_mean : (num den parts fractions product m n : ℕ) → 1 ≤ m → num * (m * n) ≡ parts * den → parts * product ≡ fractions * m → num * (n * product) ≡ fractions * den
same_mean num den parts fractions product m n some same sums =
    let a : product * (num * (m * n)) ≡ product * (parts * den) = ap (λ z. product * z) same in
    let b : den * (parts * product) ≡ den * (fractions * m) = ap (λ z. den * z) sums in
    eq_of_mul-eq-mul_right m some (num * (n * product)) (fractions * den) (omega (arith, a, b))

module _ (c : ℕ → ℕ → ℕ) (part : LevelsPart) where
  terms : (s : ℕ) → 1 ≤ c s s → IsLowestTerms (lack (power_of part.lack) (level_num c part) (level_den c) s) (lack_den (power_of part.lack) (level_den c) s) (lack_of c part s)
  terms s some = IsLowestTerms-euclid (lack (power_of part.lack) (level_num c part) (level_den c) s) (lack_den (power_of part.lack) (level_den c) s) (one-le-pow (power_of part.lack) (c s s) some)

  grows_to : (m n : ℕ) → m ≤ n → ((s : ℕ) → s < n → 1 ≤ c s s) → common_den m (lack_of c part) ≤ common_den n (lack_of c part)
  grows_to m n l some = den_grows (lack_of c part) m n l (λ s s_in. (terms s (some s s_in)).positive)

  -- a multiple past the width is no wider than the common denominator
  pub too_wide : (n s a b k : ℕ) → s < n → ((s : ℕ) → s < n → 1 ≤ c s s) → a ≡ common_den s (lack_of c part) → b ≡ (lack_of c part s).den → k ≡ n
      → 2 ^ 127 ≤ least_multiple a b * k → 2 ^ 127 ≤ common_den n (lack_of c part) * n
  too_wide n s a b k l some ea eb ek h =
      let f = lack_of c part in
      let first : 2 ^ 127 ≤ least_multiple (common_den s f) b * k = subst (λ z. 2 ^ 127 ≤ least_multiple z b * k) ea h in
      let second : 2 ^ 127 ≤ least_multiple (common_den s f) (f s).den * k = subst (λ z. 2 ^ 127 ≤ least_multiple (common_den s f) z * k) eb first in
      let third : 2 ^ 127 ≤ common_den (suc s) f * n = subst (λ z. 2 ^ 127 ≤ least_multiple (common_den s f) (f s).den * z) ek second in
      let grown : common_den (suc s) f * n ≤ common_den n f * n = mul-le-mul_right n (grows_to (suc s) n (omega (arith, l)) some) in
      omega (arith, third, grown)

  pub mean_is : (n : ℕ) → 1 ≤ n → ((s : ℕ) → s < n → 1 ≤ c s s)
      → IsLowestTerms (lack_sum (power_of part.lack) n (level_num c part) (level_den c)) (lack_parts (power_of part.lack) n (level_den c)) (mean_of n (lack_of c part))
  mean_is n n_some some =
      let f = lack_of c part in
      let l = lack (power_of part.lack) (level_num c part) (level_den c) in
      let d = lack_den (power_of part.lack) (level_den c) in
      let m = common_den n f in
      let m_some : 1 ≤ m = some_den f n (λ s s_in. (terms s (some s s_in)).positive) in
      let parts = sum_below n (λ s. parts_in m (f s)) in
      let t = IsLowestTerms-euclid parts (m * n) (one-le-mul m_some n_some) in
      let sums = parts_are f l d m n (λ s s_in. (terms s (some s s_in)).same_number) (divides f n (λ s s_in. (terms s (some s s_in)).positive)) in
      record {
        positive = t.positive;
        coprime = t.coprime;
        same_number = same_mean (mean_of n f).num (mean_of n f).den parts (fractions_below n l d) (product_below n d) m n m_some t.same_number sums;
      }

-- ---- a part of a number

-- a fraction in lowest terms is at most 1 where the numerator was at most the denominator
pub part_stays : (part whole : ℕ) → 1 ≤ whole → part ≤ whole → (lowest_terms part whole).num ≤ (lowest_terms part whole).den
part_stays part whole some l =
    let f = lowest_terms part whole in
    let e = (IsLowestTerms-euclid part whole some).same_number in
    let h = mul-le-mul_left f.den l in
    le_of_mul-le-mul_right {k = whole} (omega (arith, e, h)) some

pub parts_small : (num by den : ℕ) → num ≤ by → num * (den / by) ≤ den
parts_small num by den l =
    let a = mul-le-mul_right (den / by) l in
    let b = mul-div-le den by in
    omega (arith, a, b)
