-- Least common multiples.
use Rattle.std.proofs.Common.{◌≡◌, ℕ, zero, suc, ◌+◌, ◌*◌, ◌/◌, ◌%◌, ◌<◌, sym, ap, subst, arith, below_more}
use Prim.Native.Nat.{◌∣◌}
use Rattle.std.specs.Int.{IsGcd}
use Rattle.std.proofs.Math.Nat.{div-add-mod', dvd-mul_left, dvd_trans, dvd_of_mul-dvd-mul_right, eq-zero_of_zero-dvd, mul-dvd-mul_right, mul-pos, one-dvd}
use Rattle.std.proofs.lemmas.Nat.Gcd.{le_of_dvd, mod-eq-zero_of_dvd}
use Rattle.rp_num.proofs.Coprime.{IsCoprime-divided, divides_other_factor}
use Rattle.rp_patch.specs.Apportionment.{GroupedCounts, IsCommonMultiple, IsLeastCommonMultiple, counts_in}
use Rattle.rp_patch.specs.InnerMultiples.{IsCommon}

whole_type : (a g : ℕ) → g ∣ a → a / g * g ≡ a
whole_type a g divides = let rest : a % g ≡ 0 = mod-eq-zero_of_dvd g divides in omega (arith, div-add-mod' a g, rest)

above_zero : (p b m : ℕ) → p * b ≡ m → 0 < m → 0 < p
above_zero zero b m is positive = omega (arith, is)
above_zero (suc p) b m is positive = omega arith

positive_divisor : (a g : ℕ) → 0 < a → g ∣ a → 0 < g
positive_divisor a zero ha divides = absurd (omega (arith, eq-zero_of_zero-dvd divides, ha))
positive_divisor a (suc g) ha divides = omega arith

-- a multiple of both has the part of a in its quotient by b
least_of : (a b g p q k y : ℕ) → 0 < g → IsGcd a b g → p * g ≡ a → q * g ≡ b → y * b ≡ k → 0 < k → a ∣ k → p * b ∣ k
least_of a b g p q k y hg is ea eb ey hk da =
    let scaled : k ≡ (q * y) * g = omega (arith, ap (λ n. y * n) eb, ey) in
    let divides : p * g ∣ (q * y) * g = subst (λ n. p * g ∣ n) scaled (subst (λ n. n ∣ k) (sym ea) da) in
    let both : p ∣ q * y = dvd_of_mul-dvd-mul_right p hg divides in
    let other : p ∣ y = divides_other_factor p q y (above_zero y b k ey hk) (IsCoprime-divided a b g p q hg is ea eb) both in
    subst (λ n. p * b ∣ n) ey (mul-dvd-mul_right p other b)

pub common : (a b g : ℕ) → 0 < a → 0 < b → IsGcd a b g → IsCommon a b (a / g * b)
common a b g ha hb is =
    let ea = whole_type a g is.0 in
    let eb = whole_type b g is.1 in
    let hp = above_zero (a / g) g a ea ha in
    let hq = above_zero (b / g) g b eb hb in
    let hg : 0 < g = positive_divisor a g ha is.0 in
    record {
      positive = mul-pos hp hb;
      first = subst (λ n. a ∣ n) (omega (arith, ap (λ n. (b / g) * n) ea, ap (λ n. (a / g) * n) eb)) (dvd-mul_left a (b / g));
      second = dvd-mul_left b (a / g);
      least = λ k hk da db. least_of a b g (a / g) (b / g) k (k / b) hg is ea eb (whole_type k b db) hk da;
    }

-- the least common multiple of one more
pub one_more : (g : GroupedCounts) (j m next : ℕ) → IsLeastCommonMultiple g j m → ((k : ℕ) → IsCommonMultiple g j k → m ∣ k)
    → IsCommon m (counts_in g j) next
    → IsLeastCommonMultiple g (j + 1) next × ((k : ℕ) → IsCommonMultiple g (j + 1) k → next ∣ k)
one_more g j m next is divides both = ((multiple, λ k of. le_of_dvd of.0 (all k of)), all)
  where
    all : (k : ℕ) → IsCommonMultiple g (j + 1) k → next ∣ k
    all k of = both.least k of.0 (divides k (of.0, λ i below. of.1 i (omega arith))) (of.1 j (omega arith))

    multiple : IsCommonMultiple g (j + 1) next
    multiple = (both.positive, below_more (λ i. counts_in g i ∣ next) j (λ i below. dvd_trans (counts_in g i) (is.0.1 i below) both.first) both.second)

-- of no numbers it is 1
pub none_yet : (g : GroupedCounts) → IsLeastCommonMultiple g 0 1 × ((k : ℕ) → IsCommonMultiple g 0 k → 1 ∣ k)
none_yet g = (((omega arith, λ j below. absurd (omega (arith, below))), λ k of. omega (arith, of.0)), λ k of. one-dvd k)
