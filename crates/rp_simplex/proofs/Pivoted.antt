-- What the code's pivot computes is the pivot.
use Prim.Native.Nat.{◌∣◌}
use Rattle.std.proofs.Common.{◌≡◌, ◌≢◌, ℕ, ◌*◌, ◌/◌, ◌%◌, ◌^◌, ◌<◌, ◌≤◌, ℤ, pos, ◌*ℤ◌, cond, eqb, true, false, refl, sym, ◌∙◌, ap, arith}
use Rattle.std.specs.Int.RustNames.{unsigned_abs, int_div}
use Rattle.std.proofs.lemmas.Int.{unsigned_abs-mul}
use Rattle.std.proofs.lemmas.Bool.{eq-eqb, ne_eqb}
use Rattle.std.proofs.lemmas.Nat.{div-add-mod'}
use Rattle.std.proofs.lemmas.Nat.Gcd.{mod-eq-zero_of_dvd, le_of_dvd}
use Rattle.std.proofs.Math.Nat.{mul-lt-mul_of_pos_right}
use Rattle.rp_simplex.specs.ExactTableau.{ExactTableau}
use Rattle.rp_simplex.specs.Pivot.{cleared, DividesAll, IsPivot}
use Rattle.rp_simplex.specs.InnerPivot.{PivotPasses}
use Rattle.rp_simplex.proofs.Divisors.{divided}
use Rattle.rp_simplex.proofs.OneMore.{not_zero}

-- a number times its quotient by a divisor
pub whole_quotient : (n g : ℕ) → g ∣ n → n / g * g ≡ n
whole_quotient n g d =
    let rest : n % g ≡ 0 = mod-eq-zero_of_dvd g d in
    omega (arith, div-add-mod' n g)

-- the numbers of the pivot, as the code has them: the new denominator and its greatest common divisor with all numerators
pub record Taken (rows width : ℕ) (t : ExactTableau) (r c den g : ℕ) : Type 0 where
  pub den_is : pos den ≡ pos t.den *ℤ t.at r c
  pub positive : 0 < g
  pub divides_den : g ∣ den
  pub divides : DividesAll rows width t r c g
  pub greatest : (k : ℕ) → DividesAll rows width t r c k → k ∣ g

module _ (rows width : ℕ) (t : ExactTableau) (r c den g : ℕ) (taken : Taken rows width t r c den g) where
  new_den : pos t.den *ℤ t.at r c ≡ pos (den / g * g)
  new_den = sym taken.den_is ∙ ap pos (sym (whole_quotient den g taken.divides_den))

  pub pivot_by : (u : ExactTableau) → u.den ≡ den / g → ((i j : ℕ) → i ≤ rows → j < width → cleared t r c i j ≡ u.at i j *ℤ pos g)
      → u.basis r ≡ c → ((i : ℕ) → i < rows → i ≢ r → u.basis i ≡ t.basis i) → IsPivot rows width t r c u
  pivot_by u den_u entries_u enters stays = record {
    divisor = g;
    divides = taken.divides;
    greatest = taken.greatest;
    den = new_den ∙ ap (λ n. pos (n * g)) (sym den_u);
    entries = entries_u;
    enters = enters;
    stays = stays;
  }

  -- the tableau that the code does not make, since it is too wide
  wide : ExactTableau
  wide = record { den = den / g; at = λ i j. int_div (cleared t r c i j) (pos g); basis = λ i. cond (eqb i r) c (t.basis i) }

  wide_pivot : IsPivot rows width t r c wide
  unfolding wide
  wide_pivot = record {
    divisor = g;
    divides = taken.divides;
    greatest = taken.greatest;
    den = new_den;
    entries = λ i j hi hj. divided (cleared t r c i j) g (taken.divides.divides_entries i j hi hj);
    enters = let here : eqb r r ≡ true = eq-eqb r r refl in rw here refl;
    stays = λ i hi ne. let other : eqb i r ≡ false = ne_eqb i r ne in rw other refl;
  }

  pub passes_by_den : 2 ^ 63 ≤ den / g → PivotPasses rows width t r c
  unfolding wide
  passes_by_den large = record { next = wide; pivot = wide_pivot; passes = λ within. let l : den / g < 2 ^ 63 = within.den_fits in omega arith }

  pub passes_by_entry : (i j : ℕ) → i ≤ rows → j < width → 2 ^ 63 * g ≤ unsigned_abs (cleared t r c i j) → PivotPasses rows width t r c
  unfolding wide
  passes_by_entry i j hi hj large = record {
    next = wide;
    pivot = wide_pivot;
    passes = λ within.
        let value : ℤ = int_div (cleared t r c i j) (pos g) in
        let small : unsigned_abs value < 2 ^ 63 = within.entries_fit i j hi hj in
        let is : cleared t r c i j ≡ value *ℤ pos g = divided (cleared t r c i j) g (taken.divides.divides_entries i j hi hj) in
        let size : unsigned_abs (cleared t r c i j) ≡ unsigned_abs value * g = ap unsigned_abs is ∙ unsigned_abs-mul value (pos g) in
        let scaled : unsigned_abs value * g < 2 ^ 63 * g = mul-lt-mul_of_pos_right small taken.positive in
        omega arith;
  }

pub quotient_positive : (n g : ℕ) → 0 < n → g ∣ n → 0 < n / g
quotient_positive n g positive d = not_zero (n / g) (λ e.
    let whole : n / g * g ≡ n = whole_quotient n g d in
    let none : n / g * g ≡ 0 * g = ap (λ k. k * g) e in
    omega arith)

pub divisor_small : (n g : ℕ) → 0 < n → g ∣ n → n < 2 ^ 126 → g < 2 ^ 127
divisor_small n g positive d small = let l : g ≤ n = le_of_dvd positive d in omega arith
