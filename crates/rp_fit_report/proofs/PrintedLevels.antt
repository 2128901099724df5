-- What is printed as the upper bound of levels is at least what they lack in the mean.
use Rattle.std.proofs.Common.{◌≡◌, ◌<◌, ◌≤◌, ◌+◌, ◌-◌, ◌*◌, ◌/◌, ◌%◌, ◌^◌, ◌==◌, ℕ, zero, suc, Bool, true, false, refl, sym, subst, ap, arith, mod-lt, slice_index, if◌then◌else◌}
use Rattle.std.proofs.Math.Nat.{le_of_mul-le-mul_right, mul-le-mul_left}
use Rattle.std.proofs.lemmas.Bool.{false≢true, lt-ltb}
use Rattle.std.proofs.lemmas.Bool.Decides.{Decides-eqb}
use Rattle.std.proofs.lemmas.Nat.{div-add-mod'}
use Rattle.std.specs.Prelude.{nat_lt}
use Rattle.rp_check_levels.proofs.Floors.{pow_one, pow_two}
use Rattle.rp_check_levels.specs.LevelsFailure.{measure_of}
use Rattle.rp_check_levels.specs.Loads.{lack_floor}
use Rattle.rp_fit.specs.Fractions.{fractions_below, product_below}
use Rattle.rp_fit.specs.Levels.{LackAtMost, lack, lack_den, lack_parts, lack_sum}
use Rattle.rp_fit.specs.LevelsEvidence.{level_den, level_num, power_of}
use Rattle.rp_fit.specs.declared.levels.Lack.{Lack}
use Rattle.rp_fit.specs.declared.levels.Lack.TheVariants.{Mean, Squares}
use Rattle.rp_fit.specs.declared.levels.LevelsPart.{LevelsPart}
use Rattle.rp_table.specs.Sums.{sum_below}
use Rattle.rp_num.specs.Fraction.{Fraction, IsLowestTerms}
use Rattle.rp_print.proofs.Euclid.{IsLowestTerms-euclid}
use Rattle.rp_fit_report.specs.LevelsText.{lack_at, lack_total, rounded_up, upper}
use Rattle.rp_fit_report.specs.MeanLack.{common_den, lack_of, mean_of}
use Rattle.rp_fit_report.proofs.MeanLack.{mean_is}

-- a quotient that is rounded down, and one more, times the divisor
one_over : (x k : ℕ) → 1 ≤ k → x ≤ (x / k + 1) * k
one_over x k some =
    let parts : x / k * k + x % k ≡ x = div-add-mod' x k in
    let rest : x % k < k = mod-lt x some in
    omega (arith, parts, rest)

square_some : (a : ℕ) → 1 ≤ a → 1 ≤ a * a
square_some a some = let h = mul-le-mul_left a some in omega (arith, h, some)

-- a term that is left out is 0
chosen : (there : Bool) (x limit d : ℕ) → (there ≡ true → x ≡ 0) → x * 2 ^ 40 ≤ (limit + 1) * d → x * 2 ^ 40 ≤ (if there then 0 else (limit + 1)) * d
chosen true x limit d none most = let z = none refl in omega (arith, z)
chosen false x limit d none most = most

nothing_mean : (a b : ℕ) → b ≡ a → (a - b) ^ 1 ≡ 0
nothing_mean a b e = let p = pow_one (a - b) in omega (arith, p, e)

nothing_squares : (a b : ℕ) → b ≡ a → (a - b) ^ 2 ≡ 0
nothing_squares a b e = let z : a - b ≡ 0 = omega (arith, e) in rw (pow_two (a - b), z) refl

turned : (x y : ℕ) → 2 ^ 40 * x ≤ y → x * 2 ^ 40 ≤ y
turned x y h = omega (arith, h)

some_mean : (a : ℕ) → 1 ≤ a → 1 ≤ a ^ 1
some_mean a some = subst (λ z. 1 ≤ z) (sym (pow_one a)) some

some_squares : (a : ℕ) → 1 ≤ a → 1 ≤ a ^ 2
some_squares a some = subst (λ z. 1 ≤ z) (sym (pow_two a)) (square_some a some)

sum_more : (f p s l d a : ℕ) → f * 2 ^ 40 ≤ s * p → l * 2 ^ 40 ≤ a * d → (f * d + l * p) * 2 ^ 40 ≤ (s + a) * (p * d)
sum_more f p s l d a so_far here =
    let h = mul-le-mul_left d so_far in
    let g = mul-le-mul_left p here in
    omega (arith, h, g)

module _ (c : ℕ → ℕ → ℕ) (part : LevelsPart) where
  abbrev IsBounded : Lack → ℕ → Type 0
  IsBounded by s = lack (power_of by) (level_num c part) (level_den c) s * 2 ^ 40 ≤ lack_at c (measure_of by) part.at 1 s * lack_den (power_of by) (level_den c) s

  cost_of_own : (s t : ℕ) → t ≡ s → c s t ≡ c s s
  cost_of_own s t e = rw e refl

  -- what a level lacks, by what is counted for it
  bounded : (by : Lack) (s : ℕ) → 1 ≤ c s s → IsBounded by s
  bounded Mean s some =
      chosen (slice_index part.at s == s) ((c s s - c s (slice_index part.at s)) ^ 1) (lack_floor 1 c s (slice_index part.at s)) (c s s ^ 1)
      (λ e. nothing_mean (c s s) (c s (slice_index part.at s)) (cost_of_own s (slice_index part.at s) ((Decides-eqb (slice_index part.at s) s).0 e)))
      (turned ((c s s - c s (slice_index part.at s)) ^ 1) ((lack_floor 1 c s (slice_index part.at s) + 1) * c s s ^ 1) (one_over (2 ^ 40 * (c s s - c s (slice_index part.at s)) ^ 1) (c s s ^ 1) (some_mean (c s s) some)))
  bounded Squares s some =
      chosen (slice_index part.at s == s) ((c s s - c s (slice_index part.at s)) ^ 2) (lack_floor 2 c s (slice_index part.at s)) (c s s ^ 2)
      (λ e. nothing_squares (c s s) (c s (slice_index part.at s)) (cost_of_own s (slice_index part.at s) ((Decides-eqb (slice_index part.at s) s).0 e)))
      (turned ((c s s - c s (slice_index part.at s)) ^ 2) ((lack_floor 2 c s (slice_index part.at s) + 1) * c s s ^ 2) (one_over (2 ^ 40 * (c s s - c s (slice_index part.at s)) ^ 2) (c s s ^ 2) (some_squares (c s s) some)))

  sums : (m : ℕ) → ((s : ℕ) → s < m → 1 ≤ c s s)
      → fractions_below m (lack (power_of part.lack) (level_num c part) (level_den c)) (lack_den (power_of part.lack) (level_den c)) * 2 ^ 40
      ≤ sum_below m (lack_at c (measure_of part.lack) part.at 1) * product_below m (lack_den (power_of part.lack) (level_den c))
  sums zero some = omega arith
  sums (suc m) some =
      let num = lack (power_of part.lack) (level_num c part) (level_den c) in
      let den = lack_den (power_of part.lack) (level_den c) in
      let counted = lack_at c (measure_of part.lack) part.at 1 in
      sum_more (fractions_below m num den) (product_below m den) (sum_below m counted) (num m) (den m) (counted m)
      (sums m (λ s s_in. some s (omega (arith, s_in)))) (bounded part.lack m (some m (omega arith)))

mean : (n a s p : ℕ) → a * 2 ^ 40 ≤ s * p → a * (2 ^ 40 * n) ≤ s * (n * p)
mean n a s p h = let g = mul-le-mul_left n h in omega (arith, g)

pub printed_is_most : (n : ℕ) (c : ℕ → ℕ → ℕ) (part : LevelsPart) → ((s : ℕ) → s < n → 1 ≤ c s s)
    → LackAtMost (power_of part.lack) n (level_num c part) (level_den c) (lack_total n c part 1) (2 ^ 40 * n)
printed_is_most n c part some =
    mean n (fractions_below n (lack (power_of part.lack) (level_num c part) (level_den c)) (lack_den (power_of part.lack) (level_den c)))
    (sum_below n (lack_at c (measure_of part.lack) part.at 1)) (product_below n (lack_den (power_of part.lack) (level_den c))) (sums c part n some)

-- num/den is total/all
quotient_is_most : (num den total all sum parts : ℕ) → 1 ≤ all → num * all ≡ total * den → sum * all ≤ total * parts → sum * den ≤ num * parts
quotient_is_most num den total all sum parts some same most =
    let a : den * (sum * all) ≤ den * (total * parts) = mul-le-mul_left den most in
    let b : parts * (num * all) ≡ parts * (total * den) = ap (λ z. parts * z) same in
    le_of_mul-le-mul_right {k = all} (omega (arith, a, b)) some

equal_is_most : (num den sum parts : ℕ) → num * parts ≡ sum * den → sum * den ≤ num * parts
equal_is_most num den sum parts e = omega (arith, e)

nothing : (num den : ℕ) → 0 * den ≤ num * (0 * 1)
nothing num den = omega arith

some_parts : (n : ℕ) → 1 ≤ 2 ^ 40 * suc n
some_parts n = omega arith

module _ (n : ℕ) (c : ℕ → ℕ → ℕ) (part : LevelsPart) where
  abbrev IsMost : Fraction → Type 0
  IsMost f = LackAtMost (power_of part.lack) n (level_num c part) (level_den c) f.num f.den

  either : (there : Bool) (f g : Fraction) → IsMost f → IsMost g → IsMost (if there then f else g)
  either true f g p q = p
  either false f g p q = q

pub upper_is_most : (n : ℕ) (c : ℕ → ℕ → ℕ) (part : LevelsPart) → ((s : ℕ) → s < n → 1 ≤ c s s)
    → LackAtMost (power_of part.lack) n (level_num c part) (level_den c) (upper n c part).num (upper n c part).den
upper_is_most zero c part some = nothing (upper 0 c part).num (upper 0 c part).den
upper_is_most (suc n) c part some =
    let m = suc n in
    let mean = mean_of m (lack_of c part) in
    let rounded = rounded_up m c part in
    let sum = lack_sum (power_of part.lack) m (level_num c part) (level_den c) in
    let parts = lack_parts (power_of part.lack) m (level_den c) in
    let total = lack_total m c part 1 in
    either m c part (nat_lt (common_den m (lack_of c part) * m) (2 ^ 127)) mean rounded
    (equal_is_most mean.num mean.den sum parts (mean_is c part m (omega arith) some).same_number)
    (quotient_is_most rounded.num rounded.den total (2 ^ 40 * m) sum parts (some_parts n) (IsLowestTerms-euclid total (2 ^ 40 * m) (some_parts n)).same_number (printed_is_most m c part some))

where_narrow : (sum parts : ℕ) (there : Bool) (f g : Fraction) → there ≡ true → IsLowestTerms sum parts f → IsLowestTerms sum parts (if there then f else g)
where_narrow sum parts true f g e p = p
where_narrow sum parts false f g e p = absurd (false≢true e)

pub upper_is_mean : (n : ℕ) (c : ℕ → ℕ → ℕ) (part : LevelsPart) → 1 ≤ n → ((s : ℕ) → s < n → 1 ≤ c s s)
    → common_den n (lack_of c part) * n < 2 ^ 127
    → IsLowestTerms (lack_sum (power_of part.lack) n (level_num c part) (level_den c)) (lack_parts (power_of part.lack) n (level_den c)) (upper n c part)
upper_is_mean n c part n_some some narrow =
    where_narrow (lack_sum (power_of part.lack) n (level_num c part) (level_den c)) (lack_parts (power_of part.lack) n (level_den c))
    (nat_lt (common_den n (lack_of c part) * n) (2 ^ 127)) (mean_of n (lack_of c part)) (rounded_up n c part)
    (lt-ltb (common_den n (lack_of c part) * n) (2 ^ 127) narrow) (mean_is c part n n_some some)
