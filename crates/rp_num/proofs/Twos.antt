-- Powers of two in numbers, and greatest common divisors with an odd number (the binary algorithm: Stein 1967).
use Rattle.std.proofs.Common.{◌≡◌, ℕ, ◌+◌, ◌-◌, ◌*◌, ◌/◌, ◌%◌, ◌^◌, ◌<◌, ◌≤◌, refl, sym, ◌∙◌, ap, subst, arith, zero, suc, ◌⊎◌, inl, inr, min}
use Prim.Native.Nat.{◌∣◌}
use Rattle.std.specs.Int.{IsGcd, bit_at, trailing_zeros}
use mir.Val.{bits}
use mir.Syntax.{Width}
use Rattle.std.proofs.Math.Nat.{dvd_trans, eq-one_of_dvd-one, mul_assoc, mul_comm, dvd-mul_right, le_of_dvd, eq-zero_of_zero-dvd, pow-suc, mod-eq_of_lt}
use Rattle.std.proofs.lemmas.Bool.{cases_lt}
use Rattle.std.proofs.lemmas.Nat.{mod-pow-add, shr_split, pow_pos, pow-add}
use Rattle.std.proofs.lemmas.Nat.Bits.{bit_at-trailing_zeros}
use Rattle.std.proofs.lemmas.Nat.Gcd.{IsGcd-from_sub, IsGcd-swap, mod-eq-zero_of_dvd}
use Rattle.rp_num.specs.Fraction.{IsCoprime}
use Rattle.rp_num.proofs.Coprime.{IsCoprime-mul, IsGcd-scaled, divides_other_factor}

no_sum : (a b p : ℕ) → a ≡ 0 → b ≡ 0 → a * p + b ≡ 0
no_sum a b p h g = rw (h, g) (omega arith)

-- where all bits below k are 0, 2 ^ k leaves no rest
no_low_bits : (n k : ℕ) → ((i : ℕ) → i < k → bit_at n i ≡ 0) → n % 2 ^ k ≡ 0
no_low_bits n zero h = omega arith
no_low_bits n (suc k) h =
    let below = no_low_bits n k (λ i lt. h i (omega arith)) in
    let here : n / 2 ^ k % 2 ≡ 0 = h k (omega arith) in
    let e : n % 2 ^ (1 + k) ≡ n / 2 ^ k % 2 ^ 1 * 2 ^ k + n % 2 ^ k = mod-pow-add n 1 k in
    let one_more : suc k ≡ 1 + k = omega arith in
    ap (λ j. n % 2 ^ j) one_more ∙ e ∙ no_sum (n / 2 ^ k % 2) (n % 2 ^ k) (2 ^ k) here below

-- a number without its factors of two is odd, and that times a power of two is the number
pub odd_by_twos : (w : Width) (n : ℕ) → 0 < n → n < 2 ^ bits w → (n / 2 ^ trailing_zeros w n % 2 ≡ 1) × (n ≡ n / 2 ^ trailing_zeros w n * 2 ^ trailing_zeros w n)
odd_by_twos w n some below =
    let h = bit_at-trailing_zeros w n some below in
    let e = no_low_bits n (trailing_zeros w n) h.2 in
    let s = shr_split n (trailing_zeros w n) in
    (h.1, omega arith)

-- what divides an odd number is coprime to 2
coprime_two : (x d : ℕ) → x % 2 ≡ 1 → d ∣ x → IsCoprime d 2
coprime_two x d odd p e u v = by_size e (dvd_trans e u p) v (le_of_dvd (omega arith) v)
  where
    by_size : (e : ℕ) → e ∣ x → e ∣ 2 → e ≤ 2 → e ≡ 1
    by_size zero p v below = absurd (omega (arith, eq-zero_of_zero-dvd v))
    by_size (suc zero) p v below = refl
    by_size (suc (suc zero)) p v below = absurd (omega (arith, mod-eq-zero_of_dvd 2 p))
    by_size (suc (suc (suc e))) p v below = absurd (omega arith)

-- and to every power of 2
coprime_power : (x d k : ℕ) → x % 2 ≡ 1 → d ∣ x → IsCoprime d (2 ^ k)
coprime_power x d zero odd p = λ e u v. eq-one_of_dvd-one v
coprime_power x d (suc k) odd p =
    subst (λ n. IsCoprime d n) (sym (pow-suc 2 k)) (IsCoprime-mul d (2 ^ k) 2 (coprime_power x d k odd p) (coprime_two x d odd p))

-- with an odd number, factors of two of the other change no greatest common divisor
pub IsGcd-twos_more : (x z k g : ℕ) → x % 2 ≡ 1 → 0 < z → IsGcd x z g → IsGcd x (z * 2 ^ k) g
IsGcd-twos_more x z k g odd some h =
    (h.0, dvd_trans g h.1 (dvd-mul_right z (2 ^ k)), λ d p q. h.2 d p (divides_other_factor d (2 ^ k) z some (coprime_power x d k odd p) (subst (λ n. d ∣ n) (mul_comm z (2 ^ k)) q)))

pub IsGcd-twos_less : (x z k g : ℕ) → x % 2 ≡ 1 → 0 < z → IsGcd x (z * 2 ^ k) g → IsGcd x z g
IsGcd-twos_less x z k g odd some h =
    (h.0, divides_other_factor g (2 ^ k) z some (coprime_power x g k odd h.0) (subst (λ n. g ∣ n) (mul_comm z (2 ^ k)) h.1), λ d p q. h.2 d p (dvd_trans d q (dvd-mul_right z (2 ^ k))))

-- the greatest common divisor with the odd part z of a number is that with the number
pub IsGcd-odd_part : (x y z k g : ℕ) → x % 2 ≡ 1 → 0 < y → y ≡ z * 2 ^ k → IsGcd x z g → IsGcd x y g
IsGcd-odd_part x y z k g odd some e h =
    subst (λ n. IsGcd x n g) (sym e) (IsGcd-twos_more x z k g odd (positive z e) h)
  where
    positive : (z : ℕ) → y ≡ z * 2 ^ k → 0 < z
    positive zero e = absurd (omega arith)
    positive (suc z) e = omega arith

-- the difference of an odd number and an odd part, and the lesser of the two
pub IsGcd-lesser_part : (x y z k g : ℕ) → x % 2 ≡ 1 → 0 < y → y ≡ z * 2 ^ k → z < x → IsGcd z (x - z) g → IsGcd x y g
IsGcd-lesser_part x y z k g odd some e below h =
    IsGcd-odd_part x y z k g odd some e (IsGcd-from_sub x z g (omega arith) (IsGcd-swap z (x - z) g h))

pub IsGcd-greater_part : (x y z k g : ℕ) → x % 2 ≡ 1 → 0 < y → y ≡ z * 2 ^ k → x ≤ z → IsGcd x (z - x) g → IsGcd x y g
IsGcd-greater_part x y z k g odd some e above h =
    IsGcd-odd_part x y z k g odd some e (IsGcd-swap z x g (IsGcd-from_sub z x g above (IsGcd-swap x (z - x) g h)))

-- of two numbers by their odd parts: the lesser power of two is common
shared_twos : (x z i j g : ℕ) → x % 2 ≡ 1 → z % 2 ≡ 1 → IsGcd x (z * 2 ^ j) g → IsGcd (x * 2 ^ i) (z * 2 ^ j) (g * 2 ^ min i j)
shared_twos x z i j g odd odd_z h =
    let part = IsGcd-twos_less x z j g odd (omega arith) h in
    by_cases part (cases_lt i j)
  where
    left : (a b : ℕ) → b ≤ a → min b a ≡ b
    left a b h = omega arith

    right : (a b : ℕ) → b ≤ a → min a b ≡ b
    right a b h = omega arith

    joined : (n a b : ℕ) → b ≤ a → n * 2 ^ (a - b) * 2 ^ b ≡ n * 2 ^ a
    joined n a b h =
        let s : (a - b) + b ≡ a = omega arith in
        mul_assoc n (2 ^ (a - b)) (2 ^ b) ∙ ap (λ m. n * m) (sym (pow-add 2 (a - b) b) ∙ ap (λ k. 2 ^ k) s)

    by_cases : IsGcd x z g → (i < j) ⊎ (j ≤ i) → IsGcd (x * 2 ^ i) (z * 2 ^ j) (g * 2 ^ min i j)
    by_cases part (inl below) =
        let scaled = IsGcd-scaled (z * 2 ^ (j - i) + 1) x (z * 2 ^ (j - i)) g (2 ^ i) (omega arith) (pow_pos i) (IsGcd-twos_more x z (j - i) g odd (omega arith) part) in
        let e = left j i (omega arith) in
        subst (λ m. IsGcd (x * 2 ^ i) (z * 2 ^ j) (g * 2 ^ m)) (sym e) (subst (λ n. IsGcd (x * 2 ^ i) n (g * 2 ^ i)) (joined z j i (omega arith)) scaled)
    by_cases part (inr above) =
        let turned = IsGcd-swap z (x * 2 ^ (i - j)) g (IsGcd-twos_more z x (i - j) g odd_z (omega arith) (IsGcd-swap x z g part)) in
        let scaled = IsGcd-scaled (z + 1) (x * 2 ^ (i - j)) z g (2 ^ j) (omega arith) (pow_pos j) turned in
        let e = right i j above in
        subst (λ m. IsGcd (x * 2 ^ i) (z * 2 ^ j) (g * 2 ^ m)) (sym e) (subst (λ n. IsGcd n (z * 2 ^ j) (g * 2 ^ j)) (joined x i j above) scaled)

-- the same, of the numbers themselves
pub IsGcd-by_odd_parts : (a b x z i j g : ℕ) → a ≡ x * 2 ^ i → b ≡ z * 2 ^ j → x % 2 ≡ 1 → z % 2 ≡ 1 → IsGcd x b g → IsGcd a b (g * 2 ^ min i j)
IsGcd-by_odd_parts a b x z i j g ea eb odd odd_z h =
    let shared = shared_twos x z i j g odd odd_z (subst (λ n. IsGcd x n g) eb h) in
    subst (λ n. IsGcd a n (g * 2 ^ min i j)) (sym eb) (subst (λ n. IsGcd n (z * 2 ^ j) (g * 2 ^ min i j)) (sym ea) shared)

-- a divisor of a number of w bits, shifted left, loses no bit
pub IsGcd-shifted : (w a b g k : ℕ) → 0 < a → a < 2 ^ w → IsGcd a b (g * 2 ^ k) → IsGcd a b (g * 2 ^ k % 2 ^ w)
IsGcd-shifted w a b g k some below h =
    let least = le_of_dvd some h.0 in
    let e : g * 2 ^ k % 2 ^ w ≡ g * 2 ^ k = mod-eq_of_lt (omega arith) in
    subst (λ n. IsGcd a b n) (sym e) h
