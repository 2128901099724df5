-- Greatest common divisors and numbers without a common one, by Euclid's steps: what is scaled has the scaled divisor,
-- and everything else follows (Elements, book VII).
use Rattle.std.proofs.Common.{◌≡◌, ℕ, ◌+◌, ◌*◌, ◌/◌, ◌%◌, ◌<◌, refl, sym, ◌∙◌, ap, subst, arith, zero, suc, ◌↔◌}
use Prim.Native.Nat.{◌∣◌}
use Rattle.std.specs.Int.{IsGcd}
use Rattle.std.proofs.Math.Nat.{dvd-zero, one-dvd, eq-zero_of_zero-dvd, dvd_refl, dvd_trans, dvd-mod_iff, dvd-mul_right, dvd_of_mul-dvd-mul_right, mul-dvd-mul_right, eq-one_of_dvd-one, mul-lt-mul_of_pos_right, div-add-mod', mod-lt}
use Rattle.std.proofs.lemmas.Nat.Gcd.{IsGcd-from_zero, IsGcd-from_mod, same_from_IsGcd}
use Rattle.std.proofs.lemmas.Nat.{mod-mul-add}
use Rattle.rp_num.specs.Fraction.{IsCoprime}

-- a step of Euclid's, from the larger pair to the smaller one
IsGcd-to_mod : (a b g : ℕ) → IsGcd a b g → IsGcd b (a % b) g
IsGcd-to_mod a b g h =
    (h.1, (dvd-mod_iff g h.1).1 h.0, λ d p q. h.2 d ((dvd-mod_iff d p).0 q) p)

-- the greatest common divisor is 0 for two zeros alone
pub IsGcd-zero : (a b g : ℕ) → IsGcd a b g → (g ≡ 0) ↔ ((a ≡ 0) × (b ≡ 0))
IsGcd-zero a b g h = (
  λ e. (eq-zero_of_zero-dvd (subst (λ k. k ∣ a) e h.0), eq-zero_of_zero-dvd (subst (λ k. k ∣ b) e h.1)),
  λ (p, q). eq-zero_of_zero-dvd (h.2 0 (subst (λ k. 0 ∣ k) (sym p) (dvd_refl 0)) (subst (λ k. 0 ∣ k) (sym q) (dvd_refl 0))),
)

-- scaled numbers have the scaled remainder
mod-scaled : (a b z : ℕ) → 0 < b → 0 < z → (a * z) % (b * z) ≡ a % b * z
mod-scaled a b z hb hz =
    let low = mul-lt-mul_of_pos_right {k = z} (mod-lt a hb) hz in
    let e = ap (λ n. n * z) (div-add-mod' a b) in
    let parts : a / b * (b * z) + a % b * z ≡ a * z = omega (arith, e) in
    ap (λ n. n % (b * z)) (sym parts) ∙ mod-mul-add (a / b) (b * z) (a % b * z) low

-- scaled numbers have the scaled greatest common divisor
pub IsGcd-scaled : (n a b g z : ℕ) → b < n → 0 < z → IsGcd a b g → IsGcd (a * z) (b * z) (g * z)
IsGcd-scaled zero a b g z below hz h = absurd (omega arith)
IsGcd-scaled (suc n) a zero g z below hz h =
    let e = same_from_IsGcd a 0 g a h (IsGcd-from_zero a 0 refl) in
    subst (λ k. IsGcd (a * z) (0 * z) (k * z)) (sym e) (IsGcd-from_zero (a * z) (0 * z) (omega arith))
IsGcd-scaled (suc n) a (suc b) g z below hz h =
    let low = mod-lt a {m = suc b} (omega arith) in
    let smaller = IsGcd-scaled n (suc b) (a % suc b) g z (omega arith) hz (IsGcd-to_mod a (suc b) g h) in
    IsGcd-from_mod (a * z) (suc b * z) (g * z)
    (subst (λ r. IsGcd (suc b * z) r (g * z)) (sym (mod-scaled a (suc b) z (omega arith) hz)) smaller)

pub IsGcd-from_coprime : (a b : ℕ) → IsCoprime a b → IsGcd a b 1
IsGcd-from_coprime a b h =
    (one-dvd a, one-dvd b, λ d p q. subst (λ k. k ∣ 1) (sym (h d p q)) (dvd_refl 1))

-- what divides a product and has nothing in common with one factor divides the other (Euclid, Elements, book VII, 30)
pub divides_other_factor : (k y z : ℕ) → 0 < z → IsCoprime k y → k ∣ y * z → k ∣ z
divides_other_factor k y z hz h p =
    let g = IsGcd-scaled (y + 1) k y 1 z (omega arith) hz (IsGcd-from_coprime k y h) in
    let e : 1 * z ≡ z = omega arith in
    subst (λ n. k ∣ n) e (g.2 k (dvd-mul_right k z) p)

pub IsCoprime-swap : (a b : ℕ) → IsCoprime a b → IsCoprime b a
IsCoprime-swap a b h d p q = h d q p

-- parts of coprime numbers are coprime
pub IsCoprime-parts : (a b x y : ℕ) → x ∣ a → y ∣ b → IsCoprime a b → IsCoprime x y
IsCoprime-parts a b x y p q h d u v = h d (dvd_trans d u p) (dvd_trans d v q)

-- a number coprime to two is coprime to their product
pub IsCoprime-mul : (x y z : ℕ) → IsCoprime x y → IsCoprime x z → IsCoprime x (y * z)
IsCoprime-mul x y zero hy hz d p q = hz d p (dvd-zero d)
IsCoprime-mul x y (suc z) hy hz d p q =
    hz d p (divides_other_factor d y (suc z) (omega arith) (λ e u v. hy e (dvd_trans e u p) v) q)

-- divided by their greatest common divisor, two numbers are coprime
pub IsCoprime-divided : (a b g p q : ℕ) → 0 < g → IsGcd a b g → p * g ≡ a → q * g ≡ b → IsCoprime p q
IsCoprime-divided a b g p q hg h ea eb d u v =
    let da = subst (λ n. d * g ∣ n) ea (mul-dvd-mul_right d u g) in
    let db = subst (λ n. d * g ∣ n) eb (mul-dvd-mul_right d v g) in
    let e : g ≡ 1 * g = omega arith in
    let all = subst (λ n. d * g ∣ n) e (h.2 (d * g) da db) in
    eq-one_of_dvd-one (dvd_of_mul-dvd-mul_right d hg all)

-- every two numbers have a greatest common divisor
IsGcd-found : (n a b : ℕ) → b < n → (g : ℕ) × IsGcd a b g
IsGcd-found zero a b below = absurd (omega arith)
IsGcd-found (suc n) a zero below = (a, IsGcd-from_zero a 0 refl)
IsGcd-found (suc n) a (suc b) below =
    let low = mod-lt a {m = suc b} (omega arith) in
    let smaller = IsGcd-found n (suc b) (a % suc b) (omega arith) in
    (smaller.0, IsGcd-from_mod a (suc b) smaller.0 smaller.1)

pub IsGcd-exists : (a b : ℕ) → (g : ℕ) × IsGcd a b g
IsGcd-exists a b = IsGcd-found (b + 1) a b (omega arith)
