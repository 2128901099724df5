-- Products that have room.
use Rattle.std.proofs.Common.{◌≡◌, ◌≤◌, ◌+◌, ◌*◌, ◌^◌, ℕ, arith}
use Rattle.std.proofs.Math.Nat.{one-le-mul, one-le-pow, pow-le-pow_right}
use Rattle.std.proofs.lemmas.Nat.{mul-le}

-- a product of two small numbers
pub small_product : (a b : ℕ) → a ≤ 2 ^ 45 → b ≤ 2 ^ 45 → a * b ≤ 2 ^ 90
small_product a b first second = let l : a * b ≤ 2 ^ 45 * 2 ^ 45 = mul-le a b (2 ^ 45) (2 ^ 45) first second in omega (arith, l)

-- a small power of ten
pub ten_parts : (n places : ℕ) → places ≤ 6 → n ≡ 10 ^ places → (1 ≤ n) × (n ≤ 1000000)
ten_parts n places few is =
    let most : 10 ^ places ≤ 10 ^ 6 = pow-le-pow_right {n = 10} (omega arith) {i = places} {j = 6} few in
    (omega (arith, is, one-le-pow places 10 (omega arith)), omega (arith, is, most))

-- a number times a small power of ten
pub small_scaled : (n ten : ℕ) → n ≤ 2 ^ 91 → ten ≤ 1000000 → n * ten ≤ 2 ^ 111
small_scaled n ten first second = let l : n * ten ≤ 2 ^ 91 * 1000000 = mul-le n ten (2 ^ 91) 1000000 first second in omega (arith, l)

pub some_product : (a b : ℕ) → 1 ≤ a → 1 ≤ b → 1 ≤ a * b
some_product a b first second = one-le-mul first second

-- a small number of halves
pub small_halves : (n ten : ℕ) → n ≤ 9999999 → ten ≤ 1000000 → 2 * n * ten ≤ 20000000000000
small_halves n ten first second = let l : 2 * n * ten ≤ 19999998 * 1000000 = mul-le (2 * n) ten 19999998 1000000 (omega (arith, first)) second in omega (arith, l)

-- what small amounts cost at small prices, and the same times a small power of ten
pub small_cost : (x b y a cost : ℕ) → cost ≡ x * b + y * a → x ≤ 9999999 → b ≤ 9999999 → y ≤ 9999999 → a ≤ 9999999 → cost ≤ 2 ^ 48
small_cost x b y a cost is first price second also =
    let l : x * b ≤ 9999999 * 9999999 = mul-le x b 9999999 9999999 first price in
    let m : y * a ≤ 9999999 * 9999999 = mul-le y a 9999999 9999999 second also in
    omega (arith, is, l, m)

pub small_money : (n ten : ℕ) → n ≤ 2 ^ 48 → ten ≤ 1000000 → n * ten ≤ 2 ^ 68
small_money n ten first second = let l : n * ten ≤ 2 ^ 48 * 1000000 = mul-le n ten (2 ^ 48) 1000000 first second in omega (arith, l)
