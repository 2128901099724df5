-- Quotients that are rounded down.
use Rattle.std.proofs.Common.{◌≡◌, ◌<◌, ◌≤◌, ◌+◌, ◌*◌, ◌/◌, ◌%◌, ◌^◌, ℕ, refl, sym, ap, subst, ◌∙◌, arith}
use Rattle.std.proofs.Math.Nat.{div-div-eq-div-mul, div-mul-le_self, le_of_mul-le-mul_right, mul-add-div, mul-le-mul_left, pow-succ', pow-zero}
use Rattle.std.proofs.lemmas.Nat.{div-add-mod'}

pub pow_one : (a : ℕ) → a ^ 1 ≡ a
pow_one a = pow-succ' a 0 ∙ ap (λ z. a * z) (pow-zero a) ∙ omega arith

pub pow_two : (a : ℕ) → a ^ 2 ≡ a * a
pow_two a = pow-succ' a 1 ∙ ap (λ z. a * z) (pow_one a)

pub floor_of_one : (unit less spent : ℕ) → (unit * less) / spent ≡ (unit * less ^ 1) / spent ^ 1
floor_of_one unit less spent = rw (pow_one less, pow_one spent) refl

-- a quotient of a number that is at most b times the divisor
at_most : (x b k : ℕ) → 1 ≤ k → x ≤ b * k → x / k ≤ b
at_most x b k some l =
    let a = div-mul-le_self x k in
    le_of_mul-le-mul_right {k = k} (omega (arith, a, l)) some

pub floor_small : (unit less spent : ℕ) → 1 ≤ spent → less ≤ spent → (unit * less) / spent ≤ unit
floor_small unit less spent some part = at_most (unit * less) unit spent some (mul-le-mul_left unit part)

square_at_most : (less spent : ℕ) → less ≤ spent → less * less ≤ less * spent
square_at_most less spent part = mul-le-mul_left less part

pub square_over_small : (less spent square : ℕ) → square ≡ less * less → 1 ≤ spent → less ≤ spent → spent < 2 ^ 51 → square / spent ≤ 2 ^ 51
square_over_small less spent square is some part narrow =
    let a = at_most square less spent some (subst (λ z. z ≤ less * spent) (sym is) (square_at_most less spent part)) in
    omega (arith, a, part, narrow)

-- dividing twice
twice : (unit square spent : ℕ) → 1 ≤ spent → (unit * (square / spent) + (unit * (square % spent)) / spent) / spent ≡ (unit * square) / (spent * spent)
twice unit square spent some =
    let parts : square / spent * spent + square % spent ≡ square = div-add-mod' square spent in
    let whole : unit * square ≡ spent * (unit * (square / spent)) + unit * (square % spent) = ap (λ z. unit * z) (sym parts) ∙ product unit (square / spent) spent (square % spent) in
    let once : (unit * square) / spent ≡ unit * (square / spent) + (unit * (square % spent)) / spent = ap (λ z. z / spent) whole ∙ mul-add-div some (unit * (square / spent)) (unit * (square % spent)) in
    ap (λ z. z / spent) (sym once) ∙ div-div-eq-div-mul (unit * square) spent spent
  where
    product : (unit q spent r : ℕ) → unit * (q * spent + r) ≡ spent * (unit * q) + unit * r
    product unit q spent r = omega arith

pub squared_twice : (unit less spent square over : ℕ) → 1 ≤ spent → square ≡ less * less → over ≡ less * less / spent
    → (unit * over + (unit * (square % spent)) / spent) / spent ≡ (unit * less ^ 2) / spent ^ 2
squared_twice unit less spent square over some is over_is =
    let e : over ≡ square / spent = over_is ∙ ap (λ z. z / spent) (sym is) in
    rw (e, pow_two less, pow_two spent, ← is) (twice unit square spent some)

pub squared_small : (unit less spent square over : ℕ) → 1 ≤ spent → less ≤ spent → square ≡ less * less → over ≡ less * less / spent
    → (unit * over + (unit * (square % spent)) / spent) / spent ≤ unit
squared_small unit less spent square over some part is over_is =
    let e : over ≡ square / spent = over_is ∙ ap (λ z. z / spent) (sym is) in
    let l : less * less ≤ spent * spent = squares less spent part in
    let m : square ≤ spent * spent = subst (λ z. z ≤ spent * spent) (sym is) l in
    rw (e, twice unit square spent some) (at_most (unit * square) unit (spent * spent) (positive spent some) (mul-le-mul_left unit m))
  where
    squares : (a b : ℕ) → a ≤ b → a * a ≤ b * b
    squares a b l = let x : a * a ≤ a * b = mul-le-mul_left a l in let y : b * a ≤ b * b = mul-le-mul_left b l in omega (arith, x, y)

    positive : (a : ℕ) → 1 ≤ a → 1 ≤ a * a
    positive a l = let x : a * 1 ≤ a * a = mul-le-mul_left a l in omega (arith, x, l)
