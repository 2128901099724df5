-- Lowest terms of fractions: they exist, they are one, products that are cancelled across have them, and they tell
-- where a width is passed.
use Rattle.std.proofs.Common.{◌≡◌, ℕ, ◌*◌, ◌/◌, ◌^◌, ◌<◌, ◌≤◌, refl, sym, ◌∙◌, ap, subst, arith, zero, suc}
use Prim.Native.Nat.{◌∣◌}
use Rattle.std.specs.Int.{IsGcd}
use Rattle.std.proofs.Math.Nat.{div-le_self, div-mul_cancel, dvd_antisymm, dvd-mul_left, dvd-mul_right, eq_of_mul-eq-mul_right, one-le-mul}
use Rattle.rp_num.specs.Fraction.{Fraction, IsCoprime, IsLowestTerms, FitsWidth, PassesWidth}
use Rattle.rp_num.proofs.Coprime.{IsGcd-exists, IsCoprime-divided, IsCoprime-mul, IsCoprime-parts, IsCoprime-swap, divides_other_factor}

-- a positive product has positive factors
positive_left : (a b n : ℕ) → a * b ≡ n → 1 ≤ n → 1 ≤ a
positive_left zero b n e h = absurd (omega arith)
positive_left (suc a) b n e h = omega arith

pub positive_right : (a b n : ℕ) → a * b ≡ n → 1 ≤ n → 1 ≤ b
positive_right a b n e h = positive_left b a n (omega arith) h

-- a fraction in lowest terms is its own lowest terms
pub IsLowestTerms-itself : (n d : ℕ) (f : Fraction) → IsLowestTerms n d f → IsLowestTerms f.num f.den f
IsLowestTerms-itself n d f h = record { positive = h.positive; coprime = h.coprime; same_number = refl }

-- divided by the greatest common divisor, a fraction is in lowest terms
pub IsLowestTerms-divided : (a b g : ℕ) → 1 ≤ b → IsGcd a b g → IsLowestTerms a b (record { num = a / g; den = b / g })
IsLowestTerms-divided a b g hb h =
    let ea : a / g * g ≡ a = div-mul_cancel g h.0 in
    let eb : b / g * g ≡ b = div-mul_cancel g h.1 in
    record {
      positive = positive_left (b / g) g b eb hb;
      coprime = IsCoprime-divided a b g (a / g) (b / g) (positive_right (b / g) g b eb hb) h ea eb;
      same_number = same_by_factor (a / g) (b / g) g a b ea eb;
    }
  where
    same_by_factor : (p q g a b : ℕ) → p * g ≡ a → q * g ≡ b → p * b ≡ a * q
    same_by_factor p q g a b ea eb = rw (← ea, ← eb) (omega arith)

-- a quotient keeps a limit
pub FitsWidth-divided : (a b g : ℕ) → a < 2 ^ 127 → b < 2 ^ 127 → FitsWidth (record { num = a / g; den = b / g })
FitsWidth-divided a b g ha hb =
    let p = div-le_self a g in
    let q = div-le_self b g in
    record { num_fits = omega arith; den_fits = omega arith }

-- the product of two fractions in lowest terms, cancelled across, is in lowest terms
pub IsLowestTerms-product : (a b c d x y : ℕ) → 1 ≤ b → 1 ≤ d → IsCoprime a b → IsCoprime c d → IsGcd a d x → IsGcd c b y → IsLowestTerms (a * c) (b * d) (record { num = a / x * (c / y); den = b / y * (d / x) })
IsLowestTerms-product a b c d x y hb hd hab hcd hx hy =
    let ea : a / x * x ≡ a = div-mul_cancel x hx.0 in
    let ed : d / x * x ≡ d = div-mul_cancel x hx.1 in
    let ec : c / y * y ≡ c = div-mul_cancel y hy.0 in
    let eb : b / y * y ≡ b = div-mul_cancel y hy.1 in
    let pa : a / x ∣ a = divides_by (a / x) x a ea in
    let pb : b / y ∣ b = divides_by (b / y) y b eb in
    let pc : c / y ∣ c = divides_by (c / y) y c ec in
    let pd : d / x ∣ d = divides_by (d / x) x d ed in
    let qa = IsCoprime-mul (a / x) (b / y) (d / x)
    (IsCoprime-parts a b (a / x) (b / y) pa pb hab)
    (IsCoprime-divided a d x (a / x) (d / x) (positive_right (d / x) x d ed hd) hx ea ed) in
    let qc = IsCoprime-mul (c / y) (b / y) (d / x)
    (IsCoprime-divided c b y (c / y) (b / y) (positive_right (b / y) y b eb hb) hy ec eb)
    (IsCoprime-parts c d (c / y) (d / x) pc pd hcd) in
    record {
      positive = one-le-mul (positive_left (b / y) y b eb hb) (positive_left (d / x) x d ed hd);
      coprime = IsCoprime-swap _ _ (IsCoprime-mul (b / y * (d / x)) (a / x) (c / y) (IsCoprime-swap _ _ qa) (IsCoprime-swap _ _ qc));
      same_number = same_by_factors (a / x) (b / y) (c / y) (d / x) x y a b c d ea eb ec ed;
    }
  where
    divides_by : (p g n : ℕ) → p * g ≡ n → p ∣ n
    divides_by p g n e = subst (λ k. p ∣ k) e (dvd-mul_right p g)

    same_by_factors : (p q r s x y a b c d : ℕ) → p * x ≡ a → q * y ≡ b → r * y ≡ c → s * x ≡ d → p * r * (b * d) ≡ a * c * (q * s)
    same_by_factors p q r s x y a b c d ea eb ec ed = rw (← ea, ← eb, ← ec, ← ed) (omega arith)

-- the same, of two fractions with those parts
pub IsLowestTerms-cancelled : (f g : Fraction) (a b c d x y p q : ℕ) → record { num = a; den = b } ≡ f → record { num = c; den = d } ≡ g → IsLowestTerms a b (record { num = a; den = b }) → IsLowestTerms c d (record { num = c; den = d }) → IsGcd a d x → IsGcd c b y → p ≡ a / x * (c / y) → q ≡ b / y * (d / x) → IsLowestTerms (f.num * g.num) (f.den * g.den) (record { num = p; den = q })
IsLowestTerms-cancelled f g a b c d x y p q ef eg hf hg hx hy ep eq =
    let h = IsLowestTerms-product a b c d x y hf.positive hg.positive hf.coprime hg.coprime hx hy in
    let at_parts = subst (λ (n : ℕ). IsLowestTerms (a * c) (b * d) (record { num = n; den = b / y * (d / x) })) (sym ep) h in
    let at_both = subst (λ (n : ℕ). IsLowestTerms (a * c) (b * d) (record { num = p; den = n })) (sym eq) at_parts in
    let left = subst (λ (k : Fraction). IsLowestTerms (k.num * c) (k.den * d) (record { num = p; den = q })) ef at_both in
    subst (λ (k : Fraction). IsLowestTerms (f.num * k.num) (f.den * k.den) (record { num = p; den = q })) eg left

-- two fractions in lowest terms that are one number are one fraction
pub same_lowest : (f g : Fraction) → 1 ≤ f.den → 1 ≤ g.den → IsCoprime f.num f.den → IsCoprime g.num g.den → f.num * g.den ≡ g.num * f.den → f ≡ g
same_lowest f g pf pg hf hg e =
    let up : f.den ∣ g.den = divides f g pf pg hf e in
    let down : g.den ∣ f.den = divides g f pg pf hg (sym e) in
    let dens : f.den ≡ g.den = dvd_antisymm up down in
    let nums : f.num ≡ g.num = eq_of_mul-eq-mul_right g.den (omega arith) f.num g.num (e ∙ ap (λ d. g.num * d) dens) in
    λ i. record { num = nums i; den = dens i }
  where
    divides : (f g : Fraction) → 1 ≤ f.den → 1 ≤ g.den → IsCoprime f.num f.den → f.num * g.den ≡ g.num * f.den → f.den ∣ g.den
    divides f g pf pg hf e =
        divides_other_factor f.den f.num g.den (omega arith) (IsCoprime-swap f.num f.den hf)
        (subst (λ n. f.den ∣ n) (sym e) (dvd-mul_left f.den g.num))

-- the lowest terms of a number are unique
pub same_IsLowestTerms : (n d : ℕ) (f g : Fraction) → 1 ≤ d → IsLowestTerms n d f → IsLowestTerms n d g → f ≡ g
same_IsLowestTerms n d f g hd hf hg =
    let e : f.num * g.den ≡ g.num * f.den = cancelled f.num f.den g.num g.den n d hd hf.same_number hg.same_number in
    same_lowest f g hf.positive hg.positive hf.coprime hg.coprime e
  where
    cancelled : (a b p q n d : ℕ) → 1 ≤ d → a * d ≡ n * b → p * d ≡ n * q → a * q ≡ p * b
    cancelled a b p q n d hd e h =
        let left = ap (λ k. k * q) e in
        let right = ap (λ k. k * b) h in
        eq_of_mul-eq-mul_right d (omega arith) (a * q) (p * b) (omega arith)

-- with one part past it, the lowest terms pass the width
pub PassesWidth-num : (n d p q : ℕ) → IsLowestTerms n d (record { num = p; den = q }) → 2 ^ 127 ≤ p → PassesWidth n d
PassesWidth-num n d p q h wide = (record { num = p; den = q }, h, λ f. absurd (≤_not_< f.num_fits wide))
  where
    ≤_not_< : p < 2 ^ 127 → 2 ^ 127 ≤ p → ⊥
    ≤_not_< a b = omega arith

pub PassesWidth-den : (n d p q : ℕ) → IsLowestTerms n d (record { num = p; den = q }) → 2 ^ 127 ≤ q → PassesWidth n d
PassesWidth-den n d p q h wide = (record { num = p; den = q }, h, λ f. absurd (≤_not_< f.den_fits wide))
  where
    ≤_not_< : q < 2 ^ 127 → 2 ^ 127 ≤ q → ⊥
    ≤_not_< a b = omega arith

-- lowest terms within the width leave no others past it
pub not_PassesWidth : (n d : ℕ) (f : Fraction) → 1 ≤ d → IsLowestTerms n d f → FitsWidth f → ¬ (PassesWidth n d)
not_PassesWidth n d f hd h fits w = w.2 (subst FitsWidth (same_IsLowestTerms n d f w.0 hd h w.1) fits)

pub IsLowestTerms-exists : (n d : ℕ) → 1 ≤ d → (f : Fraction) × IsLowestTerms n d f
IsLowestTerms-exists n d hd =
    let g = IsGcd-exists n d in
    (record { num = n / g.0; den = d / g.0 }, IsLowestTerms-divided n d g.0 hd g.1)
