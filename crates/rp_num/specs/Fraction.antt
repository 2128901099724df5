-- Fractions in lowest terms and within a width, their order and their text (arithmetic; Hardy and Wright).
use Rattle.std.specs.Prelude.{◌≡◌, ℕ, ◌*◌, ◌^◌, ◌<◌, ◌≤◌, ◌==◌, if◌then◌else◌, List, ◌∷◌, ◌++◌}
use Prim.Native.Nat.{◌∣◌}
use Rattle.std.specs.Fmt.{decimal}
use Rattle.std.specs.Ordering.{nat_cmp}
use Rattle.std.specs.declared.cmp.Ordering.{Ordering}

-- A fraction of whole numbers without bound.
pub record Fraction : Type 0 where
  pub num : ℕ
  pub den : ℕ

-- No number but 1 divides both (Hardy and Wright, An Introduction to the Theory of Numbers, section 2.9).
abbrev pub IsCoprime : ℕ → ℕ → Type 0
IsCoprime a b = (d : ℕ) → d ∣ a → d ∣ b → d ≡ 1

-- Two fractions are one number: the cross products are equal (Landau, Foundations of Analysis, chapter 2).
abbrev pub SameNumber : Fraction → Fraction → Type 0
SameNumber f g = f.num * g.den ≡ g.num * f.den

-- The fraction f is num/den in lowest terms. There is just one such f where den is positive.
pub record IsLowestTerms (num den : ℕ) (f : Fraction) : Type 0 where
  pub positive : 1 ≤ f.den
  pub coprime : IsCoprime f.num f.den
  pub same_number : f.num * den ≡ num * f.den

-- A part of a fraction is within its width, 2^127 - 1.
abbrev pub FitsTerm : ℕ → Type 0
FitsTerm n = n < 2 ^ 127

-- Both parts are within the width of fractions.
pub record FitsWidth (f : Fraction) : Type 0 where
  pub num_fits : FitsTerm f.num
  pub den_fits : FitsTerm f.den

-- num/den in lowest terms has a part past the width.
abbrev pub PassesWidth : ℕ → ℕ → Type 0
PassesWidth num den = (f : Fraction) × IsLowestTerms num den f × (¬ (FitsWidth f))

-- The order of two fractions with positive denominators, by their cross products.
abbrev pub fraction_cmp : Fraction → Fraction → Ordering
fraction_cmp f g = nat_cmp (f.num * g.den) (g.num * f.den)

-- The plain text of a fraction: `num` where the denominator is 1, else `num/den`.
abbrev pub fraction_text : Fraction → List ℕ
fraction_text f = if f.den == 1 then decimal f.num else (decimal f.num ++ 47 ∷ decimal f.den)
