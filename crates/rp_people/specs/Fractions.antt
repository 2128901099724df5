-- Fractions that utilities have: a whole number, of either sign, over a positive whole number (arithmetic; Landau,
-- Foundations of Analysis, chapters 2 and 4).
use Rattle.std.specs.Prelude.{◌≡◌, ℕ, ◌+◌, ◌*◌, ℤ, pos, ◌+ℤ◌, ◌-ℤ◌, ◌*ℤ◌, ◌≤ℤ◌, ◌<ℤ◌}

-- num/den
pub record SignedFraction : Type 0 where
  pub num : ℤ
  pub den : ℕ

-- The order of fractions with positive denominators, by their cross products.
abbrev pub IsAtMost : SignedFraction → SignedFraction → Type 0
IsAtMost v w = (v.num *ℤ pos w.den) ≤ℤ (w.num *ℤ pos v.den)

abbrev pub IsBelow : SignedFraction → SignedFraction → Type 0
IsBelow v w = (v.num *ℤ pos w.den) <ℤ (w.num *ℤ pos v.den)

-- Two fractions are one number.
abbrev pub AreEqual : SignedFraction → SignedFraction → Type 0
AreEqual v w = v.num *ℤ pos w.den ≡ w.num *ℤ pos v.den

-- num/den times v
abbrev pub times : ℕ → ℕ → SignedFraction → SignedFraction
times num den v = record { num = pos num *ℤ v.num; den = den * v.den }

-- (a v + b w)/(a + b)
abbrev pub average : ℕ → ℕ → SignedFraction → SignedFraction → SignedFraction
average a b v w = record {
  num = (pos a *ℤ (v.num *ℤ pos w.den)) +ℤ (pos b *ℤ (w.num *ℤ pos v.den));
  den = (a + b) * (v.den * w.den);
}

-- v less num/den
abbrev pub less : SignedFraction → ℕ → ℕ → SignedFraction
less v num den = record { num = (v.num *ℤ pos den) -ℤ (pos num *ℤ pos v.den); den = v.den * den }
