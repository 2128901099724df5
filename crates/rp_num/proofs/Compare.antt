-- The order of two numbers by their high parts, and by their low parts where those are equal.
use Rattle.std.proofs.Common.{◌≡◌, ℕ, ◌+◌, ◌*◌, ◌<◌, sym, ◌∙◌, ap, arith, inl, inr, ◌⊎◌}
use Rattle.std.specs.Ordering.{nat_cmp}
use Rattle.std.specs.declared.cmp.Ordering.TheVariants.{Less, Greater}
use Rattle.std.proofs.lemmas.Bool.Decides.{nat_tests}
use Rattle.std.proofs.Math.Nat.{mul-le-mul_right}
use Rattle.std.proofs.lemmas.Bool.{cases_order}

nat_cmp-less : (x y : ℕ) → x < y → nat_cmp x y ≡ Less
nat_cmp-less x y h = grind (arith, nat_tests)

nat_cmp-greater : (x y : ℕ) → y < x → nat_cmp x y ≡ Greater
nat_cmp-greater x y h = grind (arith, nat_tests)

-- the same number on both sides changes no order
nat_cmp-shifted : (s x y u v : ℕ) → u ≡ s + x → v ≡ s + y → nat_cmp u v ≡ nat_cmp x y
nat_cmp-shifted s x y u v p q = grind (arith, nat_tests)

-- with equal high parts, the low ones decide
pub nat_cmp-by_low : (b l h m k x y : ℕ) → l + h * b ≡ x → m + k * b ≡ y → h ≡ k → nat_cmp l m ≡ nat_cmp x y
nat_cmp-by_low b l h m k x y ex ey e =
    let same = ap (λ n. n * b) e in
    sym (nat_cmp-shifted (h * b) l m x y (omega arith) (omega arith))

-- a lesser high part gives a lesser number
less_by_high : (b l h m k x y : ℕ) → l < b → l + h * b ≡ x → m + k * b ≡ y → h < k → x < y
less_by_high b l h m k x y below ex ey less =
    let up = mul-le-mul_right {m = h + 1} {n = k} b (omega arith) in
    omega (arith, up)

-- unequal high parts decide
pub nat_cmp-by_high : (b l h m k x y : ℕ) → l < b → m < b → l + h * b ≡ x → m + k * b ≡ y → (h ≡ k → ⊥) → nat_cmp h k ≡ nat_cmp x y
nat_cmp-by_high b l h m k x y low_l low_m ex ey differ = by_cases (cases_order h k)
  where
    by_cases : (h ≡ k) ⊎ ((h < k) ⊎ (k < h)) → nat_cmp h k ≡ nat_cmp x y
    by_cases (inl e) = absurd (differ e)
    by_cases (inr (inl less)) = nat_cmp-less h k less ∙ sym (nat_cmp-less x y (less_by_high b l h m k x y low_l ex ey less))
    by_cases (inr (inr more)) = nat_cmp-greater h k more ∙ sym (nat_cmp-greater x y (less_by_high b m k l h y x low_m ey ex more))
