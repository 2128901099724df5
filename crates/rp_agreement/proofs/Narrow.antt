-- A start whose products along a walk are within the width passes at each place of the walk.
use Rattle.std.proofs.Common.{◌≡◌, ◌<◌, ◌-◌, ◌+◌, ◌*◌, ℕ, zero, suc, List, [], ◌∷◌, length, take, arith, subst, sym, add-one}
use Rattle.rp_num.specs.Fraction.{Fraction, PassesWidth}
use Rattle.rp_evidence.specs.Homothetic.{ProductsFit, StepsFitFrom, product_from}
use Rattle.rp_clauses.specs.HomotheticFailure.{IsWideAfter}

-- two numbers that are equal to those of a fraction
same_width : (num den num' den' : ℕ) → num ≡ num' → den ≡ den' → PassesWidth num' den' → PassesWidth num den
same_width num den num' den' e d w =
    subst (λ x. PassesWidth x den) (sym e) (subst (λ y. PassesWidth num' y) (sym d) w)

module _ (c : ℕ → ℕ → ℕ) where
  narrow_from : (num den t : ℕ) (rest : List ℕ) (k : ℕ) → k < length rest → StepsFitFrom c num den t rest
      → ¬ PassesWidth (num * product_from c t (take (suc k) rest)) (den * product_from (λ i j. c i i) t (take (suc k) rest))
  narrow_from num den t [] k within fit = absurd (omega arith)
  narrow_from num den t (s ∷ rest) zero within fit =
      λ wide. fit.0 (same_width (num * c t s) (den * c t t) (num * (c t s * 1)) (den * (c t t * 1)) (omega arith) (omega arith) wide)
  narrow_from num den t (s ∷ rest) (suc k) within fit =
      λ wide. narrow_from (num * c t s) (den * c t t) s rest k (omega arith) fit.1
      (same_width
      ((num * c t s) * product_from c s (take (suc k) rest)) ((den * c t t) * product_from (λ i j. c i i) s (take (suc k) rest))
      (num * (c t s * product_from c s (take (suc k) rest))) (den * (c t t * product_from (λ i j. c i i) s (take (suc k) rest)))
      (omega arith) (omega arith) wide)

  pub narrow_after : (start : Fraction) (walk : List ℕ) (k : ℕ) → k < length walk - 1 → ProductsFit c start walk → ¬ IsWideAfter c start walk (k + 1)
  narrow_after start [] k within fit = absurd (omega arith)
  narrow_after start (t ∷ rest) k within fit =
      rw (add-one, add-one) (narrow_from start.num start.den t rest k (omega arith) fit)
