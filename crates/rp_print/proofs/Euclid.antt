-- Euclid's steps give the greatest common divisor, and so lowest terms.
use Rattle.std.proofs.Common.{ℕ, zero, suc, ◌≤◌, ◌%◌, refl, arith}
use Rattle.std.specs.Int.{IsGcd}
use Rattle.std.proofs.Math.Nat.{mod-lt}
use Rattle.std.proofs.lemmas.Nat.Gcd.{IsGcd-from_zero, IsGcd-from_mod}
use Rattle.rp_num.specs.Fraction.{IsLowestTerms}
use Rattle.rp_num.proofs.Lowest.{IsLowestTerms-divided}
use Rattle.rp_print.specs.LowestTerms.{divisor, euclid, lowest_terms}

IsGcd-euclid : (steps a b : ℕ) → b ≤ steps → IsGcd a b (euclid steps a b)
IsGcd-euclid zero a b within = IsGcd-from_zero a b (omega arith)
IsGcd-euclid (suc steps) a zero within = IsGcd-from_zero a zero refl
IsGcd-euclid (suc steps) a (suc b) within =
    let falls = mod-lt a {m = suc b} (omega arith) in
    IsGcd-from_mod a (suc b) _ (IsGcd-euclid steps (suc b) (a % suc b) (omega arith))

pub IsLowestTerms-euclid : (n d : ℕ) → 1 ≤ d → IsLowestTerms n d (lowest_terms n d)
IsLowestTerms-euclid n d some = IsLowestTerms-divided n d (divisor n d) some (IsGcd-euclid d n d (omega arith))
