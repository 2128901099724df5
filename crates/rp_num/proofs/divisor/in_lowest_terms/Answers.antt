use Rattle.std.proofs.Common.{◌≡◌, ◌≤◌, ◌/◌, ℕ}
use Rattle.std.specs.Int.{IsGcd}
use Rattle.rp_num.specs.Fraction.{IsLowestTerms}
use Rattle.rp_num.proofs.Lowest.{IsLowestTerms-divided}
use Rattle.rp_num.proofs.divisor.in_lowest_terms.Goals as goal

divided : (a b p q g : ℕ) → p ≡ a → q ≡ b → 1 ≤ b → IsGcd p q g → IsLowestTerms a b (record { num = p / g; den = q / g })
divided a b p q g e f pos h = rw (e, f) (IsLowestTerms-divided a b g pos (rw (e, f) at h))

pub returns-clause-lowest : goal.returns-clause-lowest
returns-clause-lowest c =
    divided c.args.num c.args.den c.from-part.result c.from-whole.result c.gcd-common.result c.from-part.ensures c.from-whole.ensures c.requires c.gcd-common.ensures.greatest
