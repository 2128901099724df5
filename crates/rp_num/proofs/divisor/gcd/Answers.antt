use Rattle.std.proofs.lemmas.Nat.Gcd.{IsGcd-swap}
use Rattle.rp_num.proofs.Coprime.{IsGcd-zero}
use Rattle.rp_num.proofs.divisor.gcd.Goals as goal

pub returns-then-a-b-clause-zero : goal.returns-then-a-b-clause-zero
returns-then-a-b-clause-zero c = IsGcd-zero _ _ _ c.ordered_gcd.ensures

pub returns-else-a-b-clause-zero : goal.returns-else-a-b-clause-zero
returns-else-a-b-clause-zero c = IsGcd-zero _ _ _ (IsGcd-swap _ _ _ c.ordered_gcd-else-a-b.ensures)
