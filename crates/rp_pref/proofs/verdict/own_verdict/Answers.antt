use Rattle.std.proofs.Common.{arith}
use Rattle.rp_pref.proofs.verdict.own_verdict.Goals as goal

pub verdict_over-requires-clause-strict_is_weak : goal.verdict_over-requires-clause-strict_is_weak
verdict_over-requires-clause-strict_is_weak c = λ s t a b h. omega arith
