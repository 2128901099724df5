use Rattle.std.proofs.Common.{rules, arith}
use Rattle.rp_evidence.proofs.EqualOrReached.{equals}
use Rattle.rp_pref.proofs.closure.Closure.equals_or_reaches.Goals as goal

pub returns-then-s-t-clause-by_weak_steps : goal.returns-then-s-t-clause-by_weak_steps
returns-then-s-t-clause-by_weak_steps c = λ input closes. (
  λ e. equals input c.args.s c.args.t (omega (arith, c.requires.from, closes.size)) (search rules),
  λ r. search rules,
)
