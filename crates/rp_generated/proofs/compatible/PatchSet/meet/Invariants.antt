use Rattle.std.proofs.Common.{ℕ}
use Rattle.rp_generated.specs.InnerLight.{IsIn}
use Rattle.rp_generated.proofs.compatible.PatchSet.meet.Given as goal

abbrev pub invariant-loop-k : goal.invariant-loop-k
invariant-loop-k l = (i : ℕ) → IsIn l.self.words i → IsIn l.other.words i → IsIn l.words i
