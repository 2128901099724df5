use Rattle.std.proofs.Common.{◌≡◌, ◌<◌, ℕ, get_or}
use Rattle.rp_effic.specs.InnerLeft.{IsLeft}
use Rattle.rp_effic.proofs.closed_walk.begin.Given as goal

abbrev pub invariant-loop-s : goal.invariant-loop-s
invariant-loop-s l = record {
  left : (k : ℕ) → k < l.s → IsLeft l.left k;
  at : (k : ℕ) → k < l.s → get_or l.at k 0 ≡ get_or l.steps.starts.items k 0;
}
