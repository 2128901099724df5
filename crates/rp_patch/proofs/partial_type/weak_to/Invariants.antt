use Rattle.std.proofs.Common.{◌<◌, ◌↔◌, ℕ, pos, ◌≤ℤ◌}
use Rattle.rp_patch.specs.Patches.{sign_at}
use Rattle.rp_patch.specs.Sets.{Has}
use Rattle.rp_patch.proofs.partial_type.weak_to.Given as goal

abbrev pub invariant-loop-k : goal.invariant-loop-k
invariant-loop-k l = (k : ℕ) → Has l.set k ↔ ((k < l.k) × (sign_at l.patches l.i k ≤ℤ pos 0))
