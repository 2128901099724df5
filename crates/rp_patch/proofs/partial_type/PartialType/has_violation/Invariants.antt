use Rattle.std.proofs.Common.{◌<◌, ℕ, slice_index}
use Rattle.rp_patch.specs.PartialTypes.{taken_in}
use Rattle.rp_patch.specs.Sets.{Has}
use Rattle.rp_patch.specs.Types.{IsStrictBy}
use Rattle.rp_patch.proofs.partial_type.PartialType.has_violation.Given as goal

abbrev pub invariant-loop-j : goal.invariant-loop-j
invariant-loop-j l = (j k : ℕ) → j < l.j → k < l.self.taken → Has (slice_index l.self.reached j) k → ¬ IsStrictBy l.patches (taken_in l.self) k j
