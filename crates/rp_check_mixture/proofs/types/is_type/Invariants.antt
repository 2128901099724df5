use Rattle.std.proofs.Common.{◌≡◌, ◌<◌, ℕ, length, slice_index}
use Rattle.rp_patch.specs.Patches.{budget_at}
use Rattle.rp_check_mixture.proofs.types.is_type.Given as goal

abbrev pub invariant-loop-j : goal.invariant-loop-j
invariant-loop-j l = (j : ℕ) → j < l.j
    → (slice_index l.numbers j < length l.patches.patches) × (budget_at l.patches (slice_index l.numbers j) ≡ j)
