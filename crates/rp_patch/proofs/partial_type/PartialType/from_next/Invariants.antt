use Rattle.std.proofs.Common.{◌≡◌, ◌<◌, ◌⊎◌, ◌↔◌, ℕ, slice_index}
use Rattle.rp_patch.specs.PartialTypes.{taken_in}
use Rattle.rp_patch.specs.Sets.{Has}
use Rattle.rp_patch.specs.Types.{IsWeakBy}
use Rattle.rp_patch.proofs.partial_type.PartialType.from_next.Given as goal

abbrev pub invariant-loop-j : goal.invariant-loop-j
invariant-loop-j l = (t : ℕ) → Has l.from t ↔ ((t ≡ l.d) ⊎ ((j : ℕ) × (j < l.j) × IsWeakBy l.patches (taken_in l.self) l.d j × Has (slice_index l.self.reached j) t))
