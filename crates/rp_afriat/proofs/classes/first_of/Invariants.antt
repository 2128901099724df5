use Rattle.std.proofs.Common.{◌≡◌, ◌<◌, ℕ, slice_index}
use Rattle.rp_afriat.proofs.classes.first_of.Given as goal

abbrev pub invariant-loop-t : goal.invariant-loop-t
invariant-loop-t l = (s : ℕ) → s < l.t → ¬ (slice_index l.counts s ≡ l.class)
