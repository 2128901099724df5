use Rattle.std.proofs.Common.{◌<◌, ◌≤◌, ℕ, slice_index}
use Rattle.rp_evidence.specs.Preference.{IsStrict, IsWeak}
use Rattle.rp_table.specs.Cost.{cost_of}
use Rattle.rp_check_fit.proofs.kept_set.respects.Given as goal

abbrev pub invariant-loop-j : goal.invariant-loop-j
invariant-loop-j l = (j : ℕ) → j < l.j
    → (IsWeak (cost_of l.input.table.now) (slice_index l.kept l.i) (slice_index l.kept j) → slice_index l.ranks j ≤ slice_index l.ranks l.i)
    × (IsStrict (cost_of l.input.table.now) (slice_index l.kept l.i) (slice_index l.kept j) → slice_index l.ranks j < slice_index l.ranks l.i)
