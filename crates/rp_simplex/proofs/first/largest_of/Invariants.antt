use Rattle.std.proofs.Common.{ℕ, ◌<◌, ◌≤◌}
use Rattle.rp_farkas.specs.Limits.{largest_entry}
use Rattle.rp_grid.specs.Rows.{row_of}
use Rattle.rp_simplex.specs.InnerCombined.{AreSmall}
use Rattle.rp_simplex.proofs.first.largest_of.Given as goal

abbrev pub invariant-loop-j : goal.invariant-loop-j
invariant-loop-j l = record {
  small : l.largest ≤ largest_entry;
  bounds : (j : ℕ) → j < l.j → AreSmall l.largest (row_of l.columns j);
}
