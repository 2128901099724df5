use Rattle.std.proofs.Common.{◌≡◌, ℕ, ◌<◌, ◌≤◌, pos, length}
use Rattle.rp_grid.specs.Rows.{AreEqual}
use Rattle.rp_simplex.specs.Cells.{cell}
use Rattle.rp_simplex.specs.InnerCombined.{delta}
use Rattle.rp_simplex.proofs.first.starting_multipliers.Given as goal

abbrev pub invariant-loop-i : goal.invariant-loop-i
invariant-loop-i l = record {
  count : length l.multipliers.rows ≡ l.count;
  width : l.multipliers.cols ≡ l.count;
  equal : AreEqual l.multipliers;
  done : (i s : ℕ) → i < l.i → s < l.count → cell l.multipliers i s ≡ delta i s;
  left : (i s : ℕ) → l.i ≤ i → cell l.multipliers i s ≡ pos 0;
}
