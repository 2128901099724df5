use Rattle.std.proofs.Common.{◌≡◌, ℕ, suc, ◌<◌, ◌≤◌, length}
use Rattle.rp_grid.specs.Rows.{AreEqual}
use Rattle.rp_simplex.specs.Cells.{cell}
use Rattle.rp_simplex.specs.ExactTableau.{width_of}
use Rattle.rp_simplex.specs.InnerRows.{IsFirstEntry}
use Rattle.rp_simplex.proofs.first.starting_columns.Given as goal

abbrev pub invariant-loop-j : goal.invariant-loop-j
invariant-loop-j g l = record {
  count : length l.columns.rows ≡ width_of (g.P.Lp.program l.p);
  height : l.columns.cols ≡ suc (g.P.Lp.program l.p).rows;
  equal : AreEqual l.columns;
  so_far : (j i : ℕ) → j < l.j → i ≤ (g.P.Lp.program l.p).rows → IsFirstEntry (g.P.Lp.program l.p) i j (cell l.columns j i);
}
