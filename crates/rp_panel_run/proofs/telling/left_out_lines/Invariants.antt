use Rattle.std.proofs.Common.{◌≡◌, ◌++◌, ℕ, List, drop, map}
use Rattle.std.specs.Borrow.{Bor}
use Rattle.rp_panel_run.specs.Told as Told
use Rattle.rp_panel_run.proofs.telling.left_out_lines.Given as goal

abbrev pub invariant-loop-column : goal.invariant-loop-column
invariant-loop-column l = record {
  rest :
      l.lines.items ++ Told.left_out_lines (map (λ (column : Bor (List ℕ)). column.now) (drop l.column-index l.columns))
      ≡ Told.left_out_lines (map (λ (column : Bor (List ℕ)). column.now) l.columns);
}
