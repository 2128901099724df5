use Rattle.std.proofs.Common.{◌≡◌}
use Rattle.rp_simplex.specs.InnerRows.{IsQuotient, IsRowWritten, less_multiple}
use Rattle.rp_simplex.proofs.renewal.clear_row.Given as goal

abbrev pub invariant-loop-s : goal.invariant-loop-s
invariant-loop-s l = record {
  same_grid : l.rows.grid.ghost_name ≡ l.initial.rows.grid.ghost_name;
  into : l.rows.into ≡ l.i;
  from : l.rows.from ≡ l.r;
  written : IsRowWritten l.fn.grid l.rows.grid.now l.i l.s (λ k value. IsQuotient (less_multiple l.fn.grid l.r l.i l.pivot l.factor k) l.divisor value);
}
