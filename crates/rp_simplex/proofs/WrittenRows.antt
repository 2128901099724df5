-- One more element of a row of a grid is written.
use Rattle.std.proofs.Common.{ℕ, ◌+◌, ◌<◌, ℤ, pos, length, slice_set, inl, inr, sym, ◌∙◌, subst, arith, length-set}
use Rattle.std.proofs.lemmas.Bool.{cases_eq}
use Rattle.rp_grid.specs.Rows.{Rows, row_of, with_cell}
use Rattle.rp_grid.proofs.RowLemmas.{same_count, row_stays, cell_written, cell_stays, still_equal}
use Rattle.rp_simplex.specs.Cells.{cell}
use Rattle.rp_simplex.specs.InnerRows.{IsRowWritten}

module _ (old now : Rows ℤ) (i n : ℕ) (P : ℕ → ℤ → Type 0) (there : i < length old.rows) (so_far : IsRowWritten old now i n P) (within : n < old.cols) (x : ℤ) (here : P n x) where
  row_there : i < length now.rows
  row_there = omega (arith, so_far.count)

  column_there : n < length (row_of now i)
  column_there = omega (arith, so_far.cols, so_far.equal i row_there)

  pub written_more : IsRowWritten old (with_cell now i n x) i (n + 1) P
  written_more = record {
    count = same_count now i (slice_set (row_of now i) n x) ∙ so_far.count;
    cols = so_far.cols;
    equal = still_equal now i (slice_set (row_of now i) n x) so_far.equal (length-set (row_of now i) n x ∙ so_far.equal i row_there);
    others = λ k apart. row_stays now i k (slice_set (row_of now i) n x) apart ∙ so_far.others k apart;
    done = λ j l. elim (cases_eq j n) [
      | inl same ↦ subst (λ m. P m (cell (with_cell now i n x) i m)) (sym same) (subst (P n) (sym (cell_written now i n x (pos 0) row_there column_there)) here)
      | inr other ↦ subst (P j) (sym (cell_stays now i n j x (pos 0) row_there other)) (so_far.done j (omega arith))
    ];
    left = λ j l. cell_stays now i n j x (pos 0) row_there (λ e. absurd (omega arith)) ∙ so_far.left j (omega arith);
  }
