-- What is read of a grid after one row or one element of it was written, for the crates above.
use Rattle.std.proofs.Common.{◌≡◌, ◌≢◌, ℕ, ◌<◌, inl, inr, List, [], length, get_or, slice_set, ap, ◌∙◌, arith, length-set, get_or-set_same, get_or-set_other}
use Rattle.std.proofs.lemmas.Bool.{cases_eq}
use Rattle.rp_grid.specs.Rows.{Rows, row_of, AreEqual, with_row, with_cell}

module _ {X : Type 0} where
  pub same_count : (g : Rows X) (r : ℕ) (xs : List X) → length (with_row g r xs).rows ≡ length g.rows
  same_count g r xs = length-set g.rows r xs

  pub row_written : (g : Rows X) (r : ℕ) (xs : List X) → r < length g.rows → row_of (with_row g r xs) r ≡ xs
  row_written g r xs lt = get_or-set_same g.rows r xs [] lt

  pub row_stays : (g : Rows X) (r s : ℕ) (xs : List X) → s ≢ r → row_of (with_row g r xs) s ≡ row_of g s
  row_stays g r s xs other = get_or-set_other g.rows r s xs [] other

  pub cell_written : (g : Rows X) (r c : ℕ) (x d : X) → r < length g.rows → c < length (row_of g r) → get_or (row_of (with_cell g r c x) r) c d ≡ x
  cell_written g r c x d lt within = ap (λ l. get_or l c d) (row_written g r (slice_set (row_of g r) c x) lt) ∙ get_or-set_same (row_of g r) c x d within

  -- Another column of the row that was written.
  pub cell_stays : (g : Rows X) (r c k : ℕ) (x d : X) → r < length g.rows → k ≢ c → get_or (row_of (with_cell g r c x) r) k d ≡ get_or (row_of g r) k d
  cell_stays g r c k x d lt other = ap (λ l. get_or l k d) (row_written g r (slice_set (row_of g r) c x) lt) ∙ get_or-set_other (row_of g r) c k x d other

  -- The rows stay of equal length.
  pub still_equal : (g : Rows X) (r : ℕ) (xs : List X) → AreEqual g → length xs ≡ g.cols → AreEqual (with_row g r xs)
  still_equal g r xs equal long s lt = elim (cases_eq s r) [
    | inl same ↦ let there : r < length g.rows = omega (arith, same_count g r xs) in
        ap (λ k. length (row_of (with_row g r xs) k)) same ∙ ap length (row_written g r xs there) ∙ long
    | inr other ↦ ap length (row_stays g r s xs other) ∙ equal s (omega (arith, same_count g r xs))
  ]
