-- Programs at the beginning, row by row.
use Rattle.std.proofs.Common.{◌≡◌, ◌+◌, ◌<◌, ◌∙◌, inl, inr, ℕ, zero, suc, ℤ, pos, List, [], ◌∷◌, ◌++◌, length, length-append, slice_index, if◌then◌else◌, nat_eq, Vec, refl, ap, subst, sym, arith}
use Rattle.std.proofs.lemmas.Bool.{cases_lt}
use Rattle.std.specs.declared.alloc.Global.{Global}
use Rattle.rp_whole_tableau.specs.Pivots.{number_at, row_of}
use Rattle.rp_whole_tableau.specs.Programs.{IsFirst, IsFirstRow}
use Rattle.rp_whole_tableau.specs.declared.grown.Grown.{Grown}

pushed_before : (xs : List ℤ) (x : ℤ) (k : ℕ) → k < length xs → number_at (xs ++ x ∷ []) k ≡ number_at xs k
pushed_before [] x k l = absurd (omega (arith, l))
pushed_before (y ∷ xs) x zero l = refl
pushed_before (y ∷ xs) x (suc k) l = pushed_before xs x k (omega (arith, l))

pushed_last : (xs : List ℤ) (x : ℤ) → number_at (xs ++ x ∷ []) (length xs) ≡ x
pushed_last [] x = refl
pushed_last (y ∷ xs) x = pushed_last xs x

pub side_stays : (row : List ℤ) (x side : ℤ) → 0 < length row → number_at row 0 ≡ side → number_at (row ++ x ∷ []) 0 ≡ side
side_stays row x side some is = pushed_before row x 0 some ∙ is

pub slack_more : (row : List ℤ) (x : ℤ) (i s : ℕ) → length row ≡ s + 1 → ((k : ℕ) → k < s → number_at row (k + 1) ≡ (if nat_eq k i then pos 1 else pos 0)) → x ≡ (if nat_eq s i then pos 1 else pos 0)
    → (k : ℕ) → k < s + 1 → number_at (row ++ x ∷ []) (k + 1) ≡ (if nat_eq k i then pos 1 else pos 0)
slack_more row x i s long so_far is k l = elim (cases_lt k s) [
  | inl below ↦ pushed_before row x (k + 1) (omega (arith, below, long)) ∙ so_far k below
  | inr over ↦ (let same : s ≡ k = omega (arith, l, over) in
      let at : length row ≡ k + 1 = omega (arith, long, same) in
      subst (λ (m : ℕ). number_at (row ++ x ∷ []) m ≡ (if nat_eq k i then pos 1 else pos 0)) at
      (pushed_last row x ∙ is ∙ ap (λ (m : ℕ). if nat_eq m i then pos 1 else pos 0) same))
]

pub zero_more : (row : List ℤ) → ((j : ℕ) → number_at row j ≡ pos 0) → (j : ℕ) → number_at (row ++ pos 0 ∷ []) j ≡ pos 0
zero_more [] zeros zero = refl
zero_more [] zeros (suc j) = refl
zero_more (x ∷ row) zeros zero = zeros zero
zero_more (x ∷ row) zeros (suc j) = zero_more row (λ k. zeros (suc k)) j

pub rows_before : (rows : List (Vec ℤ Global)) (row : Vec ℤ Global) (k : ℕ) → k < length rows → row_of (rows ++ row ∷ []) k ≡ row_of rows k
rows_before [] row k l = absurd (omega (arith, l))
rows_before (first ∷ rows) row zero l = refl
rows_before (first ∷ rows) row (suc k) l = rows_before rows row k (omega (arith, l))

pub row_last : (rows : List (Vec ℤ Global)) (row : Vec ℤ Global) → row_of (rows ++ row ∷ []) (length rows) ≡ row.items
row_last [] row = refl
row_last (first ∷ rows) row = row_last rows row

pub rows_more : (sides : List ℕ) (rows : List (Vec ℤ Global)) (row : Vec ℤ Global) (i n : ℕ) → length rows ≡ i → ((k : ℕ) → k < i → IsFirstRow (slice_index sides k) k n (row_of rows k)) → IsFirstRow (slice_index sides i) i n row.items
    → (k : ℕ) → k < i + 1 → IsFirstRow (slice_index sides k) k n (row_of (rows ++ row ∷ []) k)
rows_more sides rows row i n long so_far is k l = elim (cases_lt k i) [
  | inl below ↦ subst (λ (xs : List ℤ). IsFirstRow (slice_index sides k) k n xs) (sym (rows_before rows row k (omega (arith, below, long)))) (so_far k below)
  | inr over ↦ (let same : i ≡ k = omega (arith, l, over) in
      let at : length rows ≡ k = omega (arith, long, same) in
      subst (λ (m : ℕ). IsFirstRow (slice_index sides k) k n (row_of (rows ++ row ∷ []) m)) at
      (subst (λ (xs : List ℤ). IsFirstRow (slice_index sides k) k n xs) (sym (row_last rows row))
      (subst (λ (m : ℕ). IsFirstRow (slice_index sides m) m n row.items) same is)))
]

pub basis_more : (basis : List ℕ) (i : ℕ) → length basis ≡ i → ((k : ℕ) → k < i → slice_index basis k ≡ k + 1) → (k : ℕ) → k < i + 1 → slice_index (basis ++ (1 + i) ∷ []) k ≡ k + 1
basis_more basis i long so_far k l = elim (cases_lt k i) [
  | inl below ↦ before basis k (omega (arith, below, long)) ∙ so_far k below
  | inr over ↦ (let same : length basis ≡ k = omega (arith, l, over, long) in subst (λ (m : ℕ). slice_index (basis ++ (1 + i) ∷ []) m ≡ k + 1) same (last basis ∙ omega (arith, same, long)))
]
  where
    before : (xs : List ℕ) (k : ℕ) → k < length xs → slice_index (xs ++ (1 + i) ∷ []) k ≡ slice_index xs k
    before [] k l = absurd (omega (arith, l))
    before (x ∷ xs) zero l = refl
    before (x ∷ xs) (suc k) l = before xs k (omega (arith, l))

    last : (xs : List ℕ) → slice_index (xs ++ (1 + i) ∷ []) (length xs) ≡ 1 + i
    last [] = refl
    last (x ∷ xs) = last xs

pub first_made : (sides : List ℕ) (g : Grown) (rows : List (Vec ℤ Global)) (row : Vec ℤ Global) (i : ℕ) → i ≡ length sides → g.tableau.den ≡ 1 → g.tableau.rows.items ≡ rows ++ row ∷ [] → length rows ≡ i
    → ((k : ℕ) → k < i → IsFirstRow (slice_index sides k) k (length sides) (row_of rows k)) → ((j : ℕ) → number_at row.items j ≡ pos 0)
    → length g.tableau.basis.items ≡ i → ((k : ℕ) → k < i → slice_index g.tableau.basis.items k ≡ k + 1) → g.columns.items ≡ [] → IsFirst sides g
first_made sides g rows row i all den same long each zeros many basis none = record {
  den_is = den;
  count = ap (λ (them : List (Vec ℤ Global)). length them) same ∙ length-append rows (row ∷ []) ∙ omega (arith, long, all);
  rows = λ k l. (let below : k < length rows = omega (arith, l, long, all) in
      subst (λ (them : List (Vec ℤ Global)). IsFirstRow (slice_index sides k) k (length sides) (row_of them k)) (sym same)
      (subst (λ (xs : List ℤ). IsFirstRow (slice_index sides k) k (length sides) xs) (sym (rows_before rows row k below)) (each k (omega (arith, l, all)))));
  objective = λ j. (let at : length rows ≡ length sides = omega (arith, long, all) in
      ap (λ (them : List (Vec ℤ Global)). number_at (row_of them (length sides)) j) same
      ∙ subst (λ (m : ℕ). number_at (row_of (rows ++ row ∷ []) m) j ≡ pos 0) at (ap (λ (xs : List ℤ). number_at xs j) (row_last rows row) ∙ zeros j));
  many = many ∙ all;
  basis = λ k l. basis k (omega (arith, l, all));
  columns = none;
}
