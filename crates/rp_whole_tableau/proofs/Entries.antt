-- Numbers with a sign, and rows whose entries are written one after another.
use Rattle.std.proofs.Common.{◌≡◌, ◌≢◌, ℕ, zero, suc, ◌+◌, ◌<◌, ◌≤◌, ℤ, pos, negsuc, neg_ℤ, ◌<ℤ◌, ◌-ℤ◌, ◌*ℤ◌, Bool, true, false, not, ltb, if◌then◌else◌, List, [], ◌∷◌, ◌++◌, length, get_or, slice_set, Vec, inl, inr, refl, sym, ◌∙◌, ap, subst, arith, length-set, get_or-set_same, get_or-set_other}
use Rattle.std.specs.declared.alloc.Global.{Global}
use Rattle.std.proofs.lemmas.Bool.{cases_lt, false≢true, le-ltb}
use mathlib.Core.Bool.{beq}
use Rattle.std.proofs.lemmas.Int.{ints}
use Rattle.std.specs.Int.RustNames.{unsigned_abs}
use Rattle.std.specs.Prelude.{slice_index_or}
use Rattle.rp_whole_tableau.specs.Pivots.{IsRowRenewed, IsPivotIn, PivotPasses, crossed, entry_in, number_at, row_of}
use Rattle.rp_whole_tableau.specs.InnerPivots.{AreRenewedBelow, IsRenewedBelow, PassesSome}

pub opposite : (n m : Bool) (x y z : ℕ) → not (beq n m) ≡ true → z ≡ x + y
    → (if n then neg_ℤ (pos z) else pos z) ≡ (if n then neg_ℤ (pos x) else pos x) -ℤ (if m then neg_ℤ (pos y) else pos y)
opposite true true x y z other e = absurd (false≢true other)
opposite true false x y z other e = omega (arith, ints)
opposite false true x y z other e = omega (arith, ints)
opposite false false x y z other e = absurd (false≢true other)

-- ---- a row

pub row_begun : (den : ℕ) (pivot factor : ℤ) (across before : List ℤ) → IsRenewedBelow den pivot factor across before before 0
row_begun den pivot factor across before = record {
  as_long = refl;
  exact = λ k l. absurd (omega (arith, l));
  rest = λ k l. refl;
}

module _ (den : ℕ) (pivot factor : ℤ) (across before after : List ℤ) (j : ℕ) (so_far : IsRenewedBelow den pivot factor across before after j) where
  pub row_more : (entry : ℤ) → j < length after → entry *ℤ pos den ≡ crossed pivot (number_at after j) factor (number_at across j)
      → IsRenewedBelow den pivot factor across before (slice_set after j entry) (j + 1)
  row_more entry inside is = record {
    as_long = length-set after j entry ∙ so_far.as_long;
    exact = λ k l. elim (cases_lt k j) [
      | inl below ↦ (let other : k ≢ j = λ e. absurd (omega (arith, e, below)) in
          ap (λ z. z *ℤ pos den) (get_or-set_other after j k entry (pos 0) other) ∙ so_far.exact k below)
      | inr over ↦ (let same : j ≡ k = omega (arith, l, over) in
          subst (λ (m : ℕ). number_at (slice_set after j entry) m *ℤ pos den ≡ crossed pivot (number_at before m) factor (number_at across m)) same
          (ap (λ z. z *ℤ pos den) (get_or-set_same after j entry (pos 0) inside) ∙ is ∙ ap (λ z. crossed pivot z factor (number_at across j)) (so_far.rest j (omega arith))))
    ];
    rest = λ k l. (let other : k ≢ j = λ e. absurd (omega (arith, e, l)) in
        get_or-set_other after j k entry (pos 0) other ∙ so_far.rest k (omega (arith, l)));
  }

  pub row_done : j ≡ length before → IsRowRenewed den pivot factor across before after
  row_done e = record { as_long = so_far.as_long; exact = λ k l. so_far.exact k (omega (arith, e, l)) }

-- the same under other names
pub renewed_is : (den : ℕ) (pivot' x' f' y' e' : ℤ) → e' *ℤ pos den ≡ crossed pivot' x' f' y'
    → (pivot x f y e : ℤ) → e ≡ e' → pivot ≡ pivot' → x ≡ x' → f ≡ f' → y ≡ y' → e *ℤ pos den ≡ crossed pivot x f y
renewed_is den pivot' x' f' y' e' is pivot x f y e same_e same_pivot same_x same_f same_y =
    (λ i. same_e i *ℤ pos den) ∙ is ∙ sym (λ i. crossed (same_pivot i) (same_x i) (same_f i) (same_y i))

pub row_renewed_is : (den : ℕ) (pivot' factor' : ℤ) (across before' after : List ℤ) → IsRowRenewed den pivot' factor' across before' after
    → (pivot factor : ℤ) (before : List ℤ) → pivot' ≡ pivot → factor' ≡ factor → before' ≡ before → IsRowRenewed den pivot factor across before after
row_renewed_is den pivot' factor' across before' after is pivot factor before same_pivot same_factor same_before =
    subst (λ (p : ℤ). IsRowRenewed den p factor across before after) same_pivot
    (subst (λ (f : ℤ). IsRowRenewed den pivot' f across before after) same_factor
    (subst (λ (xs : List ℤ). IsRowRenewed den pivot' factor' across xs after) same_before is))

-- a row stays where it has 0 in the column and the pivot is the denominator
pub row_stays : (den : ℕ) (pivot factor : ℤ) (across before : List ℤ) → factor ≡ pos 0 → pivot ≡ pos den → IsRowRenewed den pivot factor across before before
row_stays den pivot factor across before none same = record {
  as_long = refl;
  exact = λ j l. rw (none, same) (stays (number_at before j) (pos den) (number_at across j));
}
  where
    stays : (x d y : ℤ) → x *ℤ d ≡ x *ℤ d -ℤ pos 0 *ℤ y
    stays x d y = omega (arith, ints)

-- the pivot is above 0
same_abs : (pivot : ℤ) (den : ℕ) → pos 0 <ℤ pivot → unsigned_abs pivot ≡ den → pivot ≡ pos den
same_abs (pos n) den positive e = ap pos e
same_abs (negsuc n) den positive e = absurd (omega (arith, ints, positive))

pub row_stays_by : (den : ℕ) (pivot factor : ℤ) (across before : List ℤ) → factor ≡ pos 0 → pos 0 <ℤ pivot → unsigned_abs pivot ≡ den → IsRowRenewed den pivot factor across before before
row_stays_by den pivot factor across before none positive e = row_stays den pivot factor across before none (same_abs pivot den positive e)

-- ---- rows

pub row_read : (rows : List (Vec ℤ Global)) (i : ℕ) (row : Vec ℤ Global) → i < length rows → row ≡ get_or rows i row → row_of rows i ≡ row.items
row_read [] i row l e = absurd (omega (arith, l))
row_read (first ∷ rows) zero row l e = ap (λ (v : Vec ℤ Global). v.items) (sym e)
row_read (first ∷ rows) (suc i) row l e = row_read rows i row (omega (arith, l)) e

pub row_past : (rows : List (Vec ℤ Global)) (i : ℕ) → length rows ≤ i → row_of rows i ≡ []
row_past [] i l = refl
row_past (first ∷ rows) zero l = absurd (omega (arith, l))
row_past (first ∷ rows) (suc i) l = row_past rows i (omega (arith, l))

pub row_set : (rows : List (Vec ℤ Global)) (i : ℕ) (row : Vec ℤ Global) → i < length rows → row_of (slice_set rows i row) i ≡ row.items
row_set [] i row l = absurd (omega (arith, l))
row_set (first ∷ rows) zero row l = refl
row_set (first ∷ rows) (suc i) row l = row_set rows i row (omega (arith, l))

pub row_kept : (rows : List (Vec ℤ Global)) (i k : ℕ) (row : Vec ℤ Global) → k ≢ i → row_of (slice_set rows i row) k ≡ row_of rows k
row_kept [] i k row other = refl
row_kept (first ∷ rows) zero zero row other = absurd (other refl)
row_kept (first ∷ rows) zero (suc k) row other = refl
row_kept (first ∷ rows) (suc i) zero row other = refl
row_kept (first ∷ rows) (suc i) (suc k) row other = row_kept rows i k row (λ e. other (ap suc e))

below_length : (i n : ℕ) → true ≡ ltb i n → i < n
below_length i n e = elim (cases_lt i n) [ inl l ↦ l | inr l ↦ absurd (false≢true (sym (e ∙ le-ltb i n l))) ]

pub entry_read : (rows seen : List (Vec ℤ Global)) (i j : ℕ) (row : Vec ℤ Global) (slice : List ℤ) (entry : ℤ) → seen ≡ rows → true ≡ ltb i (length seen) → row ≡ slice_index_or seen i row → slice ≡ row.items → entry ≡ number_at slice j
    → entry ≡ entry_in rows i j
entry_read rows seen i j row slice entry same inside is items found =
    let own : row_of seen i ≡ row.items = row_read seen i row (below_length i (length seen) inside) is in
    found ∙ ap (λ (xs : List ℤ). number_at xs j) (items ∙ sym own) ∙ ap (λ (them : List (Vec ℤ Global)). entry_in them i j) same

pub entry_past : (rows : List (Vec ℤ Global)) (i j : ℕ) → length rows ≤ i → pos 0 ≡ entry_in rows i j
entry_past rows i j l = ap (λ (xs : List ℤ). number_at xs j) (sym (row_past rows i l))

pub rows_begun : (den : ℕ) (across column : List ℤ) (r : ℕ) (before : List (Vec ℤ Global)) → AreRenewedBelow den across column r before before 0
rows_begun den across column r before = record { count = refl; done = λ k l other. absurd (omega (arith, l)); rest = λ k l. refl; own = refl }

module _ (den : ℕ) (across column : List ℤ) (r : ℕ) (before after : List (Vec ℤ Global)) (i : ℕ) (so_far : AreRenewedBelow den across column r before after i) where
  pub rows_more : (row : Vec ℤ Global) → i < length after → i ≢ r → IsRowRenewed den (number_at column r) (number_at column i) across (row_of after i) row.items
      → AreRenewedBelow den across column r before (slice_set after i row) (i + 1)
  rows_more row inside other is = record {
    count = length-set after i row ∙ so_far.count;
    done = λ k l apart. elim (cases_lt k i) [
      | inl below ↦ (let differs : k ≢ i = λ e. absurd (omega (arith, e, below)) in
          subst (λ (xs : List ℤ). IsRowRenewed den (number_at column r) (number_at column k) across (row_of before k) xs) (sym (row_kept after i k row differs)) (so_far.done k below apart))
      | inr over ↦ (let same : i ≡ k = omega (arith, l, over) in
          subst (λ (m : ℕ). IsRowRenewed den (number_at column r) (number_at column m) across (row_of before m) (row_of (slice_set after i row) m)) same
          (subst (λ (xs : List ℤ). IsRowRenewed den (number_at column r) (number_at column i) across (row_of before i) xs) (sym (row_set after i row inside))
          (subst (λ (xs : List ℤ). IsRowRenewed den (number_at column r) (number_at column i) across xs row.items) (so_far.rest i (omega arith)) is)))
    ];
    rest = λ k l. (let differs : k ≢ i = λ e. absurd (omega (arith, e, l)) in row_kept after i k row differs ∙ so_far.rest k (omega (arith, l)));
    own = (let differs : r ≢ i = λ e. other (sym e) in row_kept after i r row differs ∙ so_far.own);
  }

  pub rows_left_out : i ≡ r → AreRenewedBelow den across column r before after (i + 1)
  rows_left_out same = record {
    count = so_far.count;
    done = λ k l apart. so_far.done k (let differs : k ≢ i = λ e. apart (e ∙ same) in omega (arith, l, differs)) apart;
    rest = λ k l. so_far.rest k (omega (arith, l));
    own = so_far.own;
  }

-- ---- the pivot

pub abs_is : (z : ℤ) → pos 0 <ℤ z → pos (unsigned_abs z) ≡ z
abs_is (pos n) positive = refl
abs_is (negsuc n) positive = absurd (omega (arith, ints, positive))

pub pivot_made : (den : ℕ) (rows next : List (Vec ℤ Global)) (column across : List ℤ) (r next_den : ℕ) → across ≡ row_of rows r
    → AreRenewedBelow den across column r rows next (length rows) → pos next_den ≡ number_at column r → IsPivotIn den rows column r next_den next
pivot_made den rows next column across r next_den same renewed is = record {
  den_is = is;
  count = renewed.count;
  others = λ i l other. subst (λ (xs : List ℤ). IsRowRenewed den (number_at column r) (number_at column i) xs (row_of rows i) (row_of next i)) same (renewed.done i l other);
  own = renewed.own;
}

pub pivot_passes : (den : ℕ) (rows : List (Vec ℤ Global)) (column across : List ℤ) (r : ℕ) → across ≡ row_of rows r → PassesSome den across column r rows → PivotPasses den rows column r
pivot_passes den rows column across r same passes = subst (λ (xs : List ℤ). PassesSome den xs column r rows) same passes

-- ---- a column

pub column_more : (rows : List (Vec ℤ Global)) (j : ℕ) (column : List ℤ) (entry : ℤ) → ((k : ℕ) → k < length column → number_at column k ≡ entry_in rows k j) → entry ≡ entry_in rows (length column) j
    → (k : ℕ) → k < length column + 1 → number_at (column ++ entry ∷ []) k ≡ entry_in rows k j
column_more rows j column entry so_far is k l = elim (cases_lt k (length column)) [
  | inl below ↦ before column k below ∙ so_far k below
  | inr over ↦ (let same : length column ≡ k = omega (arith, l, over) in subst (λ (m : ℕ). number_at (column ++ entry ∷ []) m ≡ entry_in rows m j) same (last column ∙ is))
]
  where
    before : (xs : List ℤ) (k : ℕ) → k < length xs → number_at (xs ++ entry ∷ []) k ≡ number_at xs k
    before [] k l = absurd (omega (arith, l))
    before (x ∷ xs) zero l = refl
    before (x ∷ xs) (suc k) l = before xs k (omega (arith, l))

    last : (xs : List ℤ) → number_at (xs ++ entry ∷ []) (length xs) ≡ entry
    last [] = refl
    last (x ∷ xs) = last xs
