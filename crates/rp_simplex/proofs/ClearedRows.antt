-- The rows of a grid are cleared and divided, one after the other.
use Rattle.std.proofs.Common.{◌≡◌, ◌≢◌, ℕ, ◌+◌, ◌*◌, ◌^◌, ◌<◌, ◌≤◌, ℤ, pos, ◌*ℤ◌, ◌-ℤ◌, List, length, slice_set, get_or, Bool, true, false, MatchBool, eqb, inl, inr, refl, sym, ap, ◌∙◌, subst, arith, length-set}
use Rattle.std.specs.Int.{w64, w128}
use Rattle.std.specs.Int.RustNames.{unsigned_abs}
use mir.Val.{to_z, of_z}
use lib.Signed.{mag}
use Rattle.std.proofs.lemmas.Bool.{cases_eq, eq-eqb, ne_eqb}
use Rattle.std.proofs.lemmas.Int.{ints, to_z-of_z, fits_signed_from_abs}
use Rattle.std.proofs.lemmas.List.{get_or_read}
use Rattle.rp_farkas.specs.Limits.{FitsEvidence}
use Rattle.rp_grid.specs.Rows.{Rows, row_of, AreEqual, with_row, with_cell, written}
use Rattle.rp_simplex.specs.Cells.{cell}
use Rattle.rp_simplex.specs.InnerCombined.{dot}
use Rattle.rp_simplex.specs.InnerRows.{AreRenewed, ArePivoted, FactorsFit, FitEvidence, HasDivided, IsQuotient, IsRowWritten, OnePasses, factor, less_multiple, moved}
use Rattle.rp_simplex.proofs.Bits.{back128}
use Rattle.rp_simplex.proofs.WrittenRows.{written_more}

pub back : (z : ℤ) → FitsEvidence (unsigned_abs z) → to_z w64 (of_z w64 z) ≡ z
back z fits = to_z-of_z w64 z (fits_signed_from_abs w64 z fits)

read_cell : (g : Rows ℤ) (i j : ℕ) (x : ℤ) → AreEqual g → i < length g.rows → j < g.cols → x ≡ get_or (row_of g i) j x → x ≡ cell g i j
read_cell g i j x equal there within e = get_or_read (row_of g i) j x (omega (arith, equal i there)) e (pos 0)

-- ---- a row that is written up to its end
pub all_written : (old now g : Rows ℤ) (i n : ℕ) (P : ℕ → ℤ → Type 0) → IsRowWritten old now i n P → n ≡ old.cols → g ≡ now → IsRowWritten old g i old.cols P
all_written old now g i n P so_far all e = subst (λ m. IsRowWritten old g i m P) all (subst (λ x. IsRowWritten old x i n P) (sym e) so_far)

-- ---- row i is cleared while row r is read
module _ (old now : Rows ℤ) (r i s d : ℕ) (p f : ℤ) (i_there : i < length old.rows) (r_there : r < length old.rows) (apart : i ≢ r) (s_there : s < old.cols)
    (fit : FitEvidence old i) (fit_pivot : FitEvidence old r)
    (so_far : IsRowWritten old now i s (λ k value. IsQuotient (less_multiple old r i p f k) d value)) where
  -- what the code computes from the elements that it reads
  pub cleared_read : (z a b : ℤ) (into from : ℕ) → into ≡ i → from ≡ r → a ≡ get_or (row_of now into) s a → b ≡ get_or (row_of now from) s b
      → mag z < 2 ^ 127 → z ≡ to_z w64 (of_z w64 a) *ℤ p -ℤ f *ℤ to_z w64 (of_z w64 b)
      → to_z w128 (of_z w128 z) ≡ less_multiple old r i p f s
  cleared_read z a b into from e_into e_from ea eb fits ez =
      let a_is : a ≡ cell old i s = read_cell now i s a so_far.equal (omega (arith, so_far.count)) (omega (arith, so_far.cols)) (subst (λ k. a ≡ get_or (row_of now k) s a) e_into ea) ∙ so_far.left s (omega arith) in
      let b_is : b ≡ cell old r s = read_cell now r s b so_far.equal (omega (arith, so_far.count)) (omega (arith, so_far.cols)) (subst (λ k. b ≡ get_or (row_of now k) s b) e_from eb) ∙ ap (λ xs. get_or xs s (pos 0)) (so_far.others r (λ e. apart (sym e))) in
      let a_read : to_z w64 (of_z w64 a) ≡ cell old i s = ap (λ y. to_z w64 (of_z w64 y)) a_is ∙ back (cell old i s) (fit s s_there) in
      let b_read : to_z w64 (of_z w64 b) ≡ cell old r s = ap (λ y. to_z w64 (of_z w64 y)) b_is ∙ back (cell old r s) (fit_pivot s s_there) in
      back128 z fits ∙ ez ∙ (λ k. a_read k *ℤ p -ℤ f *ℤ b_read k)

  pub row_more : (value : ℤ) (z : ℤ) (into : ℕ) (new : Rows ℤ) → z ≡ less_multiple old r i p f s → IsQuotient z d value → into ≡ i → new ≡ with_cell now into s (to_z w64 (of_z w64 value))
      → IsRowWritten old new i (s + 1) (λ k value. IsQuotient (less_multiple old r i p f k) d value)
  row_more value z into new z_is quotient e_into e =
      let is : new ≡ with_cell now i s value = e ∙ ap (λ k. with_cell now k s (to_z w64 (of_z w64 value))) e_into ∙ ap (with_cell now i s) (back value quotient.fits) in
      subst (λ g. IsRowWritten old g i (s + 1) (λ k value. IsQuotient (less_multiple old r i p f k) d value)) (sym is)
      (written_more old now i s (λ k value. IsQuotient (less_multiple old r i p f k) d value) i_there so_far s_there value (subst (λ y. IsQuotient y d value) z_is quotient))

-- ---- row i is multiplied
module _ (old now : Rows ℤ) (i j d : ℕ) (by : ℤ) (i_there : i < length old.rows) (j_there : j < old.cols) (fit : FitEvidence old i)
    (so_far : IsRowWritten old now i j (λ k value. IsQuotient (cell old i k *ℤ by) d value)) where
  pub scaled_read : (z : ℤ) (row : List ℤ) → row ≡ row_of now i → mag z < 2 ^ 127 → z ≡ to_z w64 (of_z w64 (get_or row j (pos 0))) *ℤ by → to_z w128 (of_z w128 z) ≡ cell old i j *ℤ by
  scaled_read z row e fits ez =
      let own : get_or row j (pos 0) ≡ cell old i j = ap (λ xs. get_or xs j (pos 0)) e ∙ so_far.left j (omega arith) in
      let read : to_z w64 (of_z w64 (get_or row j (pos 0))) ≡ cell old i j = ap (λ y. to_z w64 (of_z w64 y)) own ∙ back (cell old i j) (fit j j_there) in
      back128 z fits ∙ ez ∙ ap (λ y. y *ℤ by) read

  pub scaled_more : (value : ℤ) (z : ℤ) (row : List ℤ) → row ≡ row_of now i → length row ≡ now.cols → ((xs : List ℤ) → length xs ≡ now.cols → written now i xs ≡ xs) → z ≡ cell old i j *ℤ by → IsQuotient z d value
      → IsRowWritten old (with_row now i (written now i (slice_set row j (to_z w64 (of_z w64 value))))) i (j + 1) (λ k value. IsQuotient (cell old i k *ℤ by) d value)
  scaled_more value z row e long kept z_is quotient =
      let is : with_row now i (written now i (slice_set row j (to_z w64 (of_z w64 value)))) ≡ with_cell now i j value
      = ap (with_row now i) (kept (slice_set row j (to_z w64 (of_z w64 value))) (length-set row j (to_z w64 (of_z w64 value)) ∙ long) ∙ ap (λ xs. slice_set xs j (to_z w64 (of_z w64 value))) e)
      ∙ ap (with_cell now i j) (back value quotient.fits) in
      subst (λ g. IsRowWritten old g i (j + 1) (λ k value. IsQuotient (cell old i k *ℤ by) d value)) (sym is)
      (written_more old now i j (λ k value. IsQuotient (cell old i k *ℤ by) d value) i_there so_far j_there value (subst (λ y. IsQuotient y d value) z_is quotient))

-- ---- the same numbers by another rule
pub other_numbers : (b : Bool) (old new : Rows ℤ) (i d : ℕ) (f h : ℕ → ℤ) → ((j : ℕ) → j < old.cols → f j ≡ h j)
    → MatchBool b (HasDivided old new i f d) (OnePasses old.cols f d) → MatchBool b (HasDivided old new i h d) (OnePasses old.cols h d)
other_numbers true old new i d f h same w = record {
  count = w.count;
  cols = w.cols;
  equal = w.equal;
  others = w.others;
  done = λ j l. subst (λ z. IsQuotient z d (cell new i j)) (same j l) (w.done j l);
  left = w.left;
}
other_numbers false old new i d f h same w = (w.0, w.1, subst (λ z. 2 ^ 63 * d ≤ unsigned_abs z) (same w.0 w.1) w.2)

-- the same numbers, read back from their bits
pub same_row : (g : Rows ℤ) (r i s : ℕ) (p f : ℤ) → FitsEvidence (unsigned_abs p) → FitsEvidence (unsigned_abs f)
    → less_multiple g r i (to_z w64 (of_z w64 p)) (to_z w64 (of_z w64 f)) s ≡ less_multiple g r i p f s
same_row g r i s p f p_fits f_fits = λ k. cell g i s *ℤ back p p_fits k -ℤ back f f_fits k *ℤ cell g r s

-- a row that has 0 in the pivot's column
pub times_pivot : (g : Rows ℤ) (r i s : ℕ) (p f : ℤ) → FitsEvidence (unsigned_abs p) → FitsEvidence (unsigned_abs f)
    → of_z w64 f ≡ 0 → cell g i s *ℤ to_z w64 (of_z w64 p) ≡ less_multiple g r i p f s
times_pivot g r i s p f p_fits f_fits zero =
    let none : f ≡ pos 0 = sym (back f f_fits) ∙ ap (to_z w64) zero in
    let nothing : (x y z : ℤ) → z ≡ pos 0 → x ≡ x -ℤ z *ℤ y = λ x y z ez. omega (arith, ints) ∙ ap (λ w. x -ℤ w *ℤ y) (sym ez) in
    ap (λ z. cell g i s *ℤ z) (back p p_fits) ∙ nothing (cell g i s *ℤ p) (cell g r s) f none

pub same_moved : (m : Rows ℤ) (d r i s : ℕ) (p f : ℤ) → FitsEvidence (unsigned_abs p) → FitsEvidence (unsigned_abs f)
    → moved m d r (to_z w64 (of_z w64 p)) i (to_z w64 (of_z w64 f)) s ≡ moved m d r p i f s
same_moved m d r i s p f p_fits f_fits = λ k. moved m d r (back p p_fits k) i (back f f_fits k) s

-- ---- row by row
module _ (old now : Rows ℤ) (r : ℕ) (p : ℤ) (f : ℕ → ℤ) (d n : ℕ) (so_far : AreRenewed old now r p f d n) where
  pub same_multiple : (y : ℤ) (s : ℕ) → less_multiple now r n p y s ≡ less_multiple old r n p y s
  same_multiple y s =
      let own : cell now n s ≡ cell old n s = ap (λ xs. get_or xs s (pos 0)) (so_far.left n (omega arith)) in
      let pivot : cell now r s ≡ cell old r s = ap (λ xs. get_or xs s (pos 0)) so_far.pivot_row in
      λ k. own k *ℤ p -ℤ y *ℤ pivot k

  -- what the code reads of row n in the column that enters
  pub factor_read : (column : List ℤ) (z : ℤ) → FactorsFit old column → n < length old.rows → z ≡ factor now column n → to_z w64 (of_z w64 z) ≡ factor old column n
  factor_read column z fits there e =
      let whole : z ≡ factor old column n = e ∙ (λ k. dot (so_far.cols k) (so_far.left n (omega arith) k) column) in
      back z (subst (λ y. unsigned_abs y < 2 ^ 63) (sym whole) (fits n there)) ∙ whole

  pub rows_more : (new : Rows ℤ) (y : ℤ) → y ≡ f n → n ≢ r → HasDivided now new n (less_multiple now r n p y) d → AreRenewed old new r p f d (n + 1)
  rows_more new y is apart w = record {
    count = w.count ∙ so_far.count;
    cols = w.cols ∙ so_far.cols;
    equal = w.equal;
    done = λ i j l ne within. elim (cases_eq i n) [
      | inl e ↦ subst (λ k. IsQuotient (less_multiple old r k p (f k) j) d (cell new k j)) (sym e)
          (subst (λ z. IsQuotient (less_multiple old r n p z j) d (cell new n j)) is (subst (λ z. IsQuotient z d (cell new n j)) (same_multiple y j) (w.done j (omega (arith, so_far.cols)))))
      | inr other ↦ subst (IsQuotient (less_multiple old r i p (f i) j) d) (sym (ap (λ xs. get_or xs j (pos 0)) (w.others i other))) (so_far.done i j (omega arith) ne within)
    ];
    left = λ i l. w.others i (λ e. absurd (omega arith)) ∙ so_far.left i (omega arith);
    pivot_row = w.others r (λ e. apart (sym e)) ∙ so_far.pivot_row;
  }

  pub row_left_out : n ≡ r → AreRenewed old now r p f d (n + 1)
  row_left_out e = record {
    count = so_far.count;
    cols = so_far.cols;
    equal = so_far.equal;
    done = λ i j l ne within. so_far.done i j (let other : i ≢ n = λ same. ne (same ∙ e) in omega arith) ne within;
    left = λ i l. so_far.left i (omega arith);
    pivot_row = so_far.pivot_row;
  }

-- ---- the pivot's row last
pub moved-pivot : (m : Rows ℤ) (d r : ℕ) (p f : ℤ) (s : ℕ) → moved m d r p r f s ≡ cell m r s *ℤ pos d
moved-pivot m d r p f s = let here : eqb r r ≡ true = eq-eqb r r refl in rw here refl

pub moved-other : (m : Rows ℤ) (d r : ℕ) (p : ℤ) (i : ℕ) (f : ℤ) (s : ℕ) → i ≢ r → moved m d r p i f s ≡ less_multiple m r i p f s
moved-other m d r p i f s ne = let other : eqb i r ≡ false = ne_eqb i r ne in rw other refl

module _ (old mid : Rows ℤ) (den r : ℕ) (p : ℤ) (f : ℕ → ℤ) (d : ℕ) (others : AreRenewed old mid r p f d (length old.rows)) where
  pub same_pivot_row : (by : ℤ) (s : ℕ) → by ≡ pos den → cell mid r s *ℤ by ≡ moved old den r p r (f r) s
  same_pivot_row by s e = (λ k. get_or (others.pivot_row k) s (pos 0) *ℤ e k) ∙ sym (moved-pivot old den r p (f r) s)

  pub pivot_row_last : (b : Bool) (new : Rows ℤ) (by : ℤ) → by ≡ pos den → r < length old.rows
      → MatchBool b (HasDivided mid new r (λ j. cell mid r j *ℤ by) d) (OnePasses mid.cols (λ j. cell mid r j *ℤ by) d)
      → MatchBool b (ArePivoted old new (λ i. moved old den r p i (f i)) d) ((i : ℕ) × (i < length old.rows) × OnePasses old.cols (moved old den r p i (f i)) d)
  pivot_row_last true new by e there w = record {
    count = w.count ∙ others.count;
    cols = w.cols ∙ others.cols;
    equal = w.equal;
    done = λ i j l within. elim (cases_eq i r) [
      | inl same ↦ subst (λ k. IsQuotient (moved old den r p k (f k) j) d (cell new k j)) (sym same) (subst (λ z. IsQuotient z d (cell new r j)) (same_pivot_row by j e) (w.done j (omega (arith, others.cols))))
      | inr ne ↦ subst (λ z. IsQuotient z d (cell new i j)) (sym (moved-other old den r p i (f i) j ne))
          (subst (IsQuotient (less_multiple old r i p (f i) j) d) (sym (ap (λ xs. get_or xs j (pos 0)) (w.others i ne))) (others.done i j l ne within))
    ];
  }
  pivot_row_last false new by e there w =
      (r, there, (w.0, omega (arith, w.1, others.cols), subst (λ z. 2 ^ 63 * d ≤ unsigned_abs z) (same_pivot_row by w.0 e) w.2))
