-- Programs that are the same in every place that a program has, and the program that is read from tableau 0.
use Rattle.std.proofs.Common.{◌≡◌, ℕ, zero, suc, ◌+◌, ◌-◌, ◌<◌, ◌≤◌, ℤ, pos, neg_ℤ, ◌≤ℤ◌, slice_index, ltb, true, false, inl, inr, refl, sym, ap, ◌∙◌, subst, arith}
use Rattle.std.specs.Int.RustNames.{unsigned_abs}
use Rattle.std.proofs.lemmas.Int.{ints}
use Rattle.std.proofs.lemmas.Bool.{cases_lt, lt-ltb, le-ltb}
use Rattle.rp_farkas.specs.LinearProgram.{LinearProgram}
use Rattle.rp_farkas.specs.Limits.{IsWithinLimits, largest_entry}
use Rattle.rp_farkas.specs.Listing.{IsListing, numerator_at}
use Rattle.rp_simplex.specs.Cells.{cell}
use Rattle.rp_simplex.specs.Choice.{IsEntering, IsOptimal, IsLeaving, IsUnbounded}
use Rattle.rp_simplex.specs.ExactTableau.{ExactTableau, width_of}
use Rattle.rp_simplex.specs.FirstTableau.{IsFirstTableau, first_entry}
use Rattle.rp_simplex.specs.Outcome.{IsOutcome}
use Rattle.rp_simplex.specs.Pivot.{IsPivot}
use Rattle.rp_simplex.specs.Readout.{IsReadAt}
use Rattle.rp_simplex.specs.ReadProgram.{IsSameProgram, program_in}
use Rattle.rp_simplex.specs.Run.{IsTableauAfter, begins, pivots}
use Rattle.rp_simplex.specs.InnerStage.{exact, IsShapedFor}
use Rattle.rp_simplex.specs.Width.{IsWithinWidth}
use Rattle.rp_simplex.specs.InnerRows.{HasFirstEntries}
use Rattle.rp_simplex.specs.declared.outcome.Outcome.{Outcome}
use Rattle.rp_simplex.specs.declared.outcome.Outcome.TheVariants.{Optimal, Unbounded, Wide}
use Rattle.rp_simplex.specs.declared.stage.Stage.{Stage}
use Rattle.rp_simplex.specs.declared.room.Room.{Room}
use Rattle.rp_simplex.specs.InnerReady.{HasRooms, IsReady}
use Rattle.rp_simplex.proofs.Sound.{first-slack, first-right}

-- ---- the entries of tableau 0 past the slacks
first-own : (p : LinearProgram) (i j : ℕ) → i < p.rows → first_entry p i (suc (p.rows + j)) ≡ p.a i j
first-own p i j l =
    let past : ltb (p.rows + j) p.rows ≡ false = le-ltb (p.rows + j) p.rows (omega arith) in
    let inside : ltb i p.rows ≡ true = lt-ltb i p.rows l in
    let place : p.rows + j - p.rows ≡ j = omega arith in
    rw (past, inside) (ap (p.a i) place)

first-objective : (p : LinearProgram) (j : ℕ) → first_entry p p.rows (suc (p.rows + j)) ≡ neg_ℤ (p.c j)
first-objective p j =
    let past : ltb (p.rows + j) p.rows ≡ false = le-ltb (p.rows + j) p.rows (omega arith) in
    let last : ltb p.rows p.rows ≡ false = le-ltb p.rows p.rows (omega arith) in
    let place : p.rows + j - p.rows ≡ j = omega arith in
    rw (past, last) (ap (λ k. neg_ℤ (p.c k)) place)

first-corner : (p : LinearProgram) (i : ℕ) → p.rows ≤ i → first_entry p i 0 ≡ pos 0
first-corner p i l = let past : ltb i p.rows ≡ false = le-ltb i p.rows l in rw past refl

twice : (z : ℤ) → neg_ℤ (neg_ℤ z) ≡ z
twice z = omega (arith, ints)

-- ---- the program that is read from tableau 0
module _ (p : LinearProgram) (t : Stage) (entries : HasFirstEntries p t.columns) (shape : IsShapedFor p t) where
  pub read_same : IsSameProgram p (program_in t.columns)
  read_same =
      let height : t.columns.cols ≡ suc p.rows = omega (arith, t.columns_height, shape.rows) in
      let place : (j : ℕ) → t.columns.cols + j ≡ suc (p.rows + j) = λ j. omega (arith, height) in
      record {
        rows = omega (arith, height);
        cols = omega (arith, height, t.columns_count, shape.width);
        a = λ i j hi hj. sym (ap (λ k. cell t.columns k i) (place j) ∙ (entries (suc (p.rows + j)) i (omega arith) (omega arith)).value_is ∙ first-own p i j hi);
        b = λ i hi. sym ((entries 0 i (omega arith) (omega arith)).value_is ∙ first-right p i hi);
        c = λ j hj.
            let last : t.columns.cols - 1 ≡ p.rows = omega (arith, height) in
            sym (ap neg_ℤ (ap (λ i. cell t.columns (t.columns.cols + j) i) last ∙ ap (λ k. cell t.columns k p.rows) (place j) ∙ (entries (suc (p.rows + j)) p.rows (omega arith) (omega arith)).value_is ∙ first-objective p j) ∙ twice (p.c j));
      }

pub same_back : (p q : LinearProgram) → IsSameProgram p q → IsSameProgram q p
same_back p q same = record {
  rows = sym same.rows;
  cols = sym same.cols;
  a = λ i j hi hj. sym (same.a i j (omega (arith, same.rows)) (omega (arith, same.cols)));
  b = λ i hi. sym (same.b i (omega (arith, same.rows)));
  c = λ j hj. sym (same.c j (omega (arith, same.cols)));
}

-- ---- what holds of a program holds of one that is the same
module _ (p q : LinearProgram) (same : IsSameProgram p q) where
  same_width : width_of p ≡ width_of q
  same_width = omega (arith, same.rows, same.cols)

  move : (P : ℕ → ℕ → Type 0) → P p.rows (width_of p) → P q.rows (width_of q)
  move P h = subst (λ w. P q.rows w) same_width (subst (λ r. P r (width_of p)) same.rows h)

  own_entry : (i j : ℕ) → i ≤ p.rows → j < p.cols → first_entry p i (suc (p.rows + j)) ≡ first_entry q i (suc (q.rows + j))
  own_entry i j hi hj = elim (cases_lt i p.rows) [
    | inl l ↦ first-own p i j l ∙ same.a i j l hj ∙ sym (first-own q i j (omega (arith, same.rows)))
    | inr l ↦
        let last : i ≡ p.rows = omega arith in
        ap (λ k. first_entry p k (suc (p.rows + j))) last ∙ first-objective p j ∙ ap neg_ℤ (same.c j hj) ∙ sym (first-objective q j)
        ∙ ap (λ k. first_entry q k (suc (q.rows + j))) (sym (last ∙ same.rows))
  ]

  same_entry : (i j : ℕ) → i ≤ p.rows → j < width_of p → first_entry p i j ≡ first_entry q i j
  same_entry i zero hi hj = elim (cases_lt i p.rows) [
    | inl l ↦ first-right p i l ∙ same.b i l ∙ sym (first-right q i (omega (arith, same.rows)))
    | inr l ↦ first-corner p i l ∙ sym (first-corner q i (omega (arith, same.rows)))
  ]
  same_entry i (suc k) hi hj = elim (cases_lt k p.rows) [
    | inl l ↦ first-slack p i k l ∙ sym (first-slack q i k (omega (arith, same.rows)))
    | inr l ↦
        let in_p : suc k ≡ suc (p.rows + (k - p.rows)) = omega arith in
        let in_q : suc (q.rows + (k - p.rows)) ≡ suc k = omega (arith, same.rows) in
        ap (first_entry p i) in_p ∙ own_entry i (k - p.rows) hi (omega arith) ∙ ap (first_entry q i) in_q
  ]

  pub same_first : (t : ExactTableau) → IsFirstTableau p t → IsFirstTableau q t
  same_first t first = record {
    over_one = first.over_one;
    entries = λ i j hi hj. first.entries i j (omega (arith, same.rows)) (omega (arith, same_width)) ∙ same_entry i j (omega (arith, same.rows)) (omega (arith, same_width));
    slacks = λ i hi. first.slacks i (omega (arith, same.rows));
  }

  pub same_shape : (t : Stage) → IsShapedFor p t → IsShapedFor q t
  same_shape t shape = record { rows = shape.rows ∙ same.rows; width = shape.width ∙ same_width }

  pub same_limits : IsWithinLimits p → IsWithinLimits q
  same_limits limits = record {
    rows_at_most = omega (arith, limits.rows_at_most, same.rows);
    cols_at_most = omega (arith, limits.cols_at_most, same.cols);
    a_bounded = λ i j hi hj. let li : i < p.rows = omega (arith, same.rows) in let lj : j < p.cols = omega (arith, same.cols) in
        subst (λ z. unsigned_abs z ≤ largest_entry) (same.a i j li lj) (limits.a_bounded i j li lj);
    b_bounded = λ i hi. let li : i < p.rows = omega (arith, same.rows) in subst (λ z. unsigned_abs z ≤ largest_entry) (same.b i li) (limits.b_bounded i li);
    c_bounded = λ j hj. let lj : j < p.cols = omega (arith, same.cols) in subst (λ z. unsigned_abs z ≤ largest_entry) (same.c j lj) (limits.c_bounded j lj);
    b_not_negative = λ i hi. let li : i < p.rows = omega (arith, same.rows) in subst (λ z. pos 0 ≤ℤ z) (same.b i li) (limits.b_not_negative i li);
  }

  same_reaches : {k : ℕ} {t : ExactTableau} → IsTableauAfter p k t → IsTableauAfter q k t
  same_reaches (begins {t} first) = begins (same_first t first)
  same_reaches (pivots {k} {t} {u} {r} {c} before within entering leaving pivot) =
      pivots (same_reaches before) (move (λ rows width. IsWithinWidth rows width t) within) (move (λ rows width. IsEntering rows width t c) entering)
      (move (λ rows width. IsLeaving rows width t c r) leaving) (move (λ rows width. IsPivot rows width t r c u) pivot)

  same_reading : (t : ExactTableau) (f : ℕ → ℤ) (c : ℕ) (z : ℤ) (y : ℕ → ℕ) → IsReadAt p.rows p.cols t f c z y → IsReadAt q.rows q.cols t f c z y
  same_reading t f c z y h = subst (λ n. IsReadAt q.rows n t f c z y) same.cols (subst (λ n. IsReadAt n p.cols t f c z y) same.rows h)

  pub same_outcome : (o : Outcome) → IsOutcome p o → IsOutcome q o
  same_outcome (Optimal pair) e = record {
    steps = e.steps;
    last = e.last;
    reached = same_reaches e.reached;
    within = move (λ rows width. IsWithinWidth rows width e.last) e.within;
    optimal = move (λ rows width. IsOptimal rows width e.last) e.optimal;
    den = e.den;
    y_listed = subst (λ n. IsListing n pair.y) same.cols e.y_listed;
    y_at = same_reading e.last (λ i. e.last.at i 0) 0 (pos 0) (numerator_at pair.y) e.y_at;
    x_length = e.x_length ∙ same.rows;
    x_at = move (λ rows _. (s : ℕ) → s < rows → pos (slice_index pair.x s) ≡ e.last.at rows (suc s)) e.x_at;
  }
  same_outcome (Unbounded den point ray) e = record {
    steps = e.steps;
    last = e.last;
    column = e.column;
    reached = same_reaches e.reached;
    within = move (λ rows width. IsWithinWidth rows width e.last) e.within;
    entering = move (λ rows width. IsEntering rows width e.last e.column) e.entering;
    unbounded = move (λ rows _. IsUnbounded rows e.last e.column) e.unbounded;
    same_den = e.same_den;
    point_listed = subst (λ n. IsListing n point) same.cols e.point_listed;
    point_at = same_reading e.last (λ i. e.last.at i 0) 0 (pos 0) (numerator_at point) e.point_at;
    ray_listed = subst (λ n. IsListing n ray) same.cols e.ray_listed;
    ray_at = same_reading e.last (λ i. neg_ℤ (e.last.at i e.column)) e.column (pos e.last.den) (numerator_at ray) e.ray_at;
  }
  same_outcome (Wide step) e = record {
    steps = e.steps;
    last = e.last;
    reached = same_reaches e.reached;
    passes = λ w. e.passes (subst (λ rows. IsWithinWidth rows (width_of p) e.last) (sym same.rows) (subst (λ width. IsWithinWidth q.rows width e.last) (sym same_width) w));
    step_is = e.step_is;
  }

-- tableau 0 of a program is tableau 0 of the program that is read from it, with the same room
pub ready : (p : LinearProgram) (t : Stage) → IsFirstTableau p (exact t) → HasFirstEntries p t.columns → IsShapedFor p t → IsWithinLimits p → (room : Room) (rows cols : ℕ) → rows ≡ p.rows → cols ≡ p.cols → HasRooms room rows cols → IsReady t room
ready p t first entries shape limits room rows cols rows_are cols_are rooms =
    let q = program_in t.columns in
    let same : IsSameProgram p q = read_same p t entries shape in
    record {
      first = same_first p q same (exact t) first;
      shape = same_shape p q same t shape;
      limits = same_limits p q same limits;
      rooms = subst (λ n. HasRooms room q.rows n) (cols_are ∙ same.cols) (subst (λ n. HasRooms room n cols) (rows_are ∙ same.rows) rooms);
    }
