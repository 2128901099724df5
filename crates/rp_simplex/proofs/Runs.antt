-- Where the code's loop stands in the run.
use Rattle.std.proofs.Common.{◌≡◌, ◌≢◌, ℕ, suc, ◌-◌, ◌^◌, ◌<◌, min, pos, ◌*ℤ◌, ◌≤ℤ◌, inl, inr, sym, ◌∙◌, ap, subst, arith}
use Rattle.std.proofs.lemmas.Int.{ints}
use Rattle.std.proofs.lemmas.Bool.{cases_eq}
use Rattle.rp_farkas.specs.LinearProgram.{LinearProgram}
use Rattle.rp_farkas.specs.Limits.{IsWithinLimits}
use Rattle.rp_simplex.specs.declared.stage.Stage.{Stage}
use Rattle.rp_simplex.specs.ExactTableau.{ExactTableau, width_of}
use Rattle.rp_simplex.specs.FirstTableau.{IsFirstTableau}
use Rattle.rp_simplex.specs.Choice.{IsEntering, IsLeaving}
use Rattle.rp_simplex.specs.Width.{IsWithinWidth}
use Rattle.rp_simplex.specs.Pivot.{IsPivot}
use Rattle.rp_simplex.specs.Run.{IsTableauAfter, begins, pivots}
use Rattle.rp_simplex.specs.InnerStage.{exact, IsShapedFor}
use Rattle.rp_simplex.specs.InnerTableau.{HasDistinctBasis, HasNoTies}
use Rattle.rp_simplex.proofs.Linear.{delta-other}
use Rattle.rp_simplex.proofs.Sound.{IsSound}
use Rattle.rp_simplex.proofs.PivotSound.{objective_rises}
use Rattle.rp_simplex.proofs.ReadoutLemmas.{distinct, right_side}
use Rattle.rp_simplex.proofs.Steps.{reached_sound, no_tie}
use Rattle.rp_simplex.proofs.Ends.{distance, distance_falls}

-- the loop holds the run's tableau after some number of pivots, and counts them
pub record IsAt (p : LinearProgram) (t : Stage) (step : ℕ) : Type 0 where
  pub steps : ℕ
  pub reached : IsTableauAfter p steps (exact t)
  pub counted : step ≡ min steps (2 ^ 64 - 1)
  pub shape : IsShapedFor p t

pub starts : (p : LinearProgram) (t : Stage) → IsFirstTableau p (exact t) → IsShapedFor p t → IsAt p t 0
starts p t first shape = record { steps = 0; reached = begins first; counted = omega arith; shape = shape }

-- the columns of the program, from the sizes of tableau 0
pub cols_of : {p : LinearProgram} (t : Stage) → IsShapedFor p t → t.width - 1 - t.rows ≡ p.cols
cols_of t shape = omega (arith, shape.rows, shape.width)

-- every tableau in memory is within the width
pub within_width : (t : Stage) → IsWithinWidth t.rows t.width (exact t)
within_width t = record {
  den_fits = t.den_fits;
  entries_fit = t.entries_fit;
}

-- a fact of the tableau's shape is one of the program's
pub reshape : (P : ℕ → ℕ → Type 0) (p : LinearProgram) (t : Stage) → IsShapedFor p t → P t.rows t.width → P p.rows (width_of p)
reshape P p t shape h = subst (λ w. P p.rows w) shape.width (subst (λ r. P r t.width) shape.rows h)

pub unshape : (P : ℕ → ℕ → Type 0) (p : LinearProgram) (t : Stage) → IsShapedFor p t → P p.rows (width_of p) → P t.rows t.width
unshape P p t shape h = subst (λ w. P t.rows w) (sym shape.width) (subst (λ r. P r (width_of p)) (sym shape.rows) h)

module _ (p : LinearProgram) (limits : IsWithinLimits p) (t : Stage) (step : ℕ) (here : IsAt p t step) where
  pub sound : IsSound p (exact t)
  sound = reached_sound p limits here.reached

  pub distinct_basis : HasDistinctBasis t.rows (exact t)
  distinct_basis = unshape (λ rows _. HasDistinctBasis rows (exact t)) p t here.shape (λ i k hi hk e. elim (cases_eq i k) [
    | inl same ↦ same
    | inr ne ↦ absurd (distinct p (exact t) sound k i hk hi ne e)
  ])

  pub sides : (i : ℕ) → i < t.rows → pos 0 ≤ℤ (exact t).at i 0
  sides = unshape (λ rows _. (i : ℕ) → i < rows → pos 0 ≤ℤ (exact t).at i 0) p t here.shape
      (λ i hi. right_side (width_of p) ((exact t).at i) (sound.rows_positive i hi))

  pub no_ties : (c : ℕ) → HasNoTies t.rows t.width (exact t) c
  no_ties c = unshape (λ rows width. HasNoTies rows width (exact t) c) p t here.shape (λ i r hi hr ne positive same. no_tie p (exact t) i r c sound hi hr ne positive same)

  pub fresh : (c : ℕ) → IsEntering t.rows t.width (exact t) c → (i : ℕ) → i < t.rows → (exact t).basis i ≢ c
  fresh c entering = unshape (λ rows _. (i : ℕ) → i < rows → (exact t).basis i ≢ c) p t here.shape (λ i hi e.
      let there : IsEntering p.rows (width_of p) (exact t) c = reshape (λ rows width. IsEntering rows width (exact t) c) p t here.shape entering in
      let none : (exact t).at p.rows c ≡ pos 0 = ap ((exact t).at p.rows) (sym e) ∙ sound.unit p.rows i (omega arith) hi ∙ ap (λ z. z *ℤ pos t.den) (delta-other p.rows i (omega arith)) ∙ omega (arith, ints) in
      let n = there.negative in
      omega (arith, ints))

  pub within : IsWithinWidth p.rows (width_of p) (exact t)
  within = reshape (λ rows width. IsWithinWidth rows width (exact t)) p t here.shape (within_width t)

  module _ (c r : ℕ) (u : Stage) (entering : IsEntering t.rows t.width (exact t) c) (leaving : IsLeaving t.rows t.width (exact t) c r) where
    entering_there : IsEntering p.rows (width_of p) (exact t) c
    entering_there = reshape (λ rows width. IsEntering rows width (exact t) c) p t here.shape entering

    leaving_there : IsLeaving p.rows (width_of p) (exact t) c r
    leaving_there = reshape (λ rows width. IsLeaving rows width (exact t) c r) p t here.shape leaving

    -- one more pivot, to a tableau of any width
    pub reaches_next : (v : ExactTableau) → IsPivot t.rows t.width (exact t) r c v → IsTableauAfter p (suc here.steps) v
    reaches_next v pivot = pivots here.reached within entering_there leaving_there (reshape (λ rows width. IsPivot rows width (exact t) r c v) p t here.shape pivot)

    pub moves : (next_step : ℕ) → IsPivot t.rows t.width (exact t) r c (exact u) → u.rows ≡ t.rows → u.width ≡ t.width → next_step ≡ min (suc here.steps) (2 ^ 64 - 1) → IsAt p u next_step
    moves next_step pivot rows width counted = record {
      steps = suc here.steps;
      reached = reaches_next (exact u) pivot;
      counted = counted;
      shape = record { rows = rows ∙ here.shape.rows; width = width ∙ here.shape.width };
    }

    pub nearer : IsPivot t.rows t.width (exact t) r c (exact u) → u.rows ≡ t.rows → u.width ≡ t.width → distance u.rows u.width (exact u) < distance t.rows t.width (exact t)
    nearer pivot rows width =
        let there : IsPivot p.rows (width_of p) (exact t) r c (exact u) = reshape (λ rows width. IsPivot rows width (exact t) r c (exact u)) p t here.shape pivot in
        let rises = objective_rises p (exact t) r c (exact u) sound entering_there leaving_there there in
        let within_next : IsWithinWidth p.rows (width_of p) (exact u)
        = reshape (λ rows width. IsWithinWidth rows width (exact u)) p u (record { rows = rows ∙ here.shape.rows; width = width ∙ here.shape.width }) (within_width u) in
        let falls : distance p.rows (width_of p) (exact u) < distance p.rows (width_of p) (exact t)
        = distance_falls p.rows (width_of p) (exact t) (exact u) within within_next t.den_positive u.den_positive rises in
        subst (λ n. n < distance t.rows t.width (exact t)) (ap (λ n. distance n (width_of p) (exact u)) (sym (rows ∙ here.shape.rows)) ∙ ap (λ n. distance u.rows n (exact u)) (sym (width ∙ here.shape.width)))
        (subst (λ n. distance p.rows (width_of p) (exact u) < n) (ap (λ n. distance n (width_of p) (exact t)) (sym here.shape.rows) ∙ ap (λ n. distance t.rows n (exact t)) (sym here.shape.width)) falls)
