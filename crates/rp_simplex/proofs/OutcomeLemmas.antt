-- How the run ends, from what the code's calls give.
use Rattle.std.proofs.Common.{◌≡◌, ℕ, suc, ◌+◌, ◌-◌, ◌^◌, ◌<◌, min, List, length, slice_index, ℤ, pos, neg_ℤ, refl, ◌∙◌, subst, arith}
use Rattle.rp_farkas.specs.declared.entry.Entry.{Entry}
use Rattle.rp_farkas.specs.LinearProgram.{LinearProgram}
use Rattle.rp_farkas.specs.Limits.{IsWithinLimits}
use Rattle.rp_farkas.specs.Listing.{IsListing, numerator_at}
use Rattle.rp_simplex.specs.declared.stage.Stage.{Stage}
use Rattle.rp_simplex.specs.Choice.{IsEntering, IsOptimal, IsLeaving, IsUnbounded}
use Rattle.rp_simplex.specs.Width.{IsWithinWidth}
use Rattle.rp_simplex.specs.InnerPivot.{PivotPasses}
use Rattle.rp_simplex.specs.InnerStage.{exact}
use Rattle.rp_simplex.specs.Readout.{IsReadAt}
use Rattle.rp_simplex.specs.Outcome.{EndsOptimal, EndsUnbounded, EndsPastWidth}
use Rattle.rp_simplex.proofs.Runs.{IsAt, reshape, unshape, within, reaches_next}

module _ (p : LinearProgram) (limits : IsWithinLimits p) (t : Stage) (step cols : ℕ) (here : IsAt p t step) (cols_are : cols ≡ p.cols) where
  -- a reading of this shape is one of the program's
  read_there : (f : ℕ → ℤ) (c : ℕ) (z : ℤ) (y : ℕ → ℕ) → IsReadAt t.rows cols (exact t) f c z y → IsReadAt p.rows p.cols (exact t) f c z y
  read_there f c z y h = subst (λ n. IsReadAt p.rows n (exact t) f c z y) cols_are (reshape (λ rows _. IsReadAt rows cols (exact t) f c z y) p t here.shape h)

  pub ends_optimal : (y : List Entry) (x : List ℕ) → IsOptimal t.rows t.width (exact t) → IsListing cols y → IsReadAt t.rows cols (exact t) (λ i. (exact t).at i 0) 0 (pos 0) (numerator_at y)
      → length x ≡ t.rows → ((s : ℕ) → s < t.rows → pos (slice_index x s) ≡ (exact t).at t.rows (suc s)) → EndsOptimal p (record { den = t.den; y = y; x = x })
  ends_optimal y x optimal listed read len prices = record {
    steps = here.steps;
    last = exact t;
    reached = here.reached;
    within = within p limits t step here;
    optimal = reshape (λ rows width. IsOptimal rows width (exact t)) p t here.shape optimal;
    den = refl;
    y_listed = subst (λ n. IsListing n y) cols_are listed;
    y_at = read_there (λ i. (exact t).at i 0) 0 (pos 0) (numerator_at y) read;
    x_length = len ∙ here.shape.rows;
    x_at = reshape (λ rows _. (s : ℕ) → s < rows → pos (slice_index x s) ≡ (exact t).at rows (suc s)) p t here.shape prices;
  }

  pub ends_unbounded : (c : ℕ) (point ray : List Entry) → IsEntering t.rows t.width (exact t) c → IsUnbounded t.rows (exact t) c
      → IsListing cols point → IsReadAt t.rows cols (exact t) (λ i. (exact t).at i 0) 0 (pos 0) (numerator_at point)
      → IsListing cols ray → IsReadAt t.rows cols (exact t) (λ i. neg_ℤ ((exact t).at i c)) c (pos t.den) (numerator_at ray) → EndsUnbounded p t.den point ray
  ends_unbounded c point ray entering unbounded point_listed point_read ray_listed ray_read = record {
    steps = here.steps;
    last = exact t;
    column = c;
    reached = here.reached;
    within = within p limits t step here;
    entering = reshape (λ rows width. IsEntering rows width (exact t) c) p t here.shape entering;
    unbounded = reshape (λ rows _. IsUnbounded rows (exact t) c) p t here.shape unbounded;
    same_den = refl;
    point_listed = subst (λ n. IsListing n point) cols_are point_listed;
    point_at = read_there (λ i. (exact t).at i 0) 0 (pos 0) (numerator_at point) point_read;
    ray_listed = subst (λ n. IsListing n ray) cols_are ray_listed;
    ray_at = read_there (λ i. neg_ℤ ((exact t).at i c)) c (pos t.den) (numerator_at ray) ray_read;
  }

pub next_count : (step steps next : ℕ) → step ≡ min steps (2 ^ 64 - 1) → next ≡ min (step + 1) (2 ^ 64 - 1) → next ≡ min (suc steps) (2 ^ 64 - 1)
next_count step steps next e f = omega arith

pub passes_width : (p : LinearProgram) → (limits : IsWithinLimits p) → (t : Stage) (step next c r : ℕ) (here : IsAt p t step) → IsEntering t.rows t.width (exact t) c → IsLeaving t.rows t.width (exact t) c r
    → PivotPasses t.rows t.width (exact t) r c → next ≡ min (suc here.steps) (2 ^ 64 - 1) → EndsPastWidth p next
passes_width p limits t step next c r here entering leaving passes counted = record {
  steps = suc here.steps;
  last = passes.next;
  reached = reaches_next p limits t step here c r t entering leaving passes.next passes.pivot;
  passes = λ w. passes.passes (unshape (λ rows width. IsWithinWidth rows width passes.next) p t here.shape w);
  step_is = counted;
}
