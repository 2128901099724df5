-- The outcomes that the run allows are one, and what they show.
use Rattle.std.proofs.Common.{◌≡◌, ℕ, suc, ◌+◌, ◌-◌, ◌^◌, ◌<◌, min, List, slice_index, ℤ, pos, neg_ℤ, inl, inr, refl, sym, ◌∙◌, ap, subst, arith}
use Rattle.std.specs.Int.RustNames.{unsigned_abs}
use Rattle.std.proofs.lemmas.Bool.{cases_eq}
use Rattle.std.proofs.lemmas.List.Elements.{All-from_get_or}
use borrow.Author.Differences.{up}
use Rattle.rp_farkas.specs.declared.entry.Entry.{Entry}
use Rattle.rp_farkas.specs.declared.entry.Pair.{Pair}
use Rattle.rp_farkas.specs.LinearProgram.{LinearProgram}
use Rattle.rp_farkas.specs.Limits.{IsWithinLimits}
use Rattle.rp_farkas.specs.Listing.{numerator_at}
use Rattle.rp_farkas.specs.Point.{IsFeasiblePoint}
use Rattle.rp_farkas.specs.EqualPair.{IsEqualPair}
use Rattle.rp_farkas.specs.Ray.{IsRay}
use Rattle.rp_farkas.proofs.Duality.{best_point, best_prices, no_bound}
use Rattle.rp_simplex.specs.declared.outcome.Outcome.{Outcome}
use Rattle.rp_simplex.specs.declared.outcome.Outcome.TheVariants.{Optimal, Unbounded, Wide}
use Rattle.rp_simplex.specs.ExactTableau.{ExactTableau, width_of}
use Rattle.rp_simplex.specs.Choice.{IsUnbounded}
use Rattle.rp_simplex.specs.Readout.{IsReadAt}
use Rattle.rp_simplex.specs.Outcome.{EndsOptimal, EndsUnbounded, EndsPastWidth, IsOutcome}
use Rattle.rp_simplex.specs.SameOutcome.{IsSamePair, IsSameRay, IsSameOutcome}
use Rattle.rp_simplex.specs.Evidence.{IsEvidence}
use Rattle.rp_simplex.proofs.Sound.{IsSound}
use Rattle.rp_simplex.proofs.Steps.{reached_sound}
use Rattle.rp_simplex.proofs.ReadoutLemmas.{find_below, point_feasible, is_ray, equal_pair}
use Rattle.rp_simplex.proofs.Determined.{IsSame, Stops, one_end, entering_same, not_optimal, not_unbounded, within_same, turned}

itself : (rows width : ℕ) (t : ExactTableau) → IsSame rows width t t
itself rows width t = record { den = refl; entries = λ i j hi hj. refl; basis = λ i hi. refl }

optimal_stops : (p : LinearProgram) (pair : Pair) (e : EndsOptimal p pair) → Stops p e.steps e.last
optimal_stops p pair e = record { reached = e.reached; no_pivot = λ c r w h k. not_optimal p.rows (width_of p) e.last e.last (itself p.rows (width_of p) e.last) c h e.optimal }

unbounded_stops : (p : LinearProgram) (den : ℕ) (point ray : List Entry) (e : EndsUnbounded p den point ray) → Stops p e.steps e.last
unbounded_stops p den point ray e = record {
  reached = e.reached;
  no_pivot = λ c r w h k.
      let same = itself p.rows (width_of p) e.last in
      let column : c ≡ e.column = entering_same p.rows (width_of p) e.last e.last same c e.column h e.entering in
      not_unbounded p.rows (width_of p) e.last e.last same c r h.in_width k (subst (IsUnbounded p.rows e.last) (sym column) e.unbounded);
}

wide_stops : (p : LinearProgram) (step : ℕ) (e : EndsPastWidth p step) → Stops p e.steps e.last
wide_stops p step e = record { reached = e.reached; no_pivot = λ c r w h k. e.passes w }

-- two readings of one tableau are one
read_same : (rows cols : ℕ) (t u : ExactTableau) (f g : ℕ → ℤ) (c d : ℕ) (z w : ℤ) (y x : ℕ → ℕ) → ((i : ℕ) → i < rows → t.basis i ≡ u.basis i) → ((i : ℕ) → i < rows → f i ≡ g i) → c ≡ d → z ≡ w
    → IsReadAt rows cols t f c z y → IsReadAt rows cols u g d w x → (j : ℕ) → j < cols → y j ≡ x j
read_same rows cols t u f g c d z w y x basis same column number a b j hj = elim (find_below rows t.basis (suc (rows + j))) [
  | inl i ↦ ap up (a.basic j i.0 hj i.1 i.2 ∙ same i.0 i.1 ∙ sym (b.basic j i.0 hj i.1 (sym (basis i.0 i.1) ∙ i.2)))
  | inr none ↦ elim (cases_eq c (suc (rows + j))) [
    | inl e ↦ ap up (a.entering j hj e ∙ number ∙ sym (b.entering j hj (sym column ∙ e)))
    | inr ne ↦ a.others j hj none ne ∙ sym (b.others j hj (λ i hi q. none i hi (basis i hi ∙ q)) (λ q. ne (column ∙ q)))
  ]
]

optimal_same : (p : LinearProgram) (a b : Pair) → IsWithinLimits p → EndsOptimal p a → EndsOptimal p b → IsSamePair p a b
optimal_same p a b limits e f =
    let same = (one_end p limits (optimal_stops p a e) (optimal_stops p b f)).1 in
    record {
      den = e.den ∙ same.den ∙ sym f.den;
      point = read_same p.rows p.cols e.last f.last (λ i. e.last.at i 0) (λ i. f.last.at i 0) 0 0 (pos 0) (pos 0) (numerator_at a.y) (numerator_at b.y) same.basis (λ i hi. same.entries i 0 (omega arith) (omega arith)) refl refl e.y_at f.y_at;
      prices = λ s hs. ap up (e.x_at s hs ∙ same.entries p.rows (suc s) (omega arith) (omega arith) ∙ sym (f.x_at s hs));
    }

unbounded_same : (p : LinearProgram) (d e : ℕ) (y z r s : List Entry) → IsWithinLimits p → EndsUnbounded p d y r → EndsUnbounded p e z s → IsSameRay p d e y z r s
unbounded_same p d e y z r s limits a b =
    let same = (one_end p limits (unbounded_stops p d y r a) (unbounded_stops p e z s b)).1 in
    let column : a.column ≡ b.column = entering_same p.rows (width_of p) a.last b.last same a.column b.column a.entering b.entering in
    record {
      den = a.same_den ∙ same.den ∙ sym b.same_den;
      point = read_same p.rows p.cols a.last b.last (λ i. a.last.at i 0) (λ i. b.last.at i 0) 0 0 (pos 0) (pos 0) (numerator_at y) (numerator_at z) same.basis (λ i hi. same.entries i 0 (omega arith) (omega arith)) refl refl a.point_at b.point_at;
      ray = read_same p.rows p.cols a.last b.last (λ i. neg_ℤ (a.last.at i a.column)) (λ i. neg_ℤ (b.last.at i b.column)) a.column b.column (pos a.last.den) (pos b.last.den) (numerator_at r) (numerator_at s) same.basis
          (λ i hi. ap neg_ℤ (same.entries i a.column (omega arith) a.entering.in_width ∙ ap (b.last.at i) column)) column (ap pos same.den) a.ray_at b.ray_at;
    }

wide_same : (p : LinearProgram) (m n : ℕ) → IsWithinLimits p → EndsPastWidth p m → EndsPastWidth p n → m ≡ n
wide_same p m n limits a b =
    let steps : a.steps ≡ b.steps = (one_end p limits (wide_stops p m a) (wide_stops p n b)).0 in
    a.step_is ∙ ap (λ k. min k (2 ^ 64 - 1)) steps ∙ sym b.step_is

optimal_or_unbounded : (p : LinearProgram) (a : Pair) (d : ℕ) (y r : List Entry) → IsWithinLimits p → EndsOptimal p a → EndsUnbounded p d y r → ⊥
optimal_or_unbounded p a d y r limits e f =
    let same = (one_end p limits (optimal_stops p a e) (unbounded_stops p d y r f)).1 in
    not_optimal p.rows (width_of p) f.last e.last (turned p.rows (width_of p) e.last f.last same) f.column f.entering e.optimal

optimal_or_wide : (p : LinearProgram) (a : Pair) (n : ℕ) → IsWithinLimits p → EndsOptimal p a → EndsPastWidth p n → ⊥
optimal_or_wide p a n limits e f =
    let same = (one_end p limits (optimal_stops p a e) (wide_stops p n f)).1 in
    f.passes (within_same p.rows (width_of p) e.last f.last same e.within)

unbounded_or_wide : (p : LinearProgram) (d : ℕ) (y r : List Entry) (n : ℕ) → IsWithinLimits p → EndsUnbounded p d y r → EndsPastWidth p n → ⊥
unbounded_or_wide p d y r n limits e f =
    let same = (one_end p limits (unbounded_stops p d y r e) (wide_stops p n f)).1 in
    f.passes (within_same p.rows (width_of p) e.last f.last same e.within)

pub outcome_same : (p : LinearProgram) (a b : Outcome) → IsWithinLimits p → IsOutcome p a → IsOutcome p b → IsSameOutcome p a b
outcome_same p (Optimal a) (Optimal b) limits e f = optimal_same p a b limits e f
outcome_same p (Unbounded d y r) (Unbounded k z s) limits e f = unbounded_same p d k y z r s limits e f
outcome_same p (Wide m) (Wide n) limits e f = wide_same p m n limits e f
outcome_same p (Optimal a) (Unbounded d y r) limits e f = optimal_or_unbounded p a d y r limits e f
outcome_same p (Optimal a) (Wide n) limits e f = optimal_or_wide p a n limits e f
outcome_same p (Unbounded d y r) (Optimal a) limits e f = optimal_or_unbounded p a d y r limits f e
outcome_same p (Unbounded d y r) (Wide n) limits e f = unbounded_or_wide p d y r n limits e f
outcome_same p (Wide n) (Optimal a) limits e f = optimal_or_wide p a n limits f e
outcome_same p (Wide n) (Unbounded d y r) limits e f = unbounded_or_wide p d y r n limits f e

-- ---- what an outcome shows
pub outcome_shows : (p : LinearProgram) (o : Outcome) → IsWithinLimits p → IsOutcome p o → IsEvidence p o
outcome_shows p (Optimal pair) limits e =
    let sound : IsSound p e.last = reached_sound p limits e.reached in
    let there : IsEqualPair p e.last.den (numerator_at pair.y) (slice_index pair.x) = equal_pair p e.last (numerator_at pair.y) (slice_index pair.x) sound e.optimal e.y_at e.x_at in
    let pair_is : IsEqualPair p pair.den (numerator_at pair.y) (slice_index pair.x) = subst (λ d. IsEqualPair p d (numerator_at pair.y) (slice_index pair.x)) (sym e.den) there in (
      record {
        den_positive = subst (λ d. 0 < d) (sym e.den) sound.den_positive;
        den_fits = subst (λ d. d < 2 ^ 63) (sym e.den) e.within.den_fits;
        y_listed = e.y_listed;
        x_length = e.x_length;
        x_fits = All-from_get_or (λ v. v < 2 ^ 63) pair.x 0 (λ s l.
            subst (λ z. unsigned_abs z < 2 ^ 63) (sym (e.x_at s (omega (arith, e.x_length)))) (e.within.entries_fit p.rows (suc s) (omega arith) (omega (arith, e.x_length))));
        equal = pair_is;
      },
      best_point p pair.den (numerator_at pair.y) (slice_index pair.x) pair_is,
      best_prices p pair.den (numerator_at pair.y) (slice_index pair.x) pair_is,
    )
outcome_shows p (Unbounded den point ray) limits e =
    let sound : IsSound p e.last = reached_sound p limits e.reached in
    let feasible : IsFeasiblePoint p den (numerator_at point) = subst (λ d. IsFeasiblePoint p d (numerator_at point)) (sym e.same_den) (point_feasible p e.last sound (numerator_at point) e.point_at) in
    let ray_is : IsRay p (numerator_at ray) = is_ray p e.last sound e.column (numerator_at ray) e.entering e.unbounded e.ray_at in (
      record {
        den_positive = subst (λ d. 0 < d) (sym e.same_den) sound.den_positive;
        den_fits = subst (λ d. d < 2 ^ 63) (sym e.same_den) e.within.den_fits;
        point_listed = e.point_listed;
        ray_listed = e.ray_listed;
        feasible = feasible;
        is_ray = ray_is;
      },
      no_bound p den (numerator_at point) (numerator_at ray) feasible ray_is,
    )
outcome_shows p (Wide step) limits e = tt

-- the three clauses of a result that is the run's outcome
pub whole : (p : LinearProgram) (o : Outcome) → IsWithinLimits p → IsOutcome p o → record { outcome : IsOutcome p o; only : (other : Outcome) → IsOutcome p other → IsSameOutcome p o other; evidence : IsEvidence p o }
whole p o limits e = record { outcome = e; only = λ other f. outcome_same p o other limits e f; evidence = outcome_shows p o limits e }
