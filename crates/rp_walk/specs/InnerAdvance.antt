-- For the proofs alone: what one step more from a round comes to. No public clause cites these words.
use Rattle.std.specs.Prelude.{◌≡◌, ℕ, ◌<◌, List, length, slice_index}
use Rattle.rp_walk.specs.ExactTotal.{ExactTotal}
use Rattle.rp_walk.specs.Walk.{TotalRule}
use Rattle.rp_walk.specs.InnerRounds.{IsNext, TriedFits, StepsFit, totals_of}
use Rattle.rp_walk.specs.declared.round.Advance.{Advance}
use Rattle.rp_walk.specs.declared.round.Advance.TheVariants.{Next, TooWide}

-- The round that comes after these values, where all steps that can matter fit.
pub record IsNextRound {V : Type 0} (w : TotalRule) (fits : ExactTotal → Type 0) (exact : V → ExactTotal)
    (values : List V) (from : List ℕ) (after : List V) (came : List ℕ) : Type 0 where
  pub values_len : length after ≡ w.count
  pub from_len : length came ≡ w.count
  pub next : IsNext w (totals_of exact w.empty values) (slice_index from) w.count (totals_of exact w.empty after)
      (slice_index came)
  pub fit : TriedFits w fits (totals_of exact w.empty values) (slice_index from) w.count

-- The first step that does not fit, in the order of the observations that it goes from and to.
pub record StopsAt {V : Type 0} (w : TotalRule) (fits : ExactTotal → Type 0) (exact : V → ExactTotal)
    (values : List V) (from : List ℕ) (t s : ℕ) : Type 0 where
  pub from_within : t < w.count
  pub to_within : s < w.count
  pub live : slice_index from t < w.count
  pub not_fit : ¬ (fits (w.after (totals_of exact w.empty values t) t s))
  pub fit_before : TriedFits w fits (totals_of exact w.empty values) (slice_index from) t
  pub fit_to_before : StepsFit w fits (totals_of exact w.empty values t) t s

-- What one step more from these values comes to.
abbrev pub IsAdvance : {V : Type 0} → TotalRule → (ExactTotal → Type 0) → (V → ExactTotal) → List V → List ℕ
    → Advance V → Type 0
IsAdvance w fits exact values from (Next next) = IsNextRound w fits exact values from next.values.items next.from.items
IsAdvance w fits exact values from (TooWide t s) = StopsAt w fits exact values from t s
