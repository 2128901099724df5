-- Least totals over walks of at most k steps and of any length (Bellman 1958; Ford 1956), and which of them fit (this
-- project's own).
use Rattle.std.specs.Prelude.{List, [], ◌∷◌, ◌≡◌, ℕ, ◌-◌, ◌<◌, ◌≤◌, ◌⊎◌}
use Rattle.rp_walk.specs.ExactTotal.{ExactTotal, IsLess, SameTotal}
use Rattle.rp_walk.specs.Walk.{TotalRule, IsTotal}

-- The number x is the least total of those walks that end at s after up to k steps.
pub record IsLeastWithin (w : TotalRule) (k s : ℕ) (x : ExactTotal) : Type 0 where
  pub reached : (j : ℕ) × (y : ExactTotal) × (j ≤ k) × IsTotal w j s y × SameTotal y x
  pub lowest : (j : ℕ) (y : ExactTotal) → j ≤ k → IsTotal w j s y → ¬ (IsLess y x)

-- The number x is the least total of all walks that end at s, however long.
pub record IsLeast (w : TotalRule) (s : ℕ) (x : ExactTotal) : Type 0 where
  pub reached : (j : ℕ) × (y : ExactTotal) × IsTotal w j s y × SameTotal y x
  pub lowest : (j : ℕ) (y : ExactTotal) → IsTotal w j s y → ¬ (IsLess y x)

-- What fits is a matter of the number alone.
abbrev pub FitsAlike : (ExactTotal → Type 0) → Type 0
FitsAlike fits = (x y : ExactTotal) → SameTotal x y → fits x → fits y

-- The total x at s over k steps is less than that of every walk to s with fewer steps.
abbrev pub IsLessThanShorter : TotalRule → ℕ → ℕ → ExactTotal → Type 0
IsLessThanShorter w k s x = (j : ℕ) (y : ExactTotal) → j < k → IsTotal w j s y → IsLess x y

-- A step from t after at most k steps can matter: k is 0, or the least total to t over at most k steps
-- is less than that over at most k - 1.
abbrev pub IsLive : TotalRule → ℕ → ℕ → Type 0
IsLive w k t =
    (k ≡ 0) ⊎ ((x y : ExactTotal) × IsLeastWithin w k t x × IsLeastWithin w (k - 1) t y × IsLess x y)

-- Below round `count`, a step that can matter takes the least total to t out of what fits.
pub record IsTooWide (w : TotalRule) (fits : ExactTotal → Type 0) (k t s : ℕ) : Type 0 where
  pub round_within : k < w.count
  pub from_within : t < w.count
  pub to_within : s < w.count
  pub live : IsLive w k t
  pub not_fit : (x : ExactTotal) × IsLeastWithin w k t x × (¬ (fits (w.after x t s)))

-- Triples in the order of k, then t, then s.
abbrev pub TripleComesBefore : ℕ → ℕ → ℕ → ℕ → ℕ → ℕ → Type 0
TripleComesBefore k t s k' t' s' = (k < k') ⊎ ((k ≡ k') × ((t < t') ⊎ ((t ≡ t') × (s < s'))))

-- The first triple that is too wide.
pub record IsFirstTooWide (w : TotalRule) (fits : ExactTotal → Type 0) (k t s : ℕ) : Type 0 where
  pub too_wide : IsTooWide w fits k t s
  pub none_before : (k' t' s' : ℕ) → TripleComesBefore k' t' s' k t s → ¬ (IsTooWide w fits k' t' s')

-- No triple is too wide.
abbrev pub NoneTooWide : TotalRule → (ExactTotal → Type 0) → Type 0
NoneTooWide w fits = (k t s : ℕ) → ¬ (IsTooWide w fits k t s)

-- Each step of a walk from s, with the total x at its beginning, fits.
abbrev pub StepsFitAlong : TotalRule → (ExactTotal → Type 0) → ExactTotal → ℕ → List ℕ → Type 0
StepsFitAlong w fits x s [] = Unit {0}
StepsFitAlong w fits x s (t ∷ rest) = (¬ (¬ (fits (w.after x s t)))) × StepsFitAlong w fits (w.after x s t) t rest

-- The same, of a walk as the list of its observations.
abbrev pub WalkFits : TotalRule → (ExactTotal → Type 0) → ExactTotal → List ℕ → Type 0
WalkFits w fits x [] = Unit {0}
WalkFits w fits x (s ∷ rest) = StepsFitAlong w fits x s rest
