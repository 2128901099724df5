-- For the proofs alone: what a search for shortest walks from one observation keeps, one number of steps after another.
-- No public clause cites these words.
use Rattle.std.specs.Prelude.{◌≡◌, ◌≢◌, ◌<◌, ◌≤◌, ◌+◌, ◌*◌, ◌==◌, ◌⊎◌, ℕ, Bool, true, false, List, IsTrue, length}
use Rattle.std.specs.Prelude.{slice_index, slice_index_or, count_by}
use Rattle.rp_evidence.specs.Walk.{IsWalk}

-- There is a step from s to t in a table of truth values for n observations, by start and then by end.
abbrev pub IsStepIn : List Bool → ℕ → ℕ → ℕ → Type 0
IsStepIn table n s t = IsTrue (slice_index_or table (s * n + t) false)

-- A depth other than 0 is the number of steps of a walk from s, whose last step comes from the one noted before.
pub record AreDepths (table : List Bool) (n s : ℕ) (depths before : List ℕ) : Type 0 where
  pub depth_each : length depths ≡ n
  pub before_each : length before ≡ n
  pub first : (t : ℕ) → t < n → slice_index depths t ≡ 1 → IsStepIn table n s t
  pub later_below : (t : ℕ) → t < n → 1 < slice_index depths t → slice_index before t < n
  pub later_depth : (t : ℕ) → t < n → 1 < slice_index depths t
      → slice_index depths (slice_index before t) + 1 ≡ slice_index depths t
  pub later_step : (t : ℕ) → t < n → 1 < slice_index depths t → IsStepIn table n (slice_index before t) t

-- What is noted before an observation of a depth above 1 is an observation of one depth less.
pub record LeadBack (n : ℕ) (depths before : List ℕ) : Type 0 where
  pub depth_each : length depths ≡ n
  pub before_each : length before ≡ n
  pub later_below : (t : ℕ) → t < n → 1 < slice_index depths t → slice_index before t < n
  pub later_depth : (t : ℕ) → t < n → 1 < slice_index depths t
      → slice_index depths (slice_index before t) + 1 ≡ slice_index depths t

-- p is noted as the last before t, or t has the depth 1 and p is the start s.
abbrev pub IsNoted : ℕ → List ℕ → List ℕ → ℕ → ℕ → Type 0
IsNoted s depths before p t =
    ((slice_index depths t ≡ 1) × (p ≡ s)) ⊎ ((1 < slice_index depths t) × (p ≡ slice_index before t))

-- Some observations without a depth got this one, and no other depth changed.
abbrev pub AddsDepth : ℕ → ℕ → List ℕ → List ℕ → Type 0
AddsDepth n depth old new =
    (t : ℕ) → t < n → (slice_index new t ≡ slice_index old t) ⊎ ((slice_index old t ≡ 0) × (slice_index new t ≡ depth))

-- How many observations have no depth.
abbrev pub left_of : List ℕ → ℕ
left_of depths = count_by (λ d. d == 0) depths

-- If any was found, fewer observations are left; else nothing changed.
pub record FindsMore (found : Bool) (old new : List ℕ) : Type 0 where
  pub fewer : found ≡ true → left_of new < left_of old
  pub same : found ≡ false → new ≡ old

-- Each of the first observations to which there is a step from u has a depth.
abbrev pub IsLookedFrom : List Bool → ℕ → ℕ → ℕ → List ℕ → Type 0
IsLookedFrom table n u end depths = (t : ℕ) → t < end → IsStepIn table n u t → slice_index depths t ≢ 0

-- Each of the first observations that has this depth was looked from.
abbrev pub AreLookedFrom : List Bool → ℕ → ℕ → ℕ → List ℕ → Type 0
AreLookedFrom table n depth end depths = (u : ℕ) → u < end → slice_index depths u ≡ depth
    → IsLookedFrom table n u n depths

-- Every observation that a walk of at most this many steps, and at least one, reaches from s has a depth, and no such
-- walk there is shorter.
abbrev pub AreLeastUpTo : List Bool → ℕ → ℕ → ℕ → List ℕ → Type 0
AreLeastUpTo table n s most depths =
    (t : ℕ) (walk : List ℕ) → IsWalk n (IsStepIn table n) s t walk → 1 < length walk → length walk ≤ most + 1
    → (0 < slice_index depths t) × (slice_index depths t < length walk)

-- Every observation that a walk of one or more steps reaches from s has a depth, and no walk there is shorter.
abbrev pub AreLeastDepths : List Bool → ℕ → ℕ → List ℕ → Type 0
AreLeastDepths table n s depths =
    (t : ℕ) (walk : List ℕ) → IsWalk n (IsStepIn table n) s t walk → 1 < length walk
    → (0 < slice_index depths t) × (slice_index depths t < length walk)

-- Looking from u has come as far as end: what was noted is sound, got one depth more than u, and leaves none out.
pub record LooksFrom (table : List Bool) (n s u end : ℕ) (old new before : List ℕ) (found : Bool) : Type 0 where
  pub sound : AreDepths table n s new before
  pub adds : AddsDepth n (slice_index old u + 1) old new
  pub looked : IsLookedFrom table n u end new
  pub finds : FindsMore found old new

-- Each of the first observations that has this depth was looked from: what was noted is sound and got one depth more.
pub record Deepens (table : List Bool) (n s depth end : ℕ) (old new before : List ℕ) (found : Bool) : Type 0 where
  pub sound : AreDepths table n s new before
  pub adds : AddsDepth n (depth + 1) old new
  pub looked : AreLookedFrom table n depth end new
  pub finds : FindsMore found old new

-- The search has gone as deep as this.
pub record GoesTo (table : List Bool) (n s depth : ℕ) (depths before : List ℕ) : Type 0 where
  pub sound : AreDepths table n s depths before
  pub walked : 0 < depth
  pub deepest : (t : ℕ) → t < n → slice_index depths t ≤ depth
  pub least : AreLeastUpTo table n s depth depths
  pub spent : depth + left_of depths ≤ n + 1

-- The depth of each of the first observations: 1 where there is a step to it from s, else 0.
abbrev pub AreFirst : List Bool → ℕ → ℕ → ℕ → List ℕ → Type 0
AreFirst table n s end depths =
    (t : ℕ) → t < end → ((slice_index depths t ≡ 1) × IsStepIn table n s t)
    ⊎ ((slice_index depths t ≡ 0) × ¬ IsStepIn table n s t)
