-- How the observations below a new budget, and strictly below it, are found: from where the walks to them start
-- (after Varian 1982). No definition and no public clause rests on these words.
use Rattle.std.specs.Prelude.{◌≡◌, ◌<◌, ℕ, Bool, List, length}
use Rattle.rp_pref.specs.Closure.{EqualsOrReachesIn, Reached}
use Rattle.rp_evidence.specs.Marks.{AreMarked, IsMarked}

-- One truth value for each of n observations, and no more: whether P holds of it.
pub record MarksEach (n : ℕ) (P : ℕ → Type 0) (marks : List Bool) : Type 0 where
  pub one_each : length marks ≡ n
  pub each : AreMarked n P marks

-- Some start is t, or reaches it.
abbrev pub IsReachedFrom : Reached → List Bool → ℕ → Type 0
IsReachedFrom reached starts t =
    (s : ℕ) × (s < reached.n) × IsMarked starts s × EqualsOrReachesIn reached s t
