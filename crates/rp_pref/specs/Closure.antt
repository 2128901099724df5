-- What a closure counts (the counts: this program's own). What a closure is seen as stands where the checker has it too.
use Rattle.std.specs.Prelude.{◌≡◌, ◌<◌, ℕ, List, length, slice_index}
use Rattle.rp_evidence.specs.Count.{IsNumberOf}
pub use Rattle.rp_evidence.specs.Reached.{EqualsOrReachesIn, IsClosureOf, IsWeakClosureOf, Reached, reached_by, reaches_in}

-- How many observations the closure reaches from s, with s itself among them.
abbrev pub IsCountIn : Reached → ℕ → ℕ → Type 0
IsCountIn reached s k = IsNumberOf reached.n (EqualsOrReachesIn reached s) k

-- The list has that number of each observation.
pub record AreCounted (reached : Reached) (counts : List ℕ) : Type 0 where
  pub one_each : length counts ≡ reached.n
  pub each : (s : ℕ) → s < reached.n → IsCountIn reached s (slice_index counts s)
