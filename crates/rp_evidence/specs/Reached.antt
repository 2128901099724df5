-- Which observations reach which (the transitive closure of revealed preference, Varian 1982): what a closure is seen
-- as, however it is kept.
use Rattle.std.specs.Prelude.{◌≡◌, ◌<◌, ◌↔◌, ◌⊎◌, ℕ, Bool, false, List, [], IsTrue, map, slice_index_or}
use Rattle.std.specs.List.{range_with_len}
use Rattle.rp_evidence.specs.Input.{TableInput}
use Rattle.rp_evidence.specs.Preference.{IsWeak}
use Rattle.rp_evidence.specs.Walk.{Reaches}

-- For n observations a row of n truth values for each.
pub record Reached : Type 0 where
  pub n : ℕ
  pub rows : List (List Bool)

-- The function of two observations, tabulated below n.
abbrev pub reached_by : ℕ → (ℕ → ℕ → Bool) → Reached
reached_by n f = record { n = n; rows = map (λ s. map (f s) (range_with_len 0 n)) (range_with_len 0 n) }

-- The truth value of the pair s, t.
abbrev pub reaches_in : Reached → ℕ → ℕ → Bool
reaches_in reached s t = slice_index_or (slice_index_or reached.rows s []) t false

-- By the truth values s equals or reaches t.
abbrev pub EqualsOrReachesIn : Reached → ℕ → ℕ → Type 0
EqualsOrReachesIn reached s t = (s ≡ t) ⊎ IsTrue (reaches_in reached s t)

-- The pairs are exactly those that walks of one or more steps join.
pub record IsClosureOf (reached : Reached) (n : ℕ) (step : ℕ → ℕ → Type 0) : Type 0 where
  pub size : reached.n ≡ n
  pub exact : (s t : ℕ) → s < n → t < n → IsTrue (reaches_in reached s t) ↔ Reaches n step s t

-- The closure is that of the weak steps of a table: its pairs are those that reach.
abbrev pub IsWeakClosureOf : Reached → TableInput → Type 0
IsWeakClosureOf reached input = IsClosureOf reached input.n (IsWeak input.cost)
