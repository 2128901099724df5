-- Sums over the steps of walks (arithmetic).
use Rattle.std.specs.Prelude.{ℕ, ◌+◌, List, [], ◌∷◌}

-- The sum of the numbers f t s over the steps from t to the first of the list, and so on.
abbrev pub steps_sum : (ℕ → ℕ → ℕ) → ℕ → List ℕ → ℕ
steps_sum f t [] = 0
steps_sum f t (s ∷ rest) = f t s + steps_sum f s rest

-- The sum of the numbers f t s over the steps of a walk.
abbrev pub walk_sum : (ℕ → ℕ → ℕ) → List ℕ → ℕ
walk_sum f [] = 0
walk_sum f (t ∷ rest) = steps_sum f t rest

-- Over the steps of a walk, the sum of what the next bundle costs, c(t,s).
abbrev pub next_sum : (ℕ → ℕ → ℕ) → List ℕ → ℕ
next_sum c walk = walk_sum c walk

-- Over the steps of a walk, the sum of what was spent, c(t,t).
abbrev pub spent_sum : (ℕ → ℕ → ℕ) → List ℕ → ℕ
spent_sum c walk = walk_sum (λ t s. c t t) walk
