-- Small families of sets, by which the definitions of requirement sets and of production sets are tried (the notions of
-- Varian 1984).
use Rattle.std.specs.Prelude.{◌≡◌, ℕ, ◌+◌, ◌*◌, ◌≤◌, ◌⊎◌, [], ◌∷◌, slice_index}
use Rattle.rp_evidence.specs.Demand.{FractionBundle}

-- so much of the first input and so much of the second
abbrev pub inputs_of : ℕ → ℕ → FractionBundle
inputs_of first second = record { den = 1; num = slice_index (first ∷ second ∷ []) }

-- the two inputs make up the output
abbrev pub sum_suffices : ℕ → FractionBundle → Type 0
sum_suffices output x = output * x.den ≤ x.num 0 + x.num 1

-- one of the two inputs is 2 or more
abbrev pub either_suffices : ℕ → FractionBundle → Type 0
either_suffices output x = (2 * x.den ≤ x.num 0) ⊎ (2 * x.den ≤ x.num 1)

-- of the first input there is just 1
abbrev pub just_one_suffices : ℕ → FractionBundle → Type 0
just_one_suffices output x = x.num 0 ≡ x.den

-- there is an output
abbrev pub some_output : ℕ → FractionBundle → Type 0
some_output output x = 1 ≤ output
