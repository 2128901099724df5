-- The minimum cost index, tried at two observations that contradict each other: one step that costs 1 of 10.
use Rattle.std.proofs.Common.{◌≡◌, ◌<◌, ◌≤◌, ◌*◌, ℕ, zero, suc, Bool, true, false, List, [], ◌∷◌, refl, sym, arith, slice_index, slice_index_or}
use Rattle.std.proofs.lemmas.Bool.{false≢true}
use Rattle.rp_fit.specs.Steps.{CostsAtLeast, IsEnough, IsLeastStepsCost, IsLeft, IsMinimumCostIndex, taken_cost}
use Rattle.rp_fit.proofs.FallingRanks.{no_closed_walk_under_ranks}

abbrev costs : List (List ℕ) → ℕ → ℕ → ℕ
costs rows s t = slice_index (slice_index_or rows s []) t

abbrev contradiction : ℕ → ℕ → ℕ
contradiction = costs ((5 ∷ 4 ∷ []) ∷ (4 ∷ 5 ∷ []) ∷ [])

-- the step from the first to the second
there : ℕ → ℕ → Bool
there zero (suc zero) = true
there s t = false

there_is_enough : IsEnough 2 contradiction there
unfolding there
there_is_enough = no_closed_walk_under_ranks 2 (IsLeft contradiction there) (1 ∷ 2 ∷ []) falls
  where
    falls : (s t : ℕ) → s < 2 → t < 2 → IsLeft contradiction there s t → slice_index (1 ∷ 2 ∷ []) t < slice_index (1 ∷ 2 ∷ []) s
    falls zero zero a b h = absurd (omega (arith, h.0))
    falls zero (suc zero) a b h = absurd (false≢true (sym h.1))
    falls (suc zero) zero a b h = omega arith
    falls (suc zero) (suc zero) a b h = absurd (omega (arith, h.0))
    falls zero (suc (suc t)) a b h = absurd (omega arith)
    falls (suc zero) (suc (suc t)) a b h = absurd (omega arith)
    falls (suc (suc s)) t a b h = absurd (omega arith)

there_costs_one : taken_cost 2 contradiction there ≡ 1
unfolding there
there_costs_one = refl

nothing : ℕ → ℕ → Bool
nothing s t = false

nothing_is_not_enough : ¬ IsEnough 2 contradiction nothing
unfolding nothing
nothing_is_not_enough enough =
    enough (0 ∷ 1 ∷ 0 ∷ []) (0, (refl, (omega arith, (omega arith, refl), (omega arith, (omega arith, refl), (omega arith, refl)))), omega arith)

one_is_least : CostsAtLeast 2 contradiction 1 1
one_is_least taken enough = go (taken 0 1) (taken 1 0) refl refl
  where
    go : (a b : Bool) → taken 0 1 ≡ a → taken 1 0 ≡ b → 1 ≤ 1 * taken_cost 2 contradiction taken
    go true b e f = rw e (omega arith)
    go false true e f = rw f (omega arith)
    go false false e f =
        absurd (enough (0 ∷ 1 ∷ 0 ∷ []) (0, (refl, (omega arith, (omega arith, e), (omega arith, (omega arith, f), (omega arith, refl)))), omega arith))

least_cost : IsLeastStepsCost 2 contradiction 1
least_cost = record { reached = (there, there_is_enough, there_costs_one); least = one_is_least }

one_tenth : IsMinimumCostIndex 2 contradiction 1 10
one_tenth = record { positive = omega arith; cost = 1; least = least_cost; part = refl }
