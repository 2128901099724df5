-- The definitions, tried at a technology of two observations: output 1 at price 5 from inputs (2,1) at prices (1,2), and
-- output 2 at price 4 from inputs (2,2) at prices (2,1); and at one that uses (3,3) where (1,1) makes as much.
use Rattle.std.proofs.Common.{◌≡◌, ◌<◌, ◌≤◌, ◌*◌, ℕ, zero, suc, pos, [], ◌∷◌, refl, slice_index, arith}
use Rattle.std.proofs.lemmas.Int.{ints}
use Rattle.rp_evidence.specs.Input.{input_of_table}
use Rattle.rp_table.specs.Cost.{cost_of}
use Rattle.rp_table.specs.Spending.{spending}
use Rattle.rp_table.specs.Tables.{Observations, price_of}
use Rattle.rp_producers.specs.CostAxiom.{BreaksCostAxiom, MeetsCostAxiom}
use Rattle.rp_producers.specs.OuterSet.{IsInOuterSet}
use Rattle.rp_producers.specs.ProfitAxiom.{BreaksProfitAxiom, profit}
use Rattle.rp_cost.specs.Technology.{Technology}

abbrev two : Technology
two = record {
  table = record {
    names = (97 ∷ []) ∷ (98 ∷ []) ∷ [];
    prices = 1 ∷ 2 ∷ 2 ∷ 1 ∷ [];
    quantities = 2 ∷ 1 ∷ 2 ∷ 2 ∷ [];
    price_places = 0;
    quantity_places = 0;
    levels = [];
  };
  y = 1 ∷ 2 ∷ [];
  p = 5 ∷ 4 ∷ [];
}

-- inputs are of least cost: the first spent 4, and the second's inputs cost 6 at its prices
minimises : MeetsCostAxiom 2 (cost_of two.table) (slice_index two.y)
minimises zero zero t_in s_in more = omega arith
minimises zero (suc zero) t_in s_in more = omega arith
minimises (suc zero) zero t_in s_in more = absurd (omega (arith, more))
minimises (suc zero) (suc zero) t_in s_in more = omega arith
minimises zero (suc (suc s)) t_in s_in more = absurd (omega (arith, s_in))
minimises (suc zero) (suc (suc s)) t_in s_in more = absurd (omega (arith, s_in))
minimises (suc (suc t)) s t_in s_in more = absurd (omega (arith, t_in))

-- but the first made a profit of 1, where the second's inputs and output would have made 4
own_profit : profit (cost_of two.table) (slice_index two.y) (slice_index two.p) 0 0 ≡ pos 1
own_profit = refl

other_profit : profit (cost_of two.table) (slice_index two.y) (slice_index two.p) 0 1 ≡ pos 4
other_profit = refl

breaks_profit : BreaksProfitAxiom (cost_of two.table) (slice_index two.y) (slice_index two.p) 0 1
breaks_profit = omega (arith, ints, own_profit, other_profit)

-- the output 1: inputs (0,4) over 2 cost what the first spent, and (0,3) over 2 less
enough : IsInOuterSet (input_of_table two.table) (slice_index two.y) 1 (record { den = 2; num = slice_index (0 ∷ 4 ∷ []) })
enough = record { fraction = omega arith; dear = dear }
  where
    dear : (t : ℕ) → t < 2 → slice_index two.y t ≤ 1 → 2 * cost_of two.table t t ≤ spending 2 (price_of two.table t) (slice_index (0 ∷ 4 ∷ []))
    dear zero t_in made = omega arith
    dear (suc zero) t_in made = absurd (omega (arith, made))
    dear (suc (suc t)) t_in made = absurd (omega (arith, t_in))

too_little : ¬ IsInOuterSet (input_of_table two.table) (slice_index two.y) 1 (record { den = 2; num = slice_index (0 ∷ 3 ∷ []) })
too_little inside = let h = inside.dear 0 (omega arith) (omega arith) in absurd (omega (arith, h))

-- the observation that used less of both inputs for as much output breaks the axiom of the other
abbrev wasteful : Observations
wasteful = record {
  names = (97 ∷ []) ∷ (98 ∷ []) ∷ [];
  prices = 1 ∷ 1 ∷ 1 ∷ 1 ∷ [];
  quantities = 3 ∷ 3 ∷ 1 ∷ 1 ∷ [];
  price_places = 0;
  quantity_places = 0;
  levels = [];
}

breaks_cost : BreaksCostAxiom (cost_of wasteful) (slice_index (1 ∷ 1 ∷ [])) 0 1
breaks_cost = (omega arith, omega arith)
