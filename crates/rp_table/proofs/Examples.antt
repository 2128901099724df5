-- The definitions, tried at a table of two goods and two observations: prices (1,2) and bundle (1,2),
-- then prices (2,1) and bundle (2,1).
use Rattle.std.proofs.Common.{◌≡◌, ◌*◌, List, ℕ, [], ◌∷◌, refl}
use Rattle.rp_table.specs.Tables.{Observations, records_of, price_of, bundle_size, level_of}
use Rattle.rp_table.specs.Cost.{CostTable, cost_at, cost_of, own_of, scale_of}

abbrev contradiction : Observations
contradiction = record {
  names = (97 ∷ []) ∷ (98 ∷ []) ∷ [];
  prices = 1 ∷ 2 ∷ 2 ∷ 1 ∷ [];
  quantities = 1 ∷ 2 ∷ 2 ∷ 1 ∷ [];
  price_places = 0;
  quantity_places = 0;
  levels = [];
}

two_observations : records_of contradiction ≡ 2
two_observations = refl

first_price_of_the_second : price_of contradiction 1 0 ≡ 2
first_price_of_the_second = refl

own_cost : cost_of contradiction 0 0 ≡ 5
own_cost = refl

other_cost : cost_of contradiction 0 1 ≡ 4
other_cost = refl

bought_in_all : bundle_size contradiction 1 ≡ 3
bought_in_all = refl

whole_without_levels : level_of contradiction 0 ≡ 1000
whole_without_levels = refl

-- its costs, with levels or none
abbrev held_to : List ℕ → CostTable
held_to levels = record { n = 2; entries = 5 ∷ 4 ∷ 4 ∷ 5 ∷ []; levels = levels }

no_scale_without_levels : scale_of (held_to []) ≡ 1
no_scale_without_levels = refl

all_without_levels : own_of (held_to []) 0 ≡ 5
all_without_levels = refl

first_level_of_the_first : own_of (held_to (800 ∷ 1000 ∷ [])) 0 ≡ 4000
first_level_of_the_first = refl

as_much_as_the_other : scale_of (held_to (800 ∷ 1000 ∷ [])) * cost_at (held_to (800 ∷ 1000 ∷ [])) 0 1 ≡ 4000
as_much_as_the_other = refl
