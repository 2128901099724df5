-- The definitions, tried at a table of two goods and two observations: prices (1,2) and bundle (1,2), then prices (2,1)
-- and bundle (2,1).
use Rattle.std.proofs.Common.{◌≡◌, [], ◌∷◌, refl}
use Rattle.rp_table.specs.Tables.{Observations}
use Rattle.rp_table.specs.Cost.{cost_of}
use Rattle.rp_power.specs.DrawnTable.{drawn_table}

abbrev two_budgets : Observations
two_budgets = record {
  names = (97 ∷ []) ∷ (98 ∷ []) ∷ [];
  prices = 1 ∷ 2 ∷ 2 ∷ 1 ∷ [];
  quantities = 1 ∷ 2 ∷ 2 ∷ 1 ∷ [];
  price_places = 0;
  quantity_places = 0;
  levels = [];
}

-- all of each expenditure on the good that costs more there
abbrev dear : Observations
dear = drawn_table two_budgets (0 ∷ 1 ∷ 1 ∷ 0 ∷ [])

dear_bundles : dear.quantities ≡ 0 ∷ 2 ∷ 2 ∷ 0 ∷ []
dear_bundles = refl

dear_costs : cost_of dear 0 0 ∷ cost_of dear 0 1 ∷ cost_of dear 1 0 ∷ cost_of dear 1 1 ∷ [] ≡ 4 ∷ 2 ∷ 2 ∷ 4 ∷ []
dear_costs = refl

-- words modulo 100, and the first share 1 where all are 0
abbrev cheap : Observations
cheap = drawn_table two_budgets (101 ∷ 0 ∷ 100 ∷ 7 ∷ [])

cheap_bundles : cheap.quantities ≡ 5 ∷ 0 ∷ 0 ∷ 5 ∷ []
cheap_bundles = refl

cheap_costs : cost_of cheap 0 0 ∷ cost_of cheap 0 1 ∷ cost_of cheap 1 0 ∷ cost_of cheap 1 1 ∷ [] ≡ 5 ∷ 10 ∷ 10 ∷ 5 ∷ []
cheap_costs = refl

-- where no share buys a whole unit, 1 of the first good
nothing_bought : (drawn_table (record {
  names = (97 ∷ []) ∷ (98 ∷ []) ∷ [];
  prices = 1 ∷ 9 ∷ [];
  quantities = 1 ∷ 0 ∷ [];
  price_places = 0;
  quantity_places = 0;
  levels = [];
}) (0 ∷ 5 ∷ [])).quantities ≡ 1 ∷ 0 ∷ []
nothing_bought = refl

-- a quantity is cut at its limit
cut : (drawn_table (record {
  names = (97 ∷ []) ∷ (98 ∷ []) ∷ [];
  prices = 1 ∷ 2 ∷ [];
  quantities = 0 ∷ 9999999 ∷ [];
  price_places = 0;
  quantity_places = 0;
  levels = [];
}) (1 ∷ 0 ∷ [])).quantities ≡ 9999999 ∷ 0 ∷ []
cut = refl
