-- The purchases of the example: two goods, bought twice, each time more of the one that cost more.
use Rattle.std.specs.Prelude.{[], ◌∷◌, codes}
use Rattle.rp_table.specs.Tables.{Observations}

-- bread and wine at 1 and 2, of which 1 and 2 were bought, and then at 2 and 1, of which 2 and 1 were
abbrev pub purchases : Observations
purchases = record {
  names = codes "bread" ∷ codes "wine" ∷ [];
  prices = 1 ∷ 2 ∷ 2 ∷ 1 ∷ [];
  quantities = 1 ∷ 2 ∷ 2 ∷ 1 ∷ [];
  price_places = 0;
  quantity_places = 0;
  levels = [];
}
