-- The trial table of a seed: prices and quantities by successive words of its generator. How words become prices and
-- quantities is this project's own.
use Rattle.std.specs.Prelude.{ℕ, ◌+◌, ◌*◌, ◌%◌, List, [], ◌++◌, codes}
use Rattle.std.specs.Fmt.{decimal}
use Rattle.rp_power.specs.Words.{after_words, generator_of, word_after}
use Rattle.rand_pcg.specs.Lcg.{Lcg}
use Rattle.rp_num.specs.Below.{listed, rows_below}
use Rattle.rp_power.specs.DrawnNumbers.{drawn_numbers}
use Rattle.rp_table.specs.Tables.{Observations}

-- the price of good g of a record whose words come from there on: 1 to 99
abbrev pub trial_price : Lcg → ℕ → ℕ
trial_price generator g = 1 + word_after generator g % 99

-- the quantity of each good of a record, by the words after those of the prices: 0 to 99, and 1 of the first good where
-- all are 0
abbrev pub trial_quantity : ℕ → Lcg → ℕ → ℕ
trial_quantity goods generator = drawn_numbers goods (λ g. word_after generator (goods + g))

-- the generator from which record t is drawn: each record before it took a word for each price and for each quantity
abbrev pub record_generator : ℕ → ℕ → ℕ → Lcg
record_generator seed goods t = after_words (generator_of seed) (t * (goods + goods))

-- g1, g2, ..
abbrev pub good_name : ℕ → List ℕ
good_name g = codes "g" ++ decimal (g + 1)

-- the table of a seed with so many records and goods
abbrev pub trial_of : ℕ → ℕ → ℕ → Observations
trial_of seed rows goods = record {
  names = listed goods good_name;
  prices = rows_below rows goods (λ t. trial_price (record_generator seed goods t));
  quantities = rows_below rows goods (λ t. trial_quantity goods (record_generator seed goods t));
  price_places = 0;
  quantity_places = 0;
  levels = [];
}
