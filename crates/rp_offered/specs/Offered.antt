-- What choices spent of the budgets that were offered, where each budget line of two goods is told by its intercepts and
-- the prices of a table are these exchanged: the price of each good is the intercept of the other (this project's own
-- report). The share that a choice spent is x/a + y/b, where a and b are the intercepts of the goods and x and y what was
-- chosen of them.
use Rattle.std.specs.Prelude.{ℕ, zero, suc, ◌+◌, ◌-◌, ◌*◌, ◌/◌, ◌^◌, ◌≤◌, Bool, nat_lt, min, if◌then◌else◌}
use Rattle.rp_limits.specs.declared.table.TheConstants.{DECIMAL_PLACES}
use Rattle.rp_table.specs.Tables.{Observations, price_of, quantity_of, records_of}
use Rattle.rp_offered.specs.declared.offered.Offer.{Offer}
use Rattle.rp_offered.specs.declared.offered.Offered.{Offered}
use Rattle.rp_offered.specs.declared.offered.Places.{Places}

-- decimal places that the numbers of a table may have
pub record AreFew (places : Places) : Type 0 where
  pub prices : places.prices ≤ DECIMAL_PLACES
  pub quantities : places.quantities ≤ DECIMAL_PLACES

-- numbers that leave room for their products
pub record IsSmall (o : Offer) : Type 0 where
  pub a : o.a ≤ 20000000000000
  pub b : o.b ≤ 20000000000000
  pub x : o.x ≤ 20000000000000
  pub y : o.y ≤ 20000000000000

-- a scaled number in halves of the last of so many decimal places, where its own scale has some of them. A number that is
-- rounded to these places lies at most one such half from what it was
abbrev pub halves : ℕ → ℕ → ℕ → ℕ
halves places own n = 2 * n * 10 ^ (places - own)

-- what was offered and chosen at observation t, in halves of the last decimal place of all prices and of all quantities
abbrev pub offer_at : Places → Observations → ℕ → Offer
offer_at places table t = record {
  a = halves places.prices table.price_places (price_of table t 1);
  b = halves places.prices table.price_places (price_of table t 0);
  x = halves places.quantities table.quantity_places (quantity_of table t 0);
  y = halves places.quantities table.quantity_places (quantity_of table t 1);
}

-- whether the share was below 1 whatever the numbers were before they were rounded: it is so with the most of each good and
-- the least of each intercept
abbrev pub costs_less : Places → Offer → Bool
costs_less places o =
    nat_lt (((o.x + 1) * (o.b - 1) + (o.y + 1) * (o.a - 1)) * 10 ^ places.prices)
    ((o.a - 1) * (o.b - 1) * 10 ^ places.quantities)

-- whether it was above 1 whatever they were: it is so with the least of each good and the most of each intercept
abbrev pub costs_more : Places → Offer → Bool
costs_more places o =
    nat_lt ((o.a + 1) * (o.b + 1) * 10 ^ places.quantities)
    (((o.x - 1) * (o.b + 1) + (o.y - 1) * (o.a + 1)) * 10 ^ places.prices)

-- how many of f 0, .., f (n - 1) hold
abbrev pub count_below : ℕ → (ℕ → Bool) → ℕ
count_below zero f = 0
count_below (suc n) f = count_below n f + (if f n then 1 else 0)

-- the least of f 0, .., f (n - 1), where n is not 0
abbrev pub least_below : ℕ → (ℕ → ℕ) → ℕ
least_below zero f = f 0
least_below (suc n) f = min (least_below n f) (f n)

-- how many whole millionths of what was offered the choice of observation t spent
abbrev pub share_millionths : Observations → ℕ → ℕ
share_millionths table t =
    (quantity_of table t 0 * price_of table t 0 + quantity_of table t 1 * price_of table t 1) * 10 ^ table.price_places * 1000000
    / (price_of table t 1 * price_of table t 0 * 10 ^ table.quantity_places)

-- the least share, rounded down, and how many choices cost less and more than was offered by more than rounding explains
abbrev pub offered_of : Places → Observations → Offered
offered_of places table = record {
  least = least_below (records_of table) (share_millionths table);
  below = count_below (records_of table) (λ t. costs_less places (offer_at places table t));
  over = count_below (records_of table) (λ t. costs_more places (offer_at places table t));
}
