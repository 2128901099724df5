-- Numbers that are not all 0, and that a drawn table is a table.
use Rattle.std.proofs.Common.{◌≡◌, ◌≢◌, ℕ, zero, suc, ◌+◌, ◌*◌, ◌/◌, ◌%◌, ◌<◌, ◌≤◌, ◌==◌, ◌&&◌, Bool, true, false, inl, [], List, ◌++◌, length, get_or, set, refl, sym, ap, ◌∙◌, subst, arith, lit≤, add-one, if◌then◌else◌}
use Rattle.std.specs.List.{All}
use Rattle.std.proofs.lemmas.Nat.{div-add-mod', div_below, mod_below}
use Rattle.std.proofs.Math.Dec.{eqb-suc-zero}
use Rattle.std.proofs.lemmas.List.{ext_get_or, length-set, get_or-set_same, get_or-set_other}
use Rattle.rp_num.specs.Below.{listed, rows_below}
use Rattle.rp_num.proofs.BelowLemmas.{length-listed, listed-same, get-listed}
use Rattle.rp_num.proofs.RowsBelow.{length-rows, row_number, all_rows, all_listed}
use Rattle.rp_table.proofs.SumsBelow.{sum_at_least, sum_below-same}
use Rattle.rp_table.specs.Sums.{sum_below}
use Rattle.rp_table.specs.Tables.{Observations, IsTable, goods_of, records_of, quantity_of}
use Rattle.rp_power.specs.DrawnNumbers.{not_all_zero}
use Rattle.rp_power.specs.DrawnTable.{bought_of, drawn_quantity, drawn_table, budget_share_of}

-- a list is that of its numbers
pub listed-self : (xs : List ℕ) → xs ≡ listed (length xs) (λ k. get_or xs k 0)
listed-self xs =
    ext_get_or 0 xs (listed (length xs) (λ k. get_or xs k 0)) (sym (length-listed (λ k. get_or xs k 0) (length xs)))
    (λ k within. sym (get-listed (λ i. get_or xs i 0) (length xs) k 0 within))

-- ---- not all 0

-- where some number is not 0, all are as they are
pub as_they_are : (goods : ℕ) (number : ℕ → ℕ) → sum_below goods number ≢ 0 → listed goods number ≡ listed goods (not_all_zero goods number)
as_they_are goods number some = ap (listed goods) (λ i g. as_it_is g i)
  where
    not_zero : (n : ℕ) → n ≢ 0 → (n == 0) ≡ false
    not_zero zero some = absurd (some refl)
    not_zero (suc n) some = eqb-suc-zero n

    as_it_is : (g : ℕ) → number g ≡ not_all_zero goods number g
    as_it_is g = rw (not_zero (sum_below goods number) some) refl

-- where all are 0, the first becomes 1
pub first_is_one : (goods : ℕ) (number : ℕ → ℕ) → sum_below goods number ≡ 0 → 1 ≤ goods → set (listed goods number) 0 1 ≡ listed goods (not_all_zero goods number)
first_is_one goods number none some =
    let row = listed goods number in
    let count = length-listed number goods in
    ext_get_or 0 (set row 0 1) (listed goods (not_all_zero goods number)) (length-set row 0 1 ∙ count ∙ sym (length-listed (not_all_zero goods number) goods))
    (λ g inside.
    let within : g < goods = omega (arith, length-set row 0 1, count) in
    each g within ∙ sym (get-listed (not_all_zero goods number) goods g 0 within))
  where
    each : (g : ℕ) → g < goods → get_or (set (listed goods number) 0 1) g 0 ≡ not_all_zero goods number g
    each zero within = get_or-set_same (listed goods number) 0 1 0 (omega (arith, length-listed number goods)) ∙ sym (rw none refl)
    each (suc g) within = get_or-set_other (listed goods number) 0 (suc g) 1 0 (omega arith) ∙ get-listed number goods (suc g) 0 within ∙ sym (rw (none, eqb-suc-zero g) refl)

-- numbers of which one is not 0 have a sum of 1 or more
pub not_all_zero_sum : (goods : ℕ) (number : ℕ → ℕ) → 1 ≤ goods → 1 ≤ sum_below goods (not_all_zero goods number)
not_all_zero_sum goods number some = at (sum_below goods number) refl
  where
    first : sum_below goods number ≡ 0 → not_all_zero goods number 0 ≡ 1
    first none = rw none refl

    as_it_is : (n : ℕ) → sum_below goods number ≡ suc n → (g : ℕ) → number g ≡ not_all_zero goods number g
    as_it_is n is g = rw (is, eqb-suc-zero n) refl

    at : (n : ℕ) → sum_below goods number ≡ n → 1 ≤ sum_below goods (not_all_zero goods number)
    at zero none = omega (arith, sum_at_least (not_all_zero goods number) goods 0 some, first none)
    at (suc n) is = let same = sum_below-same number (not_all_zero goods number) goods (λ g below. as_it_is n is g) in omega arith

-- the same numbers stay the same
pub not_all_zero_same : (goods : ℕ) (f h : ℕ → ℕ) → ((g : ℕ) → g < goods → f g ≡ h g) → (g : ℕ) → g < goods → not_all_zero goods f g ≡ not_all_zero goods h g
not_all_zero_same goods f h same g within = rw (sum_below-same f h goods same, same g within) refl

-- each number is within a limit of 1 or more
pub not_all_zero_within : (most goods : ℕ) (number : ℕ → ℕ) (g : ℕ) → 1 ≤ most → number g ≤ most → not_all_zero goods number g ≤ most
not_all_zero_within most goods number g some within = at ((sum_below goods number == 0) && (g == 0))
  where
    at : (b : Bool) → (if b then 1 else number g) ≤ most
    at true = some
    at false = within

-- a list of them, made from a list
pub left : (goods : ℕ) (f : ℕ → ℕ) (row made : List ℕ) → row ≡ listed goods f → made ≡ listed (length row) (not_all_zero (length row) (λ k. get_or row k 0)) → made ≡ listed goods (not_all_zero goods f)
left goods f row made so is =
    let count : length row ≡ goods = ap length so ∙ length-listed f goods in
    let each : (g : ℕ) → g < goods → get_or row g 0 ≡ f g = λ g within. ap (λ l. get_or l g 0) so ∙ get-listed f goods g 0 within in
    is ∙ ap (λ n. listed n (not_all_zero n (λ k. get_or row k 0))) count
    ∙ listed-same (not_all_zero goods (λ k. get_or row k 0)) (not_all_zero goods f) goods (not_all_zero_same goods (λ k. get_or row k 0) f each)

-- a list of numbers that are all 0, with 1 in the first place
pub zero_row : (row made : List ℕ) → made ≡ set row 0 1 → sum_below (length row) (λ k. get_or row k 0) ≡ 0 → 1 ≤ length row → made ≡ listed (length row) (not_all_zero (length row) (λ k. get_or row k 0))
zero_row row made is none some = is ∙ ap (λ l. set l 0 1) (listed-self row) ∙ first_is_one (length row) (λ k. get_or row k 0) none some

-- a list of numbers that are not all 0
pub other_row : (row : List ℕ) → sum_below (length row) (λ k. get_or row k 0) ≢ 0 → row ≡ listed (length row) (not_all_zero (length row) (λ k. get_or row k 0))
other_row row some = listed-self row ∙ as_they_are (length row) (λ k. get_or row k 0) some

-- ---- shares

pub share_small : (table : Observations) (words : List ℕ) (t g : ℕ) → budget_share_of table words t g < 100
share_small table words t g =
    let within = not_all_zero_within 99 (goods_of table) (λ h. get_or words (t * goods_of table + h) 0 % 100) g (lit≤ tt) (omega (arith, mod_below (get_or words (t * goods_of table + g) 0) 100 (lit≤ tt))) in
    omega (arith, within)

pub shares_small : (table : Observations) (words : List ℕ) (t : ℕ) (row : List ℕ) → row ≡ listed (goods_of table) (budget_share_of table words t) → All (λ share. share < 100) row
shares_small table words t row is =
    subst (All (λ share. share < 100)) (sym is) (all_listed (λ share. share < 100) (goods_of table) (budget_share_of table words t) (λ g within. share_small table words t g))

-- ---- listed numbers

pub count_of : (f : ℕ → ℕ) (n : ℕ) (row : List ℕ) → row ≡ listed n f → length row ≡ n
count_of f n row so = ap length so ∙ length-listed f n

-- the number that is read at a place
pub read_at : (f : ℕ → ℕ) (n k read : ℕ) (row : List ℕ) → row ≡ listed n f → k < n → read ≡ get_or row k read → read ≡ f k
read_at f n k read row so within is = is ∙ ap (λ l. get_or l k read) so ∙ get-listed f n k read within

-- their sum
pub total_of : (f : ℕ → ℕ) (n total : ℕ) (row : List ℕ) → row ≡ listed n f → total ≡ sum_below (length row) (λ k. get_or row k 0) → total ≡ sum_below n f
total_of f n total row so is =
    is ∙ ap (λ m. sum_below m (λ k. get_or row k 0)) (count_of f n row so)
    ∙ sum_below-same (λ k. get_or row k 0) f n (λ k within. ap (λ l. get_or l k 0) so ∙ get-listed f n k 0 within)

-- ---- rows

-- one more row
pub row_more : (k goods : ℕ) (f : ℕ → ℕ → ℕ) (rows row more : List ℕ) → rows ≡ rows_below k goods f → row ≡ listed goods (f k) → more ≡ rows ++ row → more ≡ rows_below (k + 1) goods f
row_more k goods f rows row more so here pushed = rw (pushed, so, here, add-one) refl

-- numbers row by row are the list of them
pub rows_whole : (n goods : ℕ) (xs : List ℕ) → 1 ≤ goods → length xs ≡ n * goods → rows_below n goods (λ t g. get_or xs (t * goods + g) 0) ≡ xs
rows_whole n goods xs some count =
    let f : ℕ → ℕ → ℕ = λ t g. get_or xs (t * goods + g) 0 in
    ext_get_or 0 (rows_below n goods f) xs (length-rows n goods f ∙ sym count)
    (λ k within.
    let inside : k < n * goods = omega (arith, length-rows n goods f) in
    subst (λ (i : ℕ). get_or (rows_below n goods f) i 0 ≡ get_or xs i 0) (div-add-mod' k goods)
    (row_number n goods f (k / goods) (k % goods) (div_below k goods n some inside) (mod_below k goods some)))

-- the numbers of one row
pub row_listed : (goods : ℕ) (f : ℕ → ℕ) (row : List ℕ) → length row ≡ goods → ((g : ℕ) → g < goods → get_or row g 0 ≡ f g) → row ≡ listed goods f
row_listed goods f row count each =
    listed-self row ∙ ap (λ n. listed n (λ k. get_or row k 0)) count ∙ listed-same (λ k. get_or row k 0) f goods each

-- ---- the table

pub drawn_is_table : (table : Observations) (words : List ℕ) → IsTable table → IsTable (drawn_table table words)
drawn_is_table table words is =
    let n = records_of table in
    let goods = goods_of table in
    let quantity = drawn_quantity table words in
    record {
      some_goods = is.some_goods;
      few_goods = is.few_goods;
      distinct = is.distinct;
      some_records = is.some_records;
      few_records = is.few_records;
      all_prices = is.all_prices;
      all_quantities = length-rows n goods quantity;
      price_limits = is.price_limits;
      quantity_limits = all_rows (λ q. q ≤ 9999999) n goods quantity (λ t g row good. not_all_zero_within 9999999 goods (bought_of table words t) g (lit≤ tt) (omega arith));
      bought = λ t row.
          let each : (g : ℕ) → g < goods → quantity t g ≡ quantity_of (drawn_table table words) t g = λ g good. sym (row_number n goods quantity t g row good) in
          let same = sum_below-same (quantity t) (quantity_of (drawn_table table words) t) goods each in
          let one = not_all_zero_sum goods (bought_of table words t) is.some_goods in
          omega arith;
      few_price_places = is.few_price_places;
      few_quantity_places = is.few_quantity_places;
      own_levels = inl refl;
    }

-- the lists that were made are those of the table
pub drawn_is : (table : Observations) (words : List ℕ) (names : List (List ℕ)) (prices quantities : List ℕ) (price_places quantity_places : ℕ) → names ≡ table.names → prices ≡ table.prices
    → quantities ≡ rows_below (records_of table) (goods_of table) (drawn_quantity table words) → price_places ≡ table.price_places → quantity_places ≡ table.quantity_places
    → record { names = names; prices = prices; quantities = quantities; price_places = price_places; quantity_places = quantity_places; levels = [] } ≡ drawn_table table words
drawn_is table words names prices quantities price_places quantity_places named priced bought price_scale quantity_scale =
    λ i. record { names = named i; prices = priced i; quantities = bought i; price_places = price_scale i; quantity_places = quantity_scale i; levels = [] }
