-- Words of a generator one after another, and that a trial table is one.
use Rattle.std.proofs.Common.{◌≡◌, ◌≢◌, ℕ, ◌+◌, ◌*◌, ◌/◌, ◌%◌, ◌<◌, ◌≤◌, List, [], ◌∷◌, ◌++◌, drop, map, inl, refl, sym, ap, ◌∙◌, arith, lit<, lit≤, add-one}
use Rattle.std.proofs.lemmas.List.Elements.{All-nil, All-cons}
use Rattle.std.proofs.lemmas.Nat.{div-mul-add}
use Rattle.rp_table.specs.Limits.{IsPrice}
use Rattle.rp_table.proofs.SumsBelow.{sum_below-same}
use Rattle.std.specs.List.{All, AllPairs}
use Rattle.std.specs.Int.Digits.{digits_of}
use Rattle.std.specs.Fmt.{decimal}
use Rattle.std.proofs.lemmas.Fmt.{decimal_injective, decimal-digits_of, length-decimal-le}
use Rattle.rand_pcg.specs.Lcg.{Lcg}
use Rattle.rp_num.specs.Below.{listed, rows_below}
use Rattle.rp_power.proofs.WordLemmas.{word_later, words_later}
use Rattle.rp_num.proofs.BelowLemmas.{length-listed, get-listed}
use Rattle.rp_table.specs.Names.{IsName}
use Rattle.rp_limits.specs.declared.table.TheConstants.{RECORDS, GOODS}
use Rattle.rp_table.specs.Tables.{IsTable, records_of, quantity_of}
use Rattle.rp_num.proofs.RowsBelow.{length-rows, row_number, all_rows}
use Rattle.rp_power.specs.DrawnNumbers.{drawn_numbers, not_all_zero}
use Rattle.rp_power.proofs.DrawnLemmas.{not_all_zero_sum, not_all_zero_within}
use Rattle.rp_answers.specs.TrialTable.{trial_price, trial_quantity, record_generator, good_name, trial_of}
use Rattle.rp_power.specs.Words.{after_words, generator_of, word_after}

-- one more price
pub prices_more : (g here : Lcg) (k word price : ℕ) (row more : List ℕ) → row ≡ listed k (trial_price g) → here ≡ after_words g k → word ≡ word_after here 0 → price ≡ 1 + word % 99 → more ≡ row ++ price ∷ [] → more ≡ listed (k + 1) (trial_price g)
prices_more g here k word price row more so is drawn priced pushed =
    let at : word_after here 0 ≡ word_after g k = ap (λ (h : Lcg). word_after h 0) is ∙ word_later g k 0 ∙ (let e : k + 0 ≡ k = omega arith in ap (word_after g) e) in
    rw (pushed, so, priced, drawn, at, add-one) refl

-- one more quantity
abbrev pub quantity_at : Lcg → ℕ → ℕ
quantity_at g k = word_after g k % 100

pub quantities_more : (g here : Lcg) (k word quantity : ℕ) (row more : List ℕ) → row ≡ listed k (quantity_at g) → here ≡ after_words g k → word ≡ word_after here 0 → quantity ≡ word % 100 → more ≡ row ++ quantity ∷ [] → more ≡ listed (k + 1) (quantity_at g)
quantities_more g here k word quantity row more so is drawn measured pushed =
    let at : word_after here 0 ≡ word_after g k = ap (λ (h : Lcg). word_after h 0) is ∙ word_later g k 0 ∙ (let e : k + 0 ≡ k = omega arith in ap (word_after g) e) in
    rw (pushed, so, measured, drawn, at, add-one) refl

-- the name of one of few goods is a name
pub good_name_is : (g : ℕ) → g < 16 → IsName (good_name g)
good_name_is g few =
    let long = length-decimal-le 2 (g + 1) (lit< tt) (omega arith) (omega arith) in (
      omega arith,
      omega arith,
      All-cons (λ byte. 32 ≤ byte) 103 (decimal (g + 1)) (lit≤ tt) (rw (decimal-digits_of (g + 1) (omega arith) (omega arith)) (digits (digits_of 10 (g + 1)))),
    )
  where
    digits : (ds : List ℕ) → All (λ byte. 32 ≤ byte) (map (λ d. 48 + d) ds)
    digits [] = All-nil (λ byte. 32 ≤ byte)
    digits (d ∷ ds) = All-cons (λ byte. 32 ≤ byte) (48 + d) (map (λ d. 48 + d) ds) (omega arith) (digits ds)

-- no two goods have one name
names_distinct : (goods : ℕ) → goods ≤ 16 → AllPairs (λ a b. a ≢ b) (listed goods good_name)
names_distinct goods few i j d before within same =
    let count : j < goods = omega (arith, length-listed good_name goods) in
    let names : good_name i ≡ good_name j = sym (get-listed good_name goods i d (omega arith)) ∙ same ∙ get-listed good_name goods j d count in
    let is : i + 1 ≡ j + 1 = decimal_injective (i + 1) (j + 1) (omega arith) (omega arith) (ap (drop 1) names) in
    omega arith

-- a trial table is a table
pub trial_is_table : (seed rows goods : ℕ) → 1 ≤ rows → rows ≤ RECORDS → 1 ≤ goods → goods ≤ GOODS → IsTable (trial_of seed rows goods)
trial_is_table seed rows goods some_rows few_rows some_goods few_goods =
    let names = length-listed good_name goods in
    let price : ℕ → ℕ → ℕ = λ t. trial_price (record_generator seed goods t) in
    let quantity : ℕ → ℕ → ℕ = λ t. trial_quantity goods (record_generator seed goods t) in
    let count : records_of (trial_of seed rows goods) ≡ rows = rw (length-rows rows goods price, names) (whole_rows rows goods some_goods) in
    record {
      some_goods = omega arith;
      few_goods = omega arith;
      distinct = names_distinct goods few_goods;
      some_records = omega arith;
      few_records = omega arith;
      all_prices = rw (count, names) (length-rows rows goods price);
      all_quantities = rw (count, names) (length-rows rows goods quantity);
      price_limits = all_rows IsPrice rows goods price (λ t g row good. (omega arith, omega (arith, mod_small (word_after (record_generator seed goods t) g) 99 (lit≤ tt))));
      quantity_limits = all_rows (λ q. q ≤ 9999999) rows goods quantity (λ t g row good. not_all_zero_within 9999999 goods (λ i. word_after (record_generator seed goods t) (goods + i) % 100) g (lit≤ tt) (omega (arith, mod_small (word_after (record_generator seed goods t) (goods + g)) 100 (lit≤ tt))));
      bought = λ t row.
          let here : t < rows = omega arith in
          let each : (g : ℕ) → g < goods → quantity t g ≡ quantity_of (trial_of seed rows goods) t g = λ g good. rw names (sym (row_number rows goods quantity t g here good)) in
          let same = sum_below-same (quantity t) (quantity_of (trial_of seed rows goods) t) goods each in
          let one = not_all_zero_sum goods (λ i. word_after (record_generator seed goods t) (goods + i) % 100) some_goods in
          rw names (omega arith);
      few_price_places = lit≤ tt;
      few_quantity_places = lit≤ tt;
      own_levels = inl refl;
    }
  where
    whole_rows : (n w : ℕ) → 1 ≤ w → n * w / w ≡ n
    whole_rows n w some = (let e : n * w ≡ n * w + 0 = omega arith in ap (λ k. k / w) e) ∙ div-mul-add n w 0 (omega arith)

    mod_small : (n m : ℕ) → 1 ≤ m → n % m < m
    mod_small n m some = omega arith

-- one more record
pub record_more : (seed goods k : ℕ) (here priced_after after : Lcg) → here ≡ record_generator seed goods k → priced_after ≡ after_words here goods → after ≡ after_words priced_after goods → after ≡ record_generator seed goods (k + 1)
record_more seed goods k here priced_after after is priced bought =
    bought ∙ ap (λ (h : Lcg). after_words h goods) priced ∙ words_later here goods goods ∙ ap (λ (h : Lcg). after_words h (goods + goods)) is
    ∙ words_later (generator_of seed) (k * (goods + goods)) (goods + goods)
    ∙ (let e : k * (goods + goods) + (goods + goods) ≡ (k + 1) * (goods + goods) = omega arith in ap (after_words (generator_of seed)) e)

pub first_record : (seed goods : ℕ) (g : Lcg) → g ≡ generator_of seed → g ≡ record_generator seed goods 0
unfolding after_words
first_record seed goods g is = is ∙ (let e : 0 ≡ 0 * (goods + goods) = omega arith in ap (after_words (generator_of seed)) e)

-- quantities of a record, by the words after those of its prices
pub quantities_after : (goods : ℕ) (here priced_after : Lcg) (row : List ℕ) → priced_after ≡ after_words here goods → row ≡ listed goods (drawn_numbers goods (word_after priced_after)) → row ≡ listed goods (trial_quantity goods here)
quantities_after goods here priced_after row priced drawn =
    drawn ∙ ap (λ (h : Lcg). listed goods (drawn_numbers goods (word_after h))) priced
    ∙ ap (λ (q : ℕ → ℕ). listed goods (not_all_zero goods q)) (λ i g. word_later here goods g i % 100)

-- the lists that were drawn are those of the table
pub trial_is : (seed rows goods : ℕ) (names : List (List ℕ)) (prices quantities : List ℕ) → names ≡ listed goods good_name
    → prices ≡ rows_below rows goods (λ t. trial_price (record_generator seed goods t)) → quantities ≡ rows_below rows goods (λ t. trial_quantity goods (record_generator seed goods t))
    → record { names = names; prices = prices; quantities = quantities; price_places = 0; quantity_places = 0; levels = [] } ≡ trial_of seed rows goods
trial_is seed rows goods names prices quantities named priced bought =
    λ i. record { names = named i; prices = priced i; quantities = bought i; price_places = 0; quantity_places = 0; levels = [] }
