-- What a file of numbers denotes: its value, or the first fault of the earliest stage that finds one.
use Rattle.std.specs.Prelude.{Bool, ◌-◌, if◌then◌else◌, map, codes, ℕ, List, [], length, Result}
use Rattle.rp_num.specs.declared.decimal.Decimal.{Decimal}
use Rattle.rp_table.specs.Tables.{Observations}
use Rattle.rp_table.specs.PriceLists.{PriceList}
use Rattle.rp_table.specs.BundleLists.{BundleList}
use Rattle.rp_table.specs.BudgetLists.{BudgetList}
use Rattle.rp_table.specs.ChoiceLists.{ChoiceList}
use Rattle.rp_sheet.specs.SheetFiles.{denoted_by}
use Rattle.rp_sheet.specs.Sheets.{numbers_under, column_numbers}
use Rattle.rp_forms.specs.Forms.{table_form, prices_form, bundles_form, budgets_form, choices_form}
use Rattle.rp_sheet.specs.Records.{records_in}
use Rattle.rp_forms.specs.Columns.{names_with, is_price, mark_of_prices, mark_of_quantities, price_mark, quantity_mark}
use Rattle.rp_sheet.specs.Headers.{has}
use Rattle.rp_sheet.specs.Sizes.{places_of, sizes_of}
use Rattle.rp_forms.specs.declared.form.Form.{Form}
use Rattle.rp_forms.specs.declared.form.Marks.TheVariants.{Goods}
use Rattle.rp_forms.specs.declared.form.Role.TheVariants.{Price, Quantity}
use Rattle.rp_sheet.specs.declared.fault.TableFault.{TableFault}

-- the own levels of observations in thousandths, where there is a column of them
abbrev pub own_levels : List (List ℕ) → List (List ℕ) → List ℕ
own_levels headers sizes = if has headers (codes "e") then column_numbers (codes "e") headers sizes else []

-- the prices and quantities in files of this form, scaled, as a table with these levels. The names stand in the order
-- of the columns of prices
abbrev pub priced_table : Form → List (List ℕ) → List (List Decimal) → List ℕ → Observations
priced_table form headers figures levels = record {
  names = names_with form.marks is_price headers;
  prices = numbers_under (mark_of_prices form.marks) headers (names_with form.marks is_price headers)
      (sizes_of form headers figures);
  quantities = numbers_under (mark_of_quantities form.marks) headers (names_with form.marks is_price headers)
      (sizes_of form headers figures);
  price_places = places_of form headers figures Price;
  quantity_places = places_of form headers figures Quantity;
  levels = levels;
}

-- the table of these numbers
unfoldable pub table_of : List (List ℕ) → List (List Decimal) → Observations
table_of headers figures =
    priced_table table_form headers figures (own_levels headers (sizes_of table_form headers figures))

-- what records denote as a table
unfoldable pub denoted_table : List (List (List ℕ)) → Result Observations TableFault
denoted_table records = denoted_by table_form [] table_of records

-- what the bytes of a file denote as a table
abbrev pub table_in : List ℕ → Result Observations TableFault
table_in bytes = denoted_table (records_in bytes)

-- new prices of these goods, in scaled numbers
abbrev pub price_list : Bool → List (List ℕ) → List (List ℕ) → List (List ℕ) → PriceList
price_list with_m headers goods sizes = record {
  goods = length goods;
  prices = numbers_under price_mark headers goods sizes;
  m = if with_m then column_numbers (codes "m") headers sizes else [];
}

-- new prices beside a table whose quantities have these places
unfoldable pub prices_of : Bool → ℕ → List (List ℕ) → List (List ℕ) → List (List Decimal) → PriceList
prices_of with_m places goods headers figures =
    price_list with_m headers goods (sizes_of (prices_form with_m places) headers figures)

-- what records denote as new prices of these goods, beside a table whose quantities have these places
unfoldable pub denoted_prices : Bool → ℕ → List (List ℕ) → List (List (List ℕ)) → Result PriceList TableFault
denoted_prices with_m places goods records =
    denoted_by (prices_form with_m places) goods (prices_of with_m places goods) records

-- what the bytes of a file denote as new prices of these goods
abbrev pub prices_in : Bool → ℕ → List (List ℕ) → List ℕ → Result PriceList TableFault
prices_in with_m places goods bytes = denoted_prices with_m places goods (records_in bytes)

-- the same of the goods and the scale of a table
abbrev pub prices_beside : Bool → Observations → List ℕ → Result PriceList TableFault
prices_beside with_m table bytes = prices_in with_m table.quantity_places table.names bytes

-- bundles of these goods, in scaled numbers
abbrev pub bundle_list : List (List ℕ) → List (List ℕ) → List (List ℕ) → BundleList
bundle_list headers goods sizes = record {
  goods = length goods;
  quantities = numbers_under quantity_mark headers goods sizes;
}

-- bundles beside a table whose quantities have these places
unfoldable pub bundles_of : ℕ → List (List ℕ) → List (List ℕ) → List (List Decimal) → BundleList
bundles_of places goods headers figures = bundle_list headers goods (sizes_of (bundles_form places) headers figures)

-- what records denote as bundles of these goods, beside a table whose quantities have these places
unfoldable pub denoted_bundles : ℕ → List (List ℕ) → List (List (List ℕ)) → Result BundleList TableFault
denoted_bundles places goods records = denoted_by (bundles_form places) goods (bundles_of places goods) records

-- what the bytes of a file denote as bundles of these goods
abbrev pub bundles_in : ℕ → List (List ℕ) → List ℕ → Result BundleList TableFault
bundles_in places goods bytes = denoted_bundles places goods (records_in bytes)

-- the same of the goods and the scale of a table
abbrev pub bundles_beside : Observations → List ℕ → Result BundleList TableFault
bundles_beside table bytes = bundles_in table.quantity_places table.names bytes

-- budgets over the goods with these names, in scaled numbers
abbrev pub budget_list : List (List ℕ) → List (List ℕ) → List (List ℕ) → BudgetList
budget_list headers names sizes = record {
  names = names;
  prices = numbers_under price_mark headers names sizes;
  w = column_numbers (codes "w") headers sizes;
}

-- budgets
unfoldable pub budgets_of : List (List ℕ) → List (List Decimal) → BudgetList
budgets_of headers figures =
    budget_list headers (names_with Goods is_price headers) (sizes_of budgets_form headers figures)

-- what records denote as budgets
unfoldable pub denoted_budgets : List (List (List ℕ)) → Result BudgetList TableFault
denoted_budgets records = denoted_by budgets_form [] budgets_of records

-- what the bytes of a file denote as budgets
abbrev pub budgets_in : List ℕ → Result BudgetList TableFault
budgets_in bytes = denoted_budgets (records_in bytes)

-- choices of bundles of these goods, in scaled numbers. In code budgets are numbered from 0
abbrev pub choice_list : List (List ℕ) → List (List ℕ) → List (List ℕ) → ChoiceList
choice_list headers goods sizes = record {
  goods = length goods;
  budget = map (λ number. number - 1) (column_numbers (codes "budget") headers sizes);
  quantities = numbers_under quantity_mark headers goods sizes;
  times = column_numbers (codes "n") headers sizes;
}

-- choices on so many budgets
unfoldable pub choices_of : ℕ → List (List ℕ) → List (List ℕ) → List (List Decimal) → ChoiceList
choices_of budgets goods headers figures = choice_list headers goods (sizes_of (choices_form budgets) headers figures)

-- what records denote as choices on so many budgets over these goods
unfoldable pub denoted_choices : ℕ → List (List ℕ) → List (List (List ℕ)) → Result ChoiceList TableFault
denoted_choices budgets goods records = denoted_by (choices_form budgets) goods (choices_of budgets goods) records

-- what the bytes of a file denote as choices on so many budgets over these goods
abbrev pub choices_in : ℕ → List (List ℕ) → List ℕ → Result ChoiceList TableFault
choices_in budgets goods bytes = denoted_choices budgets goods (records_in bytes)

-- the same on these budgets
abbrev pub choices_on : BudgetList → List ℕ → Result ChoiceList TableFault
choices_on budgets bytes = choices_in (length budgets.w) budgets.names bytes
