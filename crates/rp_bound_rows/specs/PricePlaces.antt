-- How many decimal places the scale of a file's new prices has: the most that one of them has.
use Rattle.std.specs.Prelude.{ℕ, List, Result, false}
use Rattle.rp_forms.specs.Forms.{prices_form}
use Rattle.rp_forms.specs.declared.form.Role.TheVariants.{Price}
use Rattle.rp_num.specs.declared.decimal.Decimal.{Decimal}
use Rattle.rp_sheet.specs.Records.{records_in}
use Rattle.rp_sheet.specs.SheetFiles.{denoted_by}
use Rattle.rp_sheet.specs.Sizes.{places_of}
use Rattle.rp_sheet.specs.declared.fault.TableFault.{TableFault}
use Rattle.rp_table.specs.Tables.{Observations}

-- that of prices under these headers, beside a table whose quantities have these places
unfoldable pub price_places_of : ℕ → List (List ℕ) → List (List Decimal) → ℕ
price_places_of places headers figures = places_of (prices_form false places) headers figures Price

-- what the bytes of a file of new prices without expenditures denote so beside a table, or their first fault
unfoldable pub price_places_beside : Observations → List ℕ → Result ℕ TableFault
price_places_beside table bytes =
    denoted_by (prices_form false table.quantity_places) table.names (price_places_of table.quantity_places)
    (records_in bytes)
