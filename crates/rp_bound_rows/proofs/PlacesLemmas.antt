-- The places of new prices: those of a sheet that no stage refuses, and which files are refused.
use Rattle.std.proofs.Common.{◌≡◌, ◌≤◌, ℕ, List, Option, Some, None, Err, ap, false, refl}
use Rattle.rp_forms.specs.Columns.{Layout}
use Rattle.rp_forms.specs.Forms.{prices_form}
use Rattle.rp_forms.specs.declared.form.Role.TheVariants.{Price}
use Rattle.rp_num.specs.declared.decimal.Decimal.{Decimal}
use Rattle.rp_sheet.specs.Headers.{headers_of}
use Rattle.rp_sheet.specs.Records.{records_in}
use Rattle.rp_sheet.specs.SheetFiles.{IsReadFrom, denoted_by}
use Rattle.rp_sheet.specs.Sheets.{first_fault, unless_fault}
use Rattle.rp_sheet.specs.Sizes.{places_of}
use Rattle.rp_sheet.specs.declared.fault.TableFault.{TableFault}
use Rattle.rp_sheet.proofs.FigureLemmas.{few_places}
use Rattle.rp_sheet.proofs.FileLemmas.{of_read}
use Rattle.rp_table.specs.PriceLists.{PriceList}
use Rattle.rp_table.specs.Tables.{Observations}
use Rattle.rp_text.specs.Denotation.{denoted_prices, prices_beside}
use Rattle.rp_bound_rows.specs.PricePlaces.{price_places_beside, price_places_of}

pub same_places : (q : ℕ) (columns : Layout) (figures given : List (List Decimal)) → columns.form ≡ prices_form false q → given ≡ figures → places_of columns.form columns.headers given Price ≡ price_places_of q columns.headers figures
unfolding price_places_of
same_places q columns figures given is same = rw (is, same) refl

pub few : (q : ℕ) {goods : List (List ℕ)} {records : List (List (List ℕ))} {columns : Layout} {figures : List (List Decimal)} {sizes : List (List ℕ)} → IsReadFrom (prices_form false q) goods records columns figures sizes → places_of (prices_form false q) columns.headers figures Price ≤ 6
unfolding places_of
few q {records = records} read = of_read (λ h f _. places_of (prices_form false q) h f Price ≤ 6) read (few_places (prices_form false q) (headers_of records) records Price)

-- a fault of the places is one of the prices
fault_alike : (o : Option TableFault) (n : ℕ) (value : PriceList) (fault : TableFault) → unless_fault o n ≡ Err fault → unless_fault o value ≡ Err fault
fault_alike None n value fault refused = cc refused
fault_alike (Some f) n value fault refused = let same : f ≡ fault = cc refused in ap Err same

pub same_fault : (table : Observations) (bytes : List ℕ) (fault : TableFault) → price_places_beside table bytes ≡ Err fault → prices_beside false table bytes ≡ Err fault
unfolding denoted_by denoted_prices price_places_beside
same_fault table bytes fault refused =
    fault_alike (first_fault (prices_form false table.quantity_places) table.names (records_in bytes)) _ _ fault refused
