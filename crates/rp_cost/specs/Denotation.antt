-- What a file denotes as a technology, and as outputs that are asked of one, each at new input prices: its value, or
-- the first fault of the earliest stage that finds one (formats of this project's own).
use Rattle.std.specs.Prelude.{ℕ, List, [], codes, if◌then◌else◌, length, Result}
use Rattle.rp_num.specs.declared.decimal.Decimal.{Decimal}
use Rattle.rp_table.specs.Tables.{Observations}
use Rattle.rp_forms.specs.Columns.{mark_of_prices}
use Rattle.rp_forms.specs.Forms.{asked_form, technology_form}
use Rattle.rp_sheet.specs.Headers.{has}
use Rattle.rp_sheet.specs.Records.{records_in}
use Rattle.rp_sheet.specs.SheetFiles.{denoted_by}
use Rattle.rp_sheet.specs.Sheets.{column_numbers, numbers_under}
use Rattle.rp_sheet.specs.Sizes.{sizes_of}
use Rattle.rp_sheet.specs.declared.fault.TableFault.{TableFault}
use Rattle.rp_forms.specs.declared.form.Marks.TheVariants.{Inputs}
use Rattle.rp_text.specs.Denotation.{priced_table}
use Rattle.rp_cost.specs.AskedOutputs.{AskedOutputs}
use Rattle.rp_cost.specs.Technology.{Technology}

-- the table of input prices and inputs. All prices have one scale, that of the output among them, and inputs and
-- output have one
unfoldable pub inputs_of : List (List ℕ) → List (List Decimal) → Observations
inputs_of headers figures = priced_table technology_form headers figures []

-- the prices of the output, in the column p, where there is one
abbrev pub output_prices : List (List ℕ) → List (List ℕ) → List ℕ
output_prices headers sizes = if has headers (codes "p") then column_numbers (codes "p") headers sizes else []

-- the technology of these numbers: its output is in the column y
unfoldable pub tech_of : List (List ℕ) → List (List Decimal) → Technology
tech_of headers figures = record {
  table = inputs_of headers figures;
  y = column_numbers (codes "y") headers (sizes_of technology_form headers figures);
  p = output_prices headers (sizes_of technology_form headers figures);
}

-- what records denote as a technology
unfoldable pub denoted_tech : List (List (List ℕ)) → Result Technology TableFault
denoted_tech records = denoted_by technology_form [] tech_of records

-- what the bytes of a file denote as a technology
abbrev pub tech_in : List ℕ → Result Technology TableFault
tech_in bytes = denoted_tech (records_in bytes)

-- new prices of these inputs with an output each, in scaled numbers
abbrev pub asked_list : List (List ℕ) → List (List ℕ) → List (List ℕ) → AskedOutputs
asked_list headers inputs sizes = record {
  prices = record {
    goods = length inputs;
    prices = numbers_under (mark_of_prices Inputs) headers inputs sizes;
    m = [];
  };
  y = column_numbers (codes "y") headers sizes;
}

-- the same beside a technology whose inputs and outputs have these places
unfoldable pub asked_of : ℕ → List (List ℕ) → List (List ℕ) → List (List Decimal) → AskedOutputs
asked_of places inputs headers figures = asked_list headers inputs (sizes_of (asked_form places) headers figures)

-- what records denote as outputs that are asked of a technology with these inputs and places
unfoldable pub denoted_asked : ℕ → List (List ℕ) → List (List (List ℕ)) → Result AskedOutputs TableFault
denoted_asked places inputs records = denoted_by (asked_form places) inputs (asked_of places inputs) records

-- what the bytes of a file denote as outputs that are asked of a technology with these inputs and places
abbrev pub asked_in : ℕ → List (List ℕ) → List ℕ → Result AskedOutputs TableFault
asked_in places inputs bytes = denoted_asked places inputs (records_in bytes)

-- the same of the inputs and the scale of a technology
abbrev pub asked_beside : Technology → List ℕ → Result AskedOutputs TableFault
asked_beside tech bytes = asked_in tech.table.quantity_places tech.table.names bytes
