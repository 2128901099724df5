-- The table of a sheet that no stage refuses is within the limits.
use Rattle.std.proofs.Common.{◌≡◌, ◌≢◌, ◌≤◌, ℕ, List, [], length, Option, None, Ok, refl, sym, ap, ◌∙◌, subst}
use Rattle.std.specs.Prelude.{IfSome, Vec}
use Rattle.std.specs.List.{All}
use Rattle.std.specs.declared.alloc.Global.{Global}
use Rattle.rp_num.specs.declared.decimal.Decimal.{Decimal}
use Rattle.rp_table.specs.Tables.{IsTable}
use Rattle.rp_limits.specs.declared.table.TheConstants.{LARGEST}
use Rattle.rp_forms.specs.Columns.{Layout}
use Rattle.rp_forms.specs.Forms.{table_form}
use Rattle.rp_sheet.specs.Headers.{headers_of}
use Rattle.rp_sheet.specs.Fields.{figures_of}
use Rattle.rp_sheet.specs.SheetFiles.{IsReadFrom}
use Rattle.rp_sheet.specs.Sheets.{first_fault}
use Rattle.rp_sheet.specs.Sizes.{sizes_of}
use Rattle.rp_text.specs.Denotation.{denoted_table, own_levels, priced_table, table_of}
use Rattle.rp_sheet.proofs.FileLemmas.{denoted_value, of_read, scaled_numbers}
use Rattle.rp_sheet.proofs.GoodHeaders.{good_headers}
use Rattle.rp_sheet.proofs.StagesPassed.{counted, passed}
use Rattle.rp_text.proofs.TableFacts.{levels_small, levels_some, some_sizes, table_is, table_made}

table_within : (records : List (List (List ℕ))) → first_fault table_form [] records ≡ None → IsTable (table_of (headers_of records) (figures_of table_form (headers_of records) records))
table_within records fine =
    let stages = passed table_form [] records fine in
    let count = counted table_form records stages.3 in
    table_is (headers_of records) records (good_headers table_form (headers_of records) refl refl refl stages.1 stages.2) stages.4 stages.5 count.0 count.1

module _ {records : List (List (List ℕ))} {columns : Layout} {figures : List (List Decimal)} {sizes scaled : List (List ℕ)} (read : IsReadFrom table_form [] records columns figures sizes) (same : scaled ≡ sizes) where
  within : IsTable (table_of columns.headers figures)
  within = of_read (λ h f _. IsTable (table_of h f)) read (table_within records read.faultless)

  sized : scaled ≡ sizes_of table_form columns.headers figures
  sized = same ∙ scaled_numbers read

  -- the levels of a sheet that no stage refuses are small, and some
  pub table_levels : All (λ e. e ≤ LARGEST) (own_levels columns.headers scaled)
  unfolding table_of
  table_levels = rw sized (levels_small _ _ within.own_levels)

  pub table_some_levels : (levels : Option (Vec ℕ Global)) → IfSome levels (λ given. length given.items ≡ length scaled) → IfSome levels (λ given. given.items ≢ [])
  table_some_levels levels each =
      let some : 1 ≤ length scaled = rw sized (some_sizes columns.headers figures within) in
      levels_some levels (length scaled) some each

  -- its table is within the limits, and that of its numbers
  pub table_parts : (numbers : List (List Decimal)) (levels : List ℕ) → numbers ≡ figures → levels ≡ own_levels columns.headers scaled
      → IsTable (priced_table columns.form columns.headers numbers levels) × (priced_table columns.form columns.headers numbers levels ≡ table_of columns.headers figures)
  table_parts numbers levels same_numbers levelled =
      let table = ap (λ n. priced_table columns.form columns.headers n levels) same_numbers ∙ table_made columns.form columns.headers figures scaled levels read.kind sized levelled in
      (subst IsTable (sym table) within, table)

-- what records without a fault denote as a table
pub table_there : (records : List (List (List ℕ))) → first_fault table_form [] records ≡ None → denoted_table records ≡ Ok (table_of (headers_of records) (figures_of table_form (headers_of records) records))
unfolding denoted_table
table_there records fine = denoted_value table_form [] table_of records fine
