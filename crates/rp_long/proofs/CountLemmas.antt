-- A household with more records than a table may have denotes that fault, whatever its records hold.
use Rattle.std.proofs.Common.{◌≡◌, ℕ, ◌<◌, ◌==◌, nat_lt, true, false, List, [], ◌∷◌, length, Option, None, Some, Err, refl, sym, ap, ◌∙◌, arith}
use Rattle.std.specs.Prelude.{map, option_map}
use Rattle.std.specs.Option.{option_or}
use Rattle.std.proofs.lemmas.List.{length-map}
use Rattle.rp_limits.specs.declared.table.TheConstants.{RECORDS}
use Rattle.rp_forms.specs.Forms.{table_form}
use Rattle.rp_sheet.specs.Fields.{count_stage, row_at, rows_in}
use Rattle.rp_sheet.specs.Headers.{goods_stage, headers_in, headers_of, headers_stage}
use Rattle.rp_sheet.specs.Records.{record_at, selected_fields}
use Rattle.rp_sheet.specs.Selections.{selected_records}
use Rattle.rp_sheet.specs.SheetFiles.{denoted_by}
use Rattle.rp_sheet.specs.Sheets.{fault_under, first_fault}
use Rattle.rp_sheet.specs.declared.fault.TableFault.{TableFault}
use Rattle.rp_sheet.specs.declared.fault.TableFault.TheVariants as fault
use Rattle.rp_text.specs.Denotation.{denoted_table}
use Rattle.rp_long.specs.InLongFile.{denoted_in_long_file, in_long_file}
use Rattle.rp_long.specs.LongFaults.{goods_fault, goods_fault_in}
use Rattle.rp_long.specs.declared.fault.LongFault.{LongFault}
use Rattle.rp_long.specs.declared.fault.LongFault.TheVariants as long_fault
use Rattle.rp_long.proofs.StageLemmas.{differ, is_less}

none_of : {A B : Type 0} (f : A → B) (o : Option A) → option_map f o ≡ None → o ≡ None
none_of f None none = refl
none_of f (Some x) none = cc none

none_first : {A : Type 0} (o p : Option A) → option_or o p ≡ None → o ≡ None
none_first None p none = refl
none_first (Some x) p none = cc none

none_rest : {A : Type 0} (o p : Option A) → option_or o p ≡ None → p ≡ None
none_rest None p none = none
none_rest (Some x) p none = cc none

-- the headers of the columns of a table have no fault, so neither have those of any of its records
fine_headers : (records : List (List (List ℕ))) (columns : List ℕ) → goods_fault columns records ≡ None
    → goods_fault_in (headers_in (selected_fields columns (record_at records 0))) ≡ None
unfolding goods_fault selected_records
fine_headers records columns none =
    none_of (λ (f : TableFault). long_fault.Table (in_long_file [] columns f)) (goods_fault_in (headers_in (selected_fields columns (record_at records 0)))) none

many_stage : (records : List (List (List ℕ))) → RECORDS < rows_in records → count_stage table_form records ≡ Some fault.TooManyRecords
unfolding count_stage
many_stage records many =
    let some : (rows_in records == 0) ≡ false = differ (rows_in records) 0 (λ none. absurd (omega (arith, many, none))) in
    let more : nat_lt RECORDS (rows_in records) ≡ true = is_less RECORDS (rows_in records) many in
    rw (some, more) refl

module _ (records : List (List (List ℕ))) (columns rows : List ℕ) (fine : goods_fault columns records ≡ None) (many : RECORDS < length rows) where
  abbrev headers : List (List ℕ)
  headers = headers_in (selected_fields columns (record_at records 0))

  headers_fine : headers_stage table_form headers ≡ None
  headers_fine = none_first (headers_stage table_form headers) (option_or (goods_stage table_form [] headers) None) (fine_headers records columns fine)

  goods_fine : goods_stage table_form [] headers ≡ None
  goods_fine =
      none_first (goods_stage table_form [] headers) None
      (none_rest (headers_stage table_form headers) (option_or (goods_stage table_form [] headers) None) (fine_headers records columns fine))

  many_selected : count_stage table_form (selected_records records rows columns) ≡ Some fault.TooManyRecords
  unfolding selected_records
  many_selected =
      many_stage (selected_fields columns (record_at records 0) ∷ map (λ t. selected_fields columns (row_at records t)) rows)
      (omega (arith, many, length-map rows (λ t. selected_fields columns (row_at records t))))

  many_fault : first_fault table_form [] (selected_records records rows columns) ≡ Some fault.TooManyRecords
  unfolding selected_records first_fault fault_under
  many_fault = rw (headers_fine, goods_fine, many_selected) refl

  many_denoted : denoted_table (selected_records records rows columns) ≡ Err fault.TooManyRecords
  unfolding denoted_table denoted_by
  many_denoted = rw many_fault refl

  pub told_many : denoted_in_long_file rows columns (denoted_table (selected_records records rows columns)) ≡ Err fault.TooManyRecords
  unfolding in_long_file
  told_many = ap (denoted_in_long_file rows columns) many_denoted
