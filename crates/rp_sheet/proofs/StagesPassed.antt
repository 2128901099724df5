-- What a file without a fault passed: every stage, with at least one record and as many as its form has at most.
use Rattle.std.proofs.Common.{◌≡◌, ℕ, ◌<◌, ◌≤◌, Bool, true, false, ◌==◌, nat_lt, if◌then◌else◌, List, [], ◌∷◌, length, Some, None, refl, arith}
use Rattle.rp_sheet.specs.Records.{record_at}
use Rattle.rp_sheet.specs.Headers.{headers_in, headers_stage, goods_stage}
use Rattle.rp_sheet.specs.Fields.{rows_in, figures_of, count_stage, fields_stage}
use Rattle.rp_sheet.specs.Sizes.{sizes_stage}
use Rattle.rp_sheet.specs.Sheets.{fault_under, first_fault}
use Rattle.rp_forms.specs.declared.form.Form.{Form}
use Rattle.rp_sheet.specs.declared.fault.TableFault.{TableFault}
use Rattle.rp_sheet.specs.declared.fault.TableFault.TheVariants as fault
use Rattle.rp_sheet.proofs.PlaceLemmas.{lt_false, none_or}
use Rattle.rp_sheet.proofs.FineHeaders.{not_zero}

count_tests : (a b : Bool) (f g : TableFault) → (if a then Some f else if b then Some g else None) ≡ None → (a ≡ false) × (b ≡ false)
count_tests true b f g e = cc e
count_tests false true f g e = cc e
count_tests false false f g e = (refl, refl)

-- how many records there are
pub counted : (form : Form) (records : List (List (List ℕ))) → count_stage form records ≡ None → (1 ≤ rows_in records) × (rows_in records ≤ form.most)
unfolding count_stage
counted form records fine =
    let both = count_tests (rows_in records == 0) (nat_lt form.most (rows_in records)) fault.NoRecords fault.TooManyRecords fine in
    (not_zero (rows_in records) both.0, lt_false form.most (rows_in records) both.1)

-- what a file without a fault passed
pub passed : (form : Form) (goods : List (List ℕ)) (records : List (List (List ℕ))) → first_fault form goods records ≡ None
    → (0 < length records) × (headers_stage form (headers_in (record_at records 0)) ≡ None) × (goods_stage form goods (headers_in (record_at records 0)) ≡ None) × (count_stage form records ≡ None)
    × (fields_stage form (headers_in (record_at records 0)) records ≡ None) × (sizes_stage form (headers_in (record_at records 0)) (figures_of form (headers_in (record_at records 0)) records) ≡ None)
unfolding first_fault fault_under
passed form goods [] fine = cc fine
passed form goods (header ∷ rows) fine =
    let a = none_or (headers_stage form (headers_in header)) _ fine in
    let b = none_or (goods_stage form goods (headers_in header)) _ a.1 in
    let c = none_or (count_stage form (header ∷ rows)) _ b.1 in
    let d = none_or (fields_stage form (headers_in header) (header ∷ rows)) _ c.1 in
    let e = none_or (sizes_stage form (headers_in header) (figures_of form (headers_in header) (header ∷ rows))) _ d.1 in
    (omega arith, a.0, b.0, c.0, d.0, e.0)
