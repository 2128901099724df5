use Rattle.std.proofs.Common.{◌≡◌, ◌≢◌, List, ℕ, Some, None, Bor, length, map, sym, ap, ◌∙◌, subst}
use Rattle.std.proofs.lemmas.List.{length-map}
use Rattle.rp_forms.specs.Texts.{place_of}
use Rattle.rp_num.proofs.PassedOn.{passed_on}
use Rattle.rp_num.specs.Below.{first_of}
use Rattle.rp_sheet.specs.ChoiceCounts.{column_named}
use Rattle.rp_sheet.specs.Headers.{headers_of}
use Rattle.rp_sheet.specs.declared.fault.TableFault.TheVariants as fault
use Rattle.rp_long.specs.LongColumns.{table_columns}
use Rattle.rp_long.specs.LongFaults.{columns_fault, kept_fault}
use Rattle.rp_long.specs.declared.fault.LongFault.{LongFault}
use Rattle.rp_long.specs.declared.fault.LongFault.TheVariants as long_fault
use Rattle.rp_long.proofs.StageLemmas.{fine_columns, has_ids, lacks_ids, no_ids, not_kept, twice, uses_there}
use Rattle.rp_long.proofs.HeaderLemmas.{texts_of}
use Rattle.rp_long.proofs.columns.find_columns.Goals as goal

pub returns-in_err-headers-clause-refused : goal.returns-in_err-headers-clause-refused
returns-in_err-headers-clause-refused c =
    let id = c.args.id.now in
    let kept = texts_of c.args.kept.now in
    let headers = headers_of c.args.records.now in
    let e = c.in_err-headers.field-0.0 in
    passed_on c.from_residual.result e (λ (e : LongFault). e ≢ long_fault.Table fault.NoMemory → columns_fault id kept headers ≡ Some e) c.from_residual.ensures
    (λ other. twice id kept headers e (c.in_err-headers.ensures.refused other))

pub returns-in_default-clause-refused : goal.returns-in_default-clause-refused
returns-in_default-clause-refused c = λ _.
    let id = c.args.id.now in
    let headers = headers_of c.args.records.now in
    let missing = ap (λ (hs : List (List ℕ)). place_of hs id) (sym c.in_ok-headers.ensures.read) ∙ sym c.find_column.ensures ∙ c.in_default.is in
    no_ids id (texts_of c.args.kept.now) headers long_fault.NoIdColumn c.in_ok-headers.ensures.faultless (lacks_ids id headers missing)

pub returns-in_err-kept-clause-refused : goal.returns-in_err-kept-clause-refused
returns-in_err-kept-clause-refused c =
    let id = c.args.id.now in
    let kept = texts_of c.args.kept.now in
    let headers = headers_of c.args.records.now in
    let e = c.in_err-kept.field-0.0 in
    let there = ap (λ (hs : List (List ℕ)). place_of hs id) (sym c.in_ok-headers.ensures.read) ∙ sym c.find_column.ensures ∙ c.in-Some.is in
    passed_on c.from_residual-in_err-kept.result e (λ (e : LongFault). e ≢ long_fault.Table fault.NoMemory → columns_fault id kept headers ≡ Some e) c.from_residual-in_err-kept.ensures
    (λ other. not_kept id kept headers e c.in_ok-headers.ensures.faultless (has_ids id headers c.in-Some.id there)
    (subst (λ (n : ℕ). first_of n (kept_fault kept headers) ≡ Some e) (sym (length-map c.args.kept.now (λ (name : Bor (List ℕ)). name.now)))
    (subst (λ (hs : List (List ℕ)). first_of (length c.args.kept.now) (kept_fault kept hs) ≡ Some e) c.in_ok-headers.ensures.read (c.in_err-kept.ensures.refused other))))

pub returns-clause-read : goal.returns-clause-read
returns-clause-read c =
    let id = c.args.id.now in
    let kept = texts_of c.args.kept.now in
    let headers = headers_of c.args.records.now in
    let there = ap (λ (hs : List (List ℕ)). place_of hs id) (sym c.in_ok-headers.ensures.read) ∙ sym c.find_column.ensures ∙ c.in-Some.is in
    let of_table = c.in_ok-table.ensures ∙ ap (λ (keys : List (Bor (List ℕ))). table_columns (texts_of keys) c.in-Some.id) c.as_slice.ensures.keys ∙ ap (λ (hs : List (List ℕ)). table_columns hs c.in-Some.id) c.in_ok-headers.ensures.read in
    let of_kept = c.in_ok-kept.ensures.read ∙ ap (λ (hs : List (List ℕ)). map (λ name. column_named name hs) kept) c.in_ok-headers.ensures.read in
    uses_there id kept headers c.in-Some.id c.in_ok-table.table.items c.in_ok-kept.kept.items there of_table of_kept

pub returns-clause-faultless : goal.returns-clause-faultless
returns-clause-faultless c =
    let id = c.args.id.now in
    let kept = texts_of c.args.kept.now in
    let headers = headers_of c.args.records.now in
    let there = ap (λ (hs : List (List ℕ)). place_of hs id) (sym c.in_ok-headers.ensures.read) ∙ sym c.find_column.ensures ∙ c.in-Some.is in
    fine_columns id kept headers c.in_ok-headers.ensures.faultless (has_ids id headers c.in-Some.id there)
    (subst (λ (n : ℕ). first_of n (kept_fault kept headers) ≡ None) (sym (length-map c.args.kept.now (λ (name : Bor (List ℕ)). name.now)))
    (subst (λ (hs : List (List ℕ)). first_of (length c.args.kept.now) (kept_fault kept hs) ≡ None) c.in_ok-headers.ensures.read c.in_ok-kept.ensures.faultless))
