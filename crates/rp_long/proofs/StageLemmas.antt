-- The stages of a long file, one after the other.
use Rattle.std.proofs.Common.{◌≡◌, ◌≢◌, ◌+◌, ℕ, ◌<◌, ◌≤◌, ◌==◌, nat_lt, Bool, true, false, if◌then◌else◌, List, [], ◌∷◌, ◌++◌, length, map, take, inl, inr, Option, None, Some, Result, Ok, Err, refl, sym, ap, ◌∙◌, arith}
use Rattle.std.specs.Prelude.{◌⊎◌, IfErr, IfOk, OnOk, option_map, unwrap_or}
use Rattle.std.specs.Option.{option_or}
use Rattle.std.proofs.lemmas.Bool.Decides.{Decides-eqb, nat_tests}
use Rattle.std.proofs.lemmas.List.{get_or-take, length-take-le, map_more, take_all}
use Rattle.rp_limits.specs.declared.long.TheConstants.{RECORDS}
use Rattle.rp_num.specs.Below.{first_of}
use Rattle.rp_forms.specs.Texts.{number_of, place_of, text_at}
use Rattle.rp_sheet.specs.ChoiceCounts.{column_named}
use Rattle.rp_sheet.specs.Fields.{rows_in}
use Rattle.rp_sheet.specs.Headers.{headers_in, headers_of, headers_stage, goods_stage}
use Rattle.rp_forms.specs.Forms.{table_form}
use Rattle.rp_sheet.specs.Records.{record_at, selected_fields}
use Rattle.rp_sheet.specs.Selections.{selected_records}
use Rattle.rp_sheet.specs.declared.fault.TableFault.{TableFault}
use Rattle.rp_sheet.specs.declared.fault.TableFault.TheVariants as fault
use Rattle.rp_long.specs.InLongFile.{in_long_file}
use Rattle.rp_long.specs.LongColumns.{table_columns, uses_of}
use Rattle.rp_long.specs.LongFaults.{columns_fault, count_fault, fault_under, first_fault, goods_fault, goods_fault_in, id_column_fault, kept_fault, ragged_fault, twice_fault}
use Rattle.rp_long.specs.Panels.{denoted_panel, panel_with}
use Rattle.rp_long.specs.declared.fault.LongFault.{LongFault}
use Rattle.rp_long.specs.declared.fault.LongFault.TheVariants as long_fault

-- ---- what the stages need

pub differ : (a b : ℕ) → a ≢ b → (a == b) ≡ false
differ a b other = by (a == b) refl
  where
    by : (r : Bool) → (a == b) ≡ r → r ≡ false
    by true e = absurd (other ((Decides-eqb a b).0 e))
    by false e = refl

differs : (a b : ℕ) → (a == b) ≡ false → a ≢ b
differs a b e same = cc (sym e ∙ (Decides-eqb a b).1 same)

not_less : (a b : ℕ) → nat_lt a b ≡ false → b ≤ a
not_less a b e = grind (arith, nat_tests, e)

few_or_many : (n m : ℕ) → (n ≤ m) ⊎ (m < n)
few_or_many n m = by (nat_lt m n) refl
  where
    by : (b : Bool) → nat_lt m n ≡ b → (n ≤ m) ⊎ (m < n)
    by true e = inr (grind (arith, nat_tests, e))
    by false e = inl (not_less m n e)

pub is_less : (a b : ℕ) → a < b → nat_lt a b ≡ true
is_less a b less = grind (arith, nat_tests)

pub are_one : (a b : ℕ) → a ≡ b → (a == b) ≡ true
are_one a b same = (Decides-eqb a b).1 same

pub ok_after : {A E : Type 0} {P Q : Type 0} (r : Result A E) → OnOk r P → (P → Q) → OnOk r Q
ok_after (Ok x) here more = more here
ok_after (Err e) here more = tt

pub if_ok_after : {A E : Type 0} {P Q : A → Type 0} (r : Result A E) → IfOk r P → ((x : A) → P x → Q x) → IfOk r Q
if_ok_after (Ok x) here more = more x here
if_ok_after (Err e) here more = tt

pub err_after : {A E : Type 0} {P Q : E → Type 0} (r : Result A E) → IfErr r P → ((e : E) → P e → Q e) → IfErr r Q
err_after (Ok x) here more = tt
err_after (Err e) here more = more e here

pub some_selected : (records : List (List (List ℕ))) (rows columns : List ℕ) → 0 < length (selected_records records rows columns)
unfolding selected_records
some_selected records rows columns = omega arith

pub fine_selected : (records : List (List (List ℕ))) (columns : List ℕ) (read : List (List (List ℕ))) → read ≡ selected_records records [] columns → goods_fault_in (headers_of read) ≡ None
    → goods_fault columns records ≡ None
unfolding goods_fault
fine_selected records columns read is none = ap (option_map (λ (f : TableFault). long_fault.Table (in_long_file [] columns f))) (ap (λ (rs : List (List (List ℕ))). goods_fault_in (headers_of rs)) (sym is) ∙ none)

pub bad_selected : (records : List (List (List ℕ))) (columns : List ℕ) (read : List (List (List ℕ))) (e told : TableFault) → read ≡ selected_records records [] columns → goods_fault_in (headers_of read) ≡ Some e
    → told ≡ in_long_file [] columns e → goods_fault columns records ≡ Some (long_fault.Table told)
unfolding goods_fault
bad_selected records columns read e told is faulty as_told =
    ap (option_map (λ (f : TableFault). long_fault.Table (in_long_file [] columns f))) (ap (λ (rs : List (List (List ℕ))). goods_fault_in (headers_of rs)) (sym is) ∙ faulty)
    ∙ ap (λ (f : TableFault). Some (long_fault.Table f)) (sym as_told)

pub lacks_ids : (id : List ℕ) (headers : List (List ℕ)) → place_of headers id ≡ None → id_column_fault id headers ≡ Some long_fault.NoIdColumn
unfolding id_column_fault
lacks_ids id headers none = rw none refl

pub has_ids : (id : List ℕ) (headers : List (List ℕ)) (column : ℕ) → place_of headers id ≡ Some column → id_column_fault id headers ≡ None
unfolding id_column_fault
has_ids id headers column there = rw there refl

pub uses_there : (id : List ℕ) (kept headers : List (List ℕ)) (column : ℕ) (table columns : List ℕ) → place_of headers id ≡ Some column → table ≡ table_columns headers column
    → columns ≡ map (λ name. column_named name headers) kept → record { id = column; table = table; kept = columns } ≡ uses_of id kept headers
uses_there id kept headers column table columns there of_table of_kept =
    let named : column ≡ column_named id headers = sym (ap (λ (o : Option ℕ). unwrap_or o 0) there) in
    let same : table ≡ table_columns headers (column_named id headers) = of_table ∙ ap (table_columns headers) named in
    λ i. record { id = named i; table = same i; kept = of_kept i }

-- records that are as many as they may be
pub some_rows : (records : List (List (List ℕ))) → count_fault records ≡ None → 1 < length records
unfolding count_fault
some_rows records none = by (rows_in records == 0) refl none
  where
    by : (b : Bool) → (rows_in records == 0) ≡ b
        → (if b then Some (long_fault.Table fault.NoRecords) else if nat_lt RECORDS (rows_in records) then Some (long_fault.Table fault.TooManyRecords) else None) ≡ None → 1 < length records
    by true e h = cc h
    by false e h = omega (arith, differs (rows_in records) 0 e)

pub few_rows : (records : List (List (List ℕ))) → count_fault records ≡ None → rows_in records ≤ RECORDS
unfolding count_fault
few_rows records none = by (rows_in records == 0) (nat_lt RECORDS (rows_in records)) refl none
  where
    by : (a b : Bool) → nat_lt RECORDS (rows_in records) ≡ b
        → (if a then Some (long_fault.Table fault.NoRecords) else if b then Some (long_fault.Table fault.TooManyRecords) else None) ≡ None → rows_in records ≤ RECORDS
    by true b e h = cc h
    by false true e h = cc h
    by false false e h = not_less RECORDS (rows_in records) e

-- ---- names to be kept

pub lacks_kept : (kept headers : List (List ℕ)) (k number : ℕ) (name : List ℕ) → name ≡ text_at kept k → None ≡ place_of headers name → number ≡ number_of k → kept_fault kept headers k ≡ Some (long_fault.NoKeptColumn number)
unfolding kept_fault
lacks_kept kept headers k number name is none told = rw (← is, ← none, told) refl

pub has_kept : (kept headers : List (List ℕ)) (k column : ℕ) (name : List ℕ) → name ≡ text_at kept k → Some column ≡ place_of headers name → kept_fault kept headers k ≡ None
unfolding kept_fault
has_kept kept headers k column name is there = rw (← is, ← there) refl

pub kept_more : (kept headers : List (List ℕ)) (k column : ℕ) (name : List ℕ) (columns after : List ℕ) → k < length kept → columns ≡ map (λ n. column_named n headers) (take k kept)
    → after ≡ columns ++ column ∷ [] → name ≡ text_at kept k → Some column ≡ place_of headers name → after ≡ map (λ n. column_named n headers) (take (k + 1) kept)
kept_more kept headers k column name columns after within before longer is there =
    let named : column ≡ column_named (text_at kept k) headers = ap (λ (o : Option ℕ). unwrap_or o 0) there ∙ ap (λ (n : List ℕ). column_named n headers) is in
    longer ∙ ap (λ (cs : List ℕ). cs ++ column ∷ []) before ∙ ap (λ (c : ℕ). map (λ n. column_named n headers) (take k kept) ++ c ∷ []) named
    ∙ sym (map_more (λ n. column_named n headers) kept k [] within)

-- ---- the columns

module _ (id : List ℕ) (kept headers : List (List ℕ)) where
  pub twice : (e : LongFault) → first_of (length headers) (twice_fault headers) ≡ Some e → columns_fault id kept headers ≡ Some e
  unfolding columns_fault
  twice e a = rw a refl

  pub no_ids : (e : LongFault) → first_of (length headers) (twice_fault headers) ≡ None → id_column_fault id headers ≡ Some e → columns_fault id kept headers ≡ Some e
  unfolding columns_fault
  no_ids e a b = rw (a, b) refl

  pub not_kept : (e : LongFault) → first_of (length headers) (twice_fault headers) ≡ None → id_column_fault id headers ≡ None → first_of (length kept) (kept_fault kept headers) ≡ Some e
      → columns_fault id kept headers ≡ Some e
  unfolding columns_fault
  not_kept e a b c = rw (a, b, c) refl

  pub fine_columns : first_of (length headers) (twice_fault headers) ≡ None → id_column_fault id headers ≡ None → first_of (length kept) (kept_fault kept headers) ≡ None
      → columns_fault id kept headers ≡ None
  unfolding columns_fault
  fine_columns a b c = rw (a, b, c) refl

-- ---- the goods

pub bad_headers : (headers : List (List ℕ)) (e : TableFault) → headers_stage table_form headers ≡ Some e → goods_fault_in headers ≡ Some e
bad_headers headers e a = rw a refl

pub bad_goods : (headers : List (List ℕ)) (e : TableFault) → headers_stage table_form headers ≡ None → goods_stage table_form [] headers ≡ Some e → goods_fault_in headers ≡ Some e
bad_goods headers e a b = rw (a, b) refl

pub fine_goods : (headers : List (List ℕ)) → headers_stage table_form headers ≡ None → goods_stage table_form [] headers ≡ None → goods_fault_in headers ≡ None
fine_goods headers a b = rw (a, b) refl

-- ---- the file

module _ (id : List ℕ) (kept : List (List ℕ)) where
  pub empty_file : (records : List (List (List ℕ))) → length records ≡ 0 → denoted_panel id kept records ≡ Err (long_fault.Table fault.Empty)
  unfolding denoted_panel first_fault
  empty_file [] none = refl
  empty_file (header ∷ rows) none = absurd (omega (arith, none))

  under : (records : List (List (List ℕ))) → 0 < length records → first_fault id kept records ≡ fault_under id kept (headers_of records) records
  unfolding first_fault
  under [] some = absurd (omega (arith, some))
  under (header ∷ rows) some = refl

  refused : (records : List (List (List ℕ))) (e : LongFault) → first_fault id kept records ≡ Some e → denoted_panel id kept records ≡ Err e
  unfolding denoted_panel
  refused records e faulty = rw faulty refl

  module _ (records : List (List (List ℕ))) (some : 0 < length records) where
    pub at_columns : (e : LongFault) → columns_fault id kept (headers_of records) ≡ Some e → denoted_panel id kept records ≡ Err e
    unfolding fault_under
    at_columns e a = refused records e (under records some ∙ rw a refl)

    pub at_goods : (e : LongFault) → columns_fault id kept (headers_of records) ≡ None → goods_fault (uses_of id kept (headers_of records)).table records ≡ Some e → denoted_panel id kept records ≡ Err e
    unfolding fault_under
    at_goods e a b = refused records e (under records some ∙ rw (a, b) refl)

    pub at_count : (e : LongFault) → columns_fault id kept (headers_of records) ≡ None → goods_fault (uses_of id kept (headers_of records)).table records ≡ None → count_fault records ≡ Some e
        → denoted_panel id kept records ≡ Err e
    unfolding fault_under
    at_count e a b c = refused records e (under records some ∙ rw (a, b, c) refl)

    pub at_lengths : (e : LongFault) → columns_fault id kept (headers_of records) ≡ None → goods_fault (uses_of id kept (headers_of records)).table records ≡ None → count_fault records ≡ None
        → first_of (rows_in records) (ragged_fault (headers_of records) records) ≡ Some e → denoted_panel id kept records ≡ Err e
    unfolding fault_under
    at_lengths e a b c d = refused records e (under records some ∙ rw (a, b, c, d) refl)

    pub fine_file : columns_fault id kept (headers_of records) ≡ None → goods_fault (uses_of id kept (headers_of records)).table records ≡ None → count_fault records ≡ None
        → first_of (rows_in records) (ragged_fault (headers_of records) records) ≡ None → denoted_panel id kept records ≡ Ok (panel_with (uses_of id kept (headers_of records)) records)
    unfolding denoted_panel fault_under
    fine_file a b c d = rw (under records some, a, b, c, d) refl

-- ---- as many records as are looked at

many_rows : (records : List (List (List ℕ))) → RECORDS < rows_in records → count_fault records ≡ Some (long_fault.Table fault.TooManyRecords)
unfolding count_fault
many_rows records many =
    let some : (rows_in records == 0) ≡ false = differ (rows_in records) 0 (λ none. absurd (omega (arith, many, none))) in
    let more : nat_lt RECORDS (rows_in records) ≡ true = is_less RECORDS (rows_in records) many in
    rw (some, more) refl

abbrev pick : Option LongFault → Option LongFault → LongFault → LongFault
pick o p m = unwrap_or (option_or o p) m

picked : (o p q r : Option LongFault) (m : LongFault) → q ≡ Some m → option_or o (option_or p (option_or q (option_or r None))) ≡ Some (pick o p m)
picked (Some f) p q r m is = refl
picked None (Some f) q r m is = refl
picked None None q r m is = rw is refl

goods_of_header : (columns : List ℕ) (records others : List (List (List ℕ))) → record_at records 0 ≡ record_at others 0 → goods_fault columns records ≡ goods_fault columns others
unfolding goods_fault selected_records
goods_of_header columns records others same =
    ap (λ (header : List (List ℕ)). option_map (λ (f : TableFault). long_fault.Table (in_long_file [] columns f)) (goods_fault_in (headers_in (selected_fields columns header)))) same

module _ (id : List ℕ) (kept : List (List ℕ)) where
  past_many : (records : List (List (List ℕ))) → 0 < length records → (m : LongFault) → count_fault records ≡ Some m
      → denoted_panel id kept records ≡ Err (pick (columns_fault id kept (headers_of records)) (goods_fault (uses_of id kept (headers_of records)).table records) m)
  unfolding fault_under
  past_many records some m many =
      refused id kept records (pick (columns_fault id kept (headers_of records)) (goods_fault (uses_of id kept (headers_of records)).table records) m)
      (under id kept records some ∙ picked (columns_fault id kept (headers_of records)) (goods_fault (uses_of id kept (headers_of records)).table records) (count_fault records)
      (first_of (rows_in records) (ragged_fault (headers_of records) records)) m many)

  -- a file denotes what its first records denote, as many as the limit, the headers and one more
  pub first_records : (records : List (List (List ℕ))) (n : ℕ) → RECORDS + 1 < n → denoted_panel id kept (take n records) ≡ denoted_panel id kept records
  first_records records n enough = elim (few_or_many (length records) n) [
    | inl few ↦ ap (denoted_panel id kept) (take_all n records few)
    | inr many ↦
        let m = long_fault.Table fault.TooManyRecords in
        let first = take n records in
        let taken : length (take n records) ≡ n = length-take-le n records (omega (arith, many)) in
        let header : record_at (take n records) 0 ≡ record_at records 0 = get_or-take n records 0 [] (omega (arith, enough)) in
        let heads : headers_of (take n records) ≡ headers_of records = ap headers_in header in
        past_many first (omega (arith, taken, enough)) m (many_rows first (omega (arith, taken, enough)))
        ∙ ap (λ (hs : List (List ℕ)). Err (pick (columns_fault id kept hs) (goods_fault (uses_of id kept hs).table first) m)) heads
        ∙ ap (λ (g : Option LongFault). Err (pick (columns_fault id kept (headers_of records)) g m)) (goods_of_header (uses_of id kept (headers_of records)).table first records header)
        ∙ sym (past_many records (omega (arith, many)) m (many_rows records (omega (arith, many, enough))))
  ]
