-- Bytes of the plain form are read as the table that they list.
use Rattle.std.proofs.Common.{◌≡◌, ◌≢◌, ℕ, zero, suc, ◌+◌, ◌*◌, ◌<◌, ◌≤◌, inl, inr, List, [], ◌∷◌, ◌++◌, length, get_or, Ok, sym, ap, ◌∙◌, subst, arith, add-one, below_more}
use Rattle.std.specs.List.{All}
use Rattle.std.proofs.lemmas.List.Elements.{All-nil, All-cons, All-same}
use Rattle.rp_table.specs.Tables.{Observations, goods_of, records_of, price_of, quantity_of}
use Rattle.rp_num.specs.Below.{listed}
use Rattle.rp_forms.specs.Texts.{text_at}
use Rattle.rp_forms.specs.Columns.{price_mark}
use Rattle.rp_sheet.specs.Records.{record_at}
use Rattle.rp_sheet.specs.Fields.{row_at}
use Rattle.rp_text.specs.Denotation.{denoted_table, table_in}
use Rattle.rp_text.specs.Plain.{lines_of, fields_in, IsPlainName, IsPlainHeader, IsNumeral, IsPlainRecord, IsPlainTable}
use Rattle.rp_num.proofs.BelowLemmas.{length-listed, get-listed}
use Rattle.rp_text.proofs.PlainHeaders.{column_kind}
use Rattle.rp_text.proofs.PlainLines.{Ordinary, plain_records, all_of_parts, parts_some}
use Rattle.rp_text.proofs.PlainTables.{plain_denotes}

ordinary_mark : (byte : ℕ) → 35 ≤ byte → byte < 239 → Ordinary byte
ordinary_mark byte least most = (λ same. omega (arith, same), λ same. omega (arith, same), most)

ordinary_feed : Ordinary 10
ordinary_feed = (λ same. omega (arith, same), λ same. omega (arith, same), omega arith)

ordinary_name : (a : ℕ) (name : List ℕ) → Ordinary a → IsPlainName name → All Ordinary (a ∷ 95 ∷ name)
ordinary_name a name first plain =
    All-cons Ordinary a (95 ∷ name) first (All-cons Ordinary 95 name (ordinary_mark 95 (omega arith) (omega arith)) (λ k d below.
    let here = plain.letters k d below in
    ordinary_mark (get_or name k d) (omega (arith, here.0)) (omega (arith, here.1))))

ordinary_numeral : (digits : List ℕ) (number : ℕ) → IsNumeral digits number → All Ordinary digits
ordinary_numeral digits number is = λ k d below.
    let here = is.decimal k d below in
    ordinary_mark (get_or digits k d) (omega (arith, here.0)) (omega (arith, here.1))

-- the first line
ordinary_header : (line : List ℕ) (names : List (List ℕ)) → IsPlainHeader (fields_in line) names → All Ordinary line
ordinary_header line names plain =
    all_of_parts Ordinary line 44 (ordinary_mark 44 (omega arith) (omega arith)) (λ c below.
    let kind = column_kind c (length names) (omega (arith, plain.width)) in
    elim (kind.2) [
      | inl even ↦
          All-same Ordinary (text_at (fields_in line) c) (112 ∷ 95 ∷ text_at names kind.0) (ap (text_at (fields_in line)) even ∙ plain.prices kind.0 kind.1)
          (ordinary_name 112 (text_at names kind.0) (ordinary_mark 112 (omega arith) (omega arith)) (plain.plain kind.0 [] kind.1))
      | inr odd ↦
          All-same Ordinary (text_at (fields_in line) c) (113 ∷ 95 ∷ text_at names kind.0) (ap (text_at (fields_in line)) odd ∙ plain.quantities kind.0 kind.1)
          (ordinary_name 113 (text_at names kind.0) (ordinary_mark 113 (omega arith) (omega arith)) (plain.plain kind.0 [] kind.1))
    ])

some_header : (line : List ℕ) (names : List (List ℕ)) → IsPlainHeader (fields_in line) names → line ≢ []
some_header line names plain =
    parts_some line 0 (λ empty.
    let none : length (price_mark ++ text_at names 0) ≡ 0 = ap length (sym (plain.prices 0 plain.some) ∙ empty) in
    omega (arith, none))

-- a line of an observation
ordinary_record : (line : List ℕ) (goods : ℕ) (price quantity : ℕ → ℕ) → IsPlainRecord (fields_in line) goods price quantity → All Ordinary line
ordinary_record line goods price quantity plain =
    all_of_parts Ordinary line 44 (ordinary_mark 44 (omega arith) (omega arith)) (λ c below.
    let kind = column_kind c goods (omega (arith, plain.width)) in
    elim (kind.2) [
      | inl even ↦
          All-same Ordinary (text_at (fields_in line) c) (text_at (fields_in line) (2 * kind.0)) (ap (text_at (fields_in line)) even)
          (ordinary_numeral (text_at (fields_in line) (2 * kind.0)) (price kind.0) (plain.prices kind.0 kind.1))
      | inr odd ↦
          All-same Ordinary (text_at (fields_in line) c) (text_at (fields_in line) (2 * kind.0 + 1)) (ap (text_at (fields_in line)) odd)
          (ordinary_numeral (text_at (fields_in line) (2 * kind.0 + 1)) (quantity kind.0) (plain.quantities kind.0 kind.1))
    ])

some_record : (line : List ℕ) (goods : ℕ) (price quantity : ℕ → ℕ) → 1 ≤ goods → IsPlainRecord (fields_in line) goods price quantity → line ≢ []
some_record line goods price quantity some plain =
    parts_some line 0 (λ empty.
    let one = (plain.prices 0 some).some in
    let none : length (text_at (fields_in line) 0) ≡ 0 = ap length empty in
    omega (arith, one, none))

-- no byte of the plain form is a quote or a carriage return
pub plain_ordinary : (bytes : List ℕ) (table : Observations) → IsPlainTable bytes table → All Ordinary bytes
plain_ordinary bytes table plain = all_of_parts Ordinary bytes 10 ordinary_feed (λ k below. by_line k (omega (arith, plain.lines)))
  where
    by_line : (k : ℕ) → k < records_of table + 2 → All Ordinary (text_at (lines_of bytes) k)
    by_line zero below = ordinary_header (text_at (lines_of bytes) 0) table.names plain.header
    by_line (suc t) below =
        All-same Ordinary (text_at (lines_of bytes) (suc t)) (text_at (lines_of bytes) (t + 1)) (ap (text_at (lines_of bytes)) (sym (add-one t)))
        (below_more (λ (s : ℕ). All Ordinary (text_at (lines_of bytes) (s + 1))) (records_of table)
        (λ s row. ordinary_record (text_at (lines_of bytes) (s + 1)) (goods_of table) (price_of table s) (quantity_of table s) (plain.records s row))
        (All-same Ordinary (text_at (lines_of bytes) (records_of table + 1)) [] plain.ended (All-nil Ordinary))
        t (omega arith))

-- no line is empty
pub plain_lines_some : (bytes : List ℕ) (table : Observations) → IsPlainTable bytes table → (k : ℕ) → k < records_of table + 1 → text_at (lines_of bytes) k ≢ []
plain_lines_some bytes table plain zero below = some_header (text_at (lines_of bytes) 0) table.names plain.header
plain_lines_some bytes table plain (suc t) below =
    let some = some_record (text_at (lines_of bytes) (t + 1)) (goods_of table) (price_of table t) (quantity_of table t) plain.within.some_goods (plain.records t (omega arith)) in
    λ empty. some (ap (text_at (lines_of bytes)) (add-one t) ∙ empty)

-- bytes of the plain form denote the table that they list
pub plain_table : (bytes : List ℕ) (table : Observations) → IsPlainTable bytes table → table_in bytes ≡ Ok table
plain_table bytes table plain =
    let n = records_of table + 1 in
    let line = λ (k : ℕ). fields_in (text_at (lines_of bytes) k) in
    let lines = plain.lines in
    let read = plain_records bytes n (plain_ordinary bytes table plain) (omega (arith, lines)) plain.ended (plain_lines_some bytes table plain) in
    let header : IsPlainHeader (record_at (listed n line) 0) table.names =
    subst (λ (fields : List (List ℕ)). IsPlainHeader fields table.names) (sym (get-listed line n 0 [] (omega arith))) plain.header in
    let each : (t : ℕ) → t < records_of table → IsPlainRecord (row_at (listed n line) t) (goods_of table) (price_of table t) (quantity_of table t) =
    λ t row. subst (λ (fields : List (List ℕ)). IsPlainRecord fields (goods_of table) (price_of table t) (quantity_of table t)) (sym (get-listed line n (t + 1) [] (omega arith))) (plain.records t row) in
    ap denoted_table read ∙ plain_denotes (listed n line) table (length-listed line n) header each plain.within plain.price_scale plain.quantity_scale plain.no_levels
