-- The first fault of records of any kind, from the stages that were passed.
use Rattle.std.proofs.Common.{◌≡◌, ℕ, ◌<◌, List, [], ◌∷◌, length, Some, None, refl, ◌∙◌, arith}
use Rattle.rp_forms.specs.Columns.{Layout}
use Rattle.rp_sheet.specs.Headers.{headers_in, headers_stage, goods_stage}
use Rattle.rp_sheet.specs.Records.{record_at}
use Rattle.rp_sheet.specs.Fields.{figures_of, count_stage, fields_stage}
use Rattle.rp_sheet.specs.Sizes.{sizes_stage}
use Rattle.rp_sheet.specs.ChoiceCounts.{choices_stage}
use Rattle.rp_sheet.specs.Sheets.{first_fault}
use Rattle.rp_forms.specs.declared.form.Form.{Form}
use Rattle.rp_sheet.specs.declared.fault.TableFault.{TableFault}
use Rattle.rp_sheet.specs.declared.fault.TableFault.TheVariants as fault
use Rattle.rp_sheet.proofs.StageLemmas.{under_headers, in_headers, in_goods, in_count, in_fields, in_sizes, in_choices, in_none}

pub empty_file : (form : Form) (goods : List (List ℕ)) (records : List (List (List ℕ))) → length records ≡ 0 → first_fault form goods records ≡ Some fault.Empty
unfolding first_fault
empty_file form goods [] none = refl
empty_file form goods (header ∷ rows) none = absurd (omega arith)

module _ (form : Form) (goods : List (List ℕ)) (records : List (List (List ℕ))) (columns : Layout) (some : 0 < length records) (is : columns.form ≡ form) (read : columns.headers ≡ headers_in (record_at records 0)) (a : headers_stage form (headers_in (record_at records 0)) ≡ None) where
  pub goods_fault : (e : TableFault) → goods_stage columns.form goods columns.headers ≡ Some e → first_fault form goods records ≡ Some e
  goods_fault e b = under_headers form goods records some ∙ in_goods form goods (headers_in (record_at records 0)) records e a (rw (is, read) at b)

  pub count_fault : (e : TableFault) → goods_stage columns.form goods columns.headers ≡ None → count_stage form records ≡ Some e → first_fault form goods records ≡ Some e
  count_fault e b c = under_headers form goods records some ∙ in_count form goods (headers_in (record_at records 0)) records e a (rw (is, read) at b) c

  pub fields_fault : (e : TableFault) → goods_stage columns.form goods columns.headers ≡ None → count_stage form records ≡ None → fields_stage columns.form columns.headers records ≡ Some e → first_fault form goods records ≡ Some e
  fields_fault e b c d = under_headers form goods records some ∙ in_fields form goods (headers_in (record_at records 0)) records e a (rw (is, read) at b) c (rw (is, read) at d)

  pub sizes_fault : (e : TableFault) → goods_stage columns.form goods columns.headers ≡ None → count_stage form records ≡ None → fields_stage columns.form columns.headers records ≡ None → sizes_stage columns.form columns.headers (figures_of columns.form columns.headers records) ≡ Some e → first_fault form goods records ≡ Some e
  sizes_fault e b c d f = under_headers form goods records some ∙ in_sizes form goods (headers_in (record_at records 0)) records e a (rw (is, read) at b) c (rw (is, read) at d) (rw (is, read) at f)

  pub choices_fault : (e : TableFault) → goods_stage columns.form goods columns.headers ≡ None → count_stage form records ≡ None → fields_stage columns.form columns.headers records ≡ None → sizes_stage columns.form columns.headers (figures_of columns.form columns.headers records) ≡ None → choices_stage columns.form columns.headers (figures_of columns.form columns.headers records) ≡ Some e → first_fault form goods records ≡ Some e
  choices_fault e b c d f h = under_headers form goods records some ∙ in_choices form goods (headers_in (record_at records 0)) records e a (rw (is, read) at b) c (rw (is, read) at d) (rw (is, read) at f) (rw (is, read) at h)

  pub no_fault : goods_stage columns.form goods columns.headers ≡ None → count_stage form records ≡ None → fields_stage columns.form columns.headers records ≡ None → sizes_stage columns.form columns.headers (figures_of columns.form columns.headers records) ≡ None → choices_stage columns.form columns.headers (figures_of columns.form columns.headers records) ≡ None → first_fault form goods records ≡ None
  no_fault b c d f h = under_headers form goods records some ∙ in_none form goods (headers_in (record_at records 0)) records a (rw (is, read) at b) c (rw (is, read) at d) (rw (is, read) at f) (rw (is, read) at h)

pub columns_fault : (form : Form) (goods : List (List ℕ)) (records : List (List (List ℕ))) (e : TableFault) → 0 < length records → headers_stage form (headers_in (record_at records 0)) ≡ Some e → first_fault form goods records ≡ Some e
columns_fault form goods records e some a = under_headers form goods records some ∙ in_headers form goods (headers_in (record_at records 0)) records e a
