-- A field of a record, as the reading of records names it.
use Rattle.std.proofs.Common.{◌≡◌, ℕ, zero, suc, ◌<◌, List, [], ◌∷◌, length, map, get_or, Some, None, refl, sym, ap, ◌∙◌, arith}
use Rattle.std.proofs.lemmas.List.{get_or-map, length-map}
use Rattle.csv.specs.Records.{field_at, fields_of}
use Rattle.csv.specs.declared.record.ByteRecord.{ByteRecord}
use Rattle.rp_sheet.specs.Records.{record_at}
use Rattle.rp_forms.specs.Texts.{text_at}

pub field_there : (fields : List (List ℕ)) (c : ℕ) (field : List ℕ) → Some field ≡ field_at fields c → field ≡ text_at fields c
unfolding field_at
field_there [] c field is = cc is
field_there (f ∷ fs) zero field is = cc is
field_there (f ∷ fs) (suc c) field is = field_there fs c field is

pub field_missing : (fields : List (List ℕ)) (c : ℕ) → None ≡ field_at fields c → [] ≡ text_at fields c
unfolding field_at
field_missing [] c is = refl
field_missing (f ∷ fs) zero is = cc is
field_missing (f ∷ fs) (suc c) is = field_missing fs c is

-- a record among those that were read
pub record_there : (read : List ByteRecord) (view : List (List (List ℕ))) (k : ℕ) (record_k : ByteRecord) → map fields_of read ≡ view → k < length view → record_k ≡ get_or read k record_k → fields_of record_k ≡ record_at view k
record_there read view k record_k is within there =
    let inside : k < length read = omega (arith, length-map read fields_of, ap length is) in
    ap fields_of there ∙ sym (get_or-map fields_of read k record_k [] inside) ∙ ap (λ records. record_at records k) is
