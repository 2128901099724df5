-- The stages of a table's faults, from what was tested.
use Rattle.std.proofs.Common.{◌≡◌, ◌≢◌, ℕ, suc, ◌+◌, ◌-◌, ◌<◌, ◌≤◌, ◌==◌, nat_lt, ◌⊎◌, inl, inr, Bool, nat_le, true, false, List, [], ◌∷◌, length, take, Option, Some, None, Ok, Err, refl, ap, subst, arith}
use Rattle.std.proofs.lemmas.Bool.Decides.{nat_tests}
use Rattle.std.proofs.lemmas.List.{take_all, length-take-le}
use Rattle.rp_num.specs.Below.{first_there}
use Rattle.rp_sheet.specs.Headers.{headers_in, headers_stage, goods_stage}
use Rattle.rp_sheet.specs.Records.{record_at}
use Rattle.rp_sheet.specs.Fields.{figures_of, count_stage, fields_stage}
use Rattle.rp_sheet.specs.Sizes.{sizes_stage}
use Rattle.rp_sheet.specs.ChoiceCounts.{choices_stage}
use Rattle.rp_sheet.specs.Sheets.{fault_under, first_fault, unless_fault}
use Rattle.rp_forms.specs.declared.form.Form.{Form}
use Rattle.rp_sheet.specs.declared.fault.TableFault.{TableFault}
use Rattle.rp_sheet.specs.declared.fault.TableFault.TheVariants as fault

pub no_records : (form : Form) (records : List (List (List ℕ))) → length records ≡ 1 → count_stage form records ≡ Some fault.NoRecords
unfolding count_stage
no_records form records one =
    let none : (length records - 1 == 0) ≡ true = grind (arith, nat_tests) in
    rw none refl

pub many_records : (form : Form) (records : List (List (List ℕ))) → form.most < length records - 1 → count_stage form records ≡ Some fault.TooManyRecords
unfolding count_stage
many_records form records many =
    let some : (length records - 1 == 0) ≡ false = grind (arith, nat_tests) in
    let more : nat_lt form.most (length records - 1) ≡ true = grind (arith, nat_tests) in
    rw (some, more) refl

pub fine_records : (form : Form) (records : List (List (List ℕ))) → 0 < length records → length records ≢ 1 → length records - 1 ≤ form.most → count_stage form records ≡ None
unfolding count_stage
fine_records form records some other few =
    let not_none : (length records - 1 == 0) ≡ false = grind (arith, nat_tests) in
    let not_many : nat_lt form.most (length records - 1) ≡ false = grind (arith, nat_tests) in
    rw (not_none, not_many) refl

-- records that are there have the faults under their headers
pub under_headers : (form : Form) (goods : List (List ℕ)) (records : List (List (List ℕ))) → 0 < length records → first_fault form goods records ≡ fault_under form goods (headers_in (record_at records 0)) records
unfolding first_fault
under_headers form goods [] some = absurd (omega arith)
under_headers form goods (header ∷ rows) some = refl

-- the first stage with a fault
pub in_headers : (form : Form) (goods headers : List (List ℕ)) (records : List (List (List ℕ))) (e : TableFault) → headers_stage form headers ≡ Some e → fault_under form goods headers records ≡ Some e
unfolding fault_under
in_headers form goods headers records e a = rw a refl

pub in_goods : (form : Form) (goods headers : List (List ℕ)) (records : List (List (List ℕ))) (e : TableFault) → headers_stage form headers ≡ None → goods_stage form goods headers ≡ Some e → fault_under form goods headers records ≡ Some e
unfolding fault_under
in_goods form goods headers records e a b = rw (a, b) refl

pub in_count : (form : Form) (goods headers : List (List ℕ)) (records : List (List (List ℕ))) (e : TableFault) → headers_stage form headers ≡ None → goods_stage form goods headers ≡ None → count_stage form records ≡ Some e → fault_under form goods headers records ≡ Some e
unfolding fault_under
in_count form goods headers records e a b c = rw (a, b, c) refl

pub in_fields : (form : Form) (goods headers : List (List ℕ)) (records : List (List (List ℕ))) (e : TableFault) → headers_stage form headers ≡ None → goods_stage form goods headers ≡ None → count_stage form records ≡ None → fields_stage form headers records ≡ Some e → fault_under form goods headers records ≡ Some e
unfolding fault_under
in_fields form goods headers records e a b c d = rw (a, b, c, d) refl

pub in_sizes : (form : Form) (goods headers : List (List ℕ)) (records : List (List (List ℕ))) (e : TableFault) → headers_stage form headers ≡ None → goods_stage form goods headers ≡ None → count_stage form records ≡ None → fields_stage form headers records ≡ None → sizes_stage form headers (figures_of form headers records) ≡ Some e → fault_under form goods headers records ≡ Some e
unfolding fault_under
in_sizes form goods headers records e a b c d f = rw (a, b, c, d, f) refl

pub in_choices : (form : Form) (goods headers : List (List ℕ)) (records : List (List (List ℕ))) (e : TableFault) → headers_stage form headers ≡ None → goods_stage form goods headers ≡ None → count_stage form records ≡ None → fields_stage form headers records ≡ None → sizes_stage form headers (figures_of form headers records) ≡ None → choices_stage form headers (figures_of form headers records) ≡ Some e → fault_under form goods headers records ≡ Some e
unfolding fault_under
in_choices form goods headers records e a b c d f h = rw (a, b, c, d, f, h) refl

pub in_none : (form : Form) (goods headers : List (List ℕ)) (records : List (List (List ℕ))) → headers_stage form headers ≡ None → goods_stage form goods headers ≡ None → count_stage form records ≡ None → fields_stage form headers records ≡ None → sizes_stage form headers (figures_of form headers records) ≡ None → choices_stage form headers (figures_of form headers records) ≡ None → fault_under form goods headers records ≡ None
unfolding fault_under
in_none form goods headers records a b c d f h = rw (a, b, c, d, f, h) refl

-- a file without a fault denotes its value
pub value_denoted : {A : Type 0} (first : Option TableFault) (value : A) → first ≡ None → unless_fault first value ≡ Ok value
value_denoted first value none = rw none refl

-- a file with a fault denotes the first
pub fault_denoted : {A : Type 0} (first : Option TableFault) (value : A) (e : TableFault) → first ≡ Some e → unless_fault first value ≡ Err e
fault_denoted first value e faulty = rw faulty refl

-- the first fault of a file, for another name of its kind and its goods
pub same_fault : {form kind : Form} {given goods : List (List ℕ)} (records : List (List (List ℕ))) (o : Option TableFault) → form ≡ kind → given ≡ goods → first_fault form given records ≡ o → first_fault kind goods records ≡ o
same_fault {form} {kind} {given} {goods} records o is of_goods fault_is =
    subst (λ (f : Form). first_fault f goods records ≡ o) is (subst (λ (g : List (List ℕ)). first_fault form g records ≡ o) of_goods fault_is)

-- what is refused for its headers or for the number of its records is refused whatever the records are
refused_early : {A : Type 0} (h g n a b i x y j : Option TableFault) (e : TableFault) (v w : A) → n ≡ Some e → unless_fault (first_there (h ∷ g ∷ n ∷ a ∷ b ∷ i ∷ [])) v ≡ unless_fault (first_there (h ∷ g ∷ n ∷ x ∷ y ∷ j ∷ [])) w
refused_early (Some f) g n a b i x y j e v w is = refl
refused_early None (Some f) n a b i x y j e v w is = refl
refused_early None None n a b i x y j e v w is = rw is refl

at_most : (n m : ℕ) → nat_le n m ≡ true → n ≤ m
at_most n m e = grind (arith, nat_tests)

more_than : (n m : ℕ) → nat_le n m ≡ false → m < n
more_than n m e = grind (arith, nat_tests)

few_or_many : (n m : ℕ) → (n ≤ m) ⊎ (m < n)
few_or_many n m = by (nat_le n m) refl
  where
    by : (b : Bool) → nat_le n m ≡ b → (n ≤ m) ⊎ (m < n)
    by true e = inl (at_most n m e)
    by false e = inr (more_than n m e)

too_long : {A : Type 0} (form : Form) (goods : List (List ℕ)) (value : List (List (List ℕ)) → A) (records : List (List (List ℕ))) → form.most + 2 < length records
    → unless_fault (first_fault form goods (take (form.most + 2) records)) (value (take (form.most + 2) records)) ≡ unless_fault (first_fault form goods records) (value records)
unfolding first_fault fault_under
too_long form goods value [] many = absurd (omega arith)
too_long form goods value (header ∷ rows) many =
    let more : form.most + 2 ≡ suc (form.most + 1) = omega arith in
    let taken : length (take (form.most + 1) rows) ≡ form.most + 1 = length-take-le (form.most + 1) rows (omega arith) in
    let first : count_stage form (header ∷ take (form.most + 1) rows) ≡ Some fault.TooManyRecords = many_records form (header ∷ take (form.most + 1) rows) (omega (arith, taken)) in
    let all : count_stage form (header ∷ rows) ≡ Some fault.TooManyRecords = many_records form (header ∷ rows) (omega arith) in
    rw (more, first, all) (refused_early (headers_stage form (headers_in header)) (goods_stage form goods (headers_in header)) (Some fault.TooManyRecords)
    (fields_stage form (headers_in header) (header ∷ take (form.most + 1) rows)) (sizes_stage form (headers_in header) (figures_of form (headers_in header) (header ∷ take (form.most + 1) rows)))
    (choices_stage form (headers_in header) (figures_of form (headers_in header) (header ∷ take (form.most + 1) rows)))
    (fields_stage form (headers_in header) (header ∷ rows)) (sizes_stage form (headers_in header) (figures_of form (headers_in header) (header ∷ rows)))
    (choices_stage form (headers_in header) (figures_of form (headers_in header) (header ∷ rows)))
    fault.TooManyRecords (value (header ∷ take (form.most + 1) rows)) (value (header ∷ rows)) refl)

-- a file denotes what its first records denote, as many as the limit, the headers and one more
pub first_records : {A : Type 0} (form : Form) (goods : List (List ℕ)) (value : List (List (List ℕ)) → A) (records : List (List (List ℕ)))
    → unless_fault (first_fault form goods (take (form.most + 2) records)) (value (take (form.most + 2) records)) ≡ unless_fault (first_fault form goods records) (value records)
first_records form goods value records = elim (few_or_many (length records) (form.most + 2)) [
  | inl few ↦ ap (λ rows. unless_fault (first_fault form goods rows) (value rows)) (take_all (form.most + 2) records few)
  | inr many ↦ too_long form goods value records many
]
