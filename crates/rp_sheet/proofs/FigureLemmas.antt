-- The numbers of records without a fault.
use Rattle.std.proofs.Common.{◌≡◌, ℕ, ◌-◌, ◌*◌, ◌^◌, ◌<◌, ◌≤◌, Bool, true, false, not, ◌&&◌, ◌==◌, nat_le, nat_lt, if◌then◌else◌, List, [], ◌++◌, length, get_or, Option, Some, None, Result, Ok, Err, refl, sym, ap, ◌∙◌, subst, arith, lit<}
use Rattle.std.specs.List.{All}
use Rattle.std.specs.Option.{option_or}
use Rattle.std.specs.Result.{IfOk, result_err, result_unwrap_or}
use Rattle.std.proofs.lemmas.Bool.Decides.{nat_tests}
use Rattle.std.proofs.lemmas.Nat.{mul-le}
use Rattle.std.proofs.Math.Nat.{pow-le-pow_right}
use Rattle.std.specs.Prelude.{min}
use Rattle.std.specs.Str.Parse.{digits_value}
use Rattle.rp_num.specs.Decimal.{decimal_of, decimal_from, is_number, whole_part, written_places}
use Rattle.rp_num.specs.declared.decimal.Decimal.{Decimal}
use Rattle.rp_num.specs.declared.decimal.NumFault.{NumFault}
use Rattle.rp_num.specs.declared.decimal.NumFault.TheVariants.{Bad, Decimals}
use Rattle.rp_num.specs.Below.{first_of, listed}
use Rattle.rp_forms.specs.Texts.{text_at, trimmed, number_of}
use Rattle.rp_forms.specs.Columns.{role_of, role_at}
use Rattle.rp_sheet.specs.Fields.{nothing, measured, priced, whole, from_one, field_of, field_at, figure, figures_of, rows_in, row_at, buys_nothing, record_fault, fields_stage}
use Rattle.rp_sheet.specs.Sizes.{figure_at, greatest_places, places_of, size_of, size_at, scaled, sizes_of, sizes_stage}
use Rattle.rp_forms.specs.Columns.{limit_of, shares_scale}
use Rattle.rp_forms.specs.declared.form.Form.{Form}
use Rattle.rp_forms.specs.declared.form.Role.{Role}
use Rattle.rp_forms.specs.declared.form.Role.TheVariants.{Observation, Price, Quantity, Expenditure, Income, Budget, Times, Output, OutputPrice, Menu, Choice, OwnLevel}
use Rattle.rp_sheet.specs.declared.fault.TableFault.{TableFault}
use Rattle.rp_sheet.specs.declared.fault.TableFault.TheVariants as fault
use Rattle.rp_sheet.proofs.FieldFaults.{role_is}
use Rattle.rp_num.proofs.BelowLemmas.{length-listed, get-listed}
use Rattle.rp_sheet.proofs.PlaceLemmas.{none_or, none_below, fine, greatest_at_most}

-- a number has at most six places
unfoldable Few : {E : Type 0} → Result Decimal E → Type 0
Few r = IfOk r (λ d. d.places ≤ 6)

at_most_six : (n : ℕ) → nat_le n 6 ≡ true → n ≤ 6
at_most_six n e = grind (arith, nat_tests)

from_few : (whole_digits places : List ℕ) → Few (decimal_from whole_digits places)
unfolding Few
from_few whole_digits places = by (nat_le (length places) 6) refl
  where
    by : (b : Bool) → nat_le (length places) 6 ≡ b → Few (if b then Ok (record { units = min (digits_value 10 (whole_digits ++ places)) (10 ^ 18); places = length places }) else Err Decimals)
    by true e = at_most_six (length places) e
    by false e = tt

decimal_few : (text : List ℕ) → Few (decimal_of text)
unfolding Few
decimal_few text = by (is_number text)
  where
    by : (b : Bool) → Few (if b then decimal_from (whole_part text) (written_places text) else Err Bad)
    by true = from_few (whole_part text) (written_places text)
    by false = tt

measured_few : (r : Result Decimal NumFault) (row column : ℕ) → Few r → Few (measured r row column)
unfolding Few
measured_few (Ok d) row column h = h
measured_few (Err Bad) row column h = tt
measured_few (Err Decimals) row column h = tt

priced_few : (r : Result Decimal TableFault) (row column : ℕ) → Few r → Few (priced r row column)
unfolding Few
priced_few (Ok d) row column h = by (d.units == 0) (fault.ZeroPrice row column)
  where
    by : (b : Bool) (e : TableFault) → Few (if b then Err e else Ok d)
    by true e = tt
    by false e = h
priced_few (Err e) row column h = tt

whole_few : (r : Result Decimal NumFault) (row column : ℕ) → Few r → Few (whole r row column)
unfolding Few
whole_few (Ok d) row column h = by (d.places == 0) (fault.BadNumber row column)
  where
    by : (b : Bool) (e : TableFault) → Few (if b then Ok d else Err e)
    by true e = h
    by false e = tt
whole_few (Err e) row column h = tt

from_one_few : (most : ℕ) (otherwise : TableFault) (r : Result Decimal TableFault) → Few r → Few (from_one most otherwise r)
unfolding Few
from_one_few most otherwise (Ok d) h = by (nat_le 1 d.units && nat_le d.units most)
  where
    by : (b : Bool) → Few (if b then Ok d else Err otherwise)
    by true = h
    by false = tt
from_one_few most otherwise (Err e) h = tt

field_few : (budgets : ℕ) (role : Role) (text : List ℕ) (row column : ℕ) → Few (field_of budgets role text row column)
unfolding field_of Few
field_few budgets Observation text row column = omega arith
field_few budgets Price text row column = priced_few (measured (decimal_of text) row column) row column (measured_few (decimal_of text) row column (decimal_few text))
field_few budgets Quantity text row column = measured_few (decimal_of text) row column (decimal_few text)
field_few budgets Expenditure text row column = measured_few (decimal_of text) row column (decimal_few text)
field_few budgets Income text row column = measured_few (decimal_of text) row column (decimal_few text)
field_few budgets Budget text row column = from_one_few budgets (fault.UnknownBudget row) (whole (decimal_of text) row column) (whole_few (decimal_of text) row column (decimal_few text))
field_few budgets Times text row column = whole_few (decimal_of text) row column (decimal_few text)
field_few budgets Output text row column = measured_few (decimal_of text) row column (decimal_few text)
field_few budgets Menu text row column = omega arith
field_few budgets Choice text row column = omega arith
field_few budgets OwnLevel text row column = from_one_few 1000 (fault.BadLevel row column) (whole (decimal_of text) row column) (whole_few (decimal_of text) row column (decimal_few text))
field_few budgets OutputPrice text row column = priced_few (measured (decimal_of text) row column) row column (measured_few (decimal_of text) row column (decimal_few text))

unwrap_few : (r : Result Decimal TableFault) → Few r → (result_unwrap_or r nothing).places ≤ 6
unfolding Few
unwrap_few (Ok d) h = h
unwrap_few (Err e) h = omega arith

figure_few : (form : Form) (headers : List (List ℕ)) (records : List (List (List ℕ))) (t c : ℕ) → (figure form headers records t c).places ≤ 6
unfolding field_at
figure_few form headers records t c =
    unwrap_few (field_of form.budgets (role_at form.marks headers c) (trimmed (text_at (row_at records t) c)) (number_of t) (number_of c)) (field_few form.budgets (role_at form.marks headers c) (trimmed (text_at (row_at records t) c)) (number_of t) (number_of c))

-- the rows have the length of the headers
pub whole_rows : (form : Form) (headers : List (List ℕ)) (records : List (List (List ℕ))) → All (λ row. length row ≡ length headers) (figures_of form headers records)
whole_rows form headers records = λ k d within.
    let inside : k < rows_in records = omega (arith, length-listed (λ t. listed (length headers) (figure form headers records t)) (rows_in records)) in
    ap length (get-listed (λ t. listed (length headers) (figure form headers records t)) (rows_in records) k d inside) ∙ length-listed (figure form headers records k) (length headers)

-- the number at a record and a column
pub figure_there : (form : Form) (headers : List (List ℕ)) (records : List (List (List ℕ))) (t c : ℕ) → t < rows_in records → c < length headers → figure_at (figures_of form headers records) t c ≡ figure form headers records t c
figure_there form headers records t c row column =
    ap (λ figures. get_or figures c nothing) (get-listed (λ s. listed (length headers) (figure form headers records s)) (rows_in records) t [] row)
    ∙ get-listed (figure form headers records t) (length headers) c nothing column

pub rows_are : (form : Form) (headers : List (List ℕ)) (records : List (List (List ℕ))) → length (figures_of form headers records) ≡ rows_in records
rows_are form headers records = length-listed (λ t. listed (length headers) (figure form headers records t)) (rows_in records)

-- a scale has at most six places
pub few_places : (form : Form) (headers : List (List ℕ)) (records : List (List (List ℕ))) (role : Role) → greatest_places form.marks headers (figures_of form headers records) role ≤ 6
unfolding greatest_places
few_places form headers records role =
    greatest_at_most _ (length (figures_of form headers records)) 6 (λ t row.
    greatest_at_most _ (length headers) 6 (λ c column.
    let there = figure_there form headers records t c (omega (arith, rows_are form headers records)) column in
    let few : (figure_at (figures_of form headers records) t c).places ≤ 6 = rw there (figure_few form headers records t c) in
    chosen (shares_scale role (role_at form.marks headers c)) (figure_at (figures_of form headers records) t c).places few))
  where
    chosen : (b : Bool) (n : ℕ) → n ≤ 6 → (if b then n else 0) ≤ 6
    chosen true n h = h
    chosen false n h = omega arith

record_tests : (a b : Bool) (f : Option TableFault) (x y : TableFault) → (if not a then Some x else option_or f (if b then Some y else None)) ≡ None → (f ≡ None) × (b ≡ false)
record_tests true true f x y e = cc (none_or f (Some y) e).1
record_tests true false f x y e = ((none_or f None e).0, refl)
record_tests false b f x y e = cc e

-- a record without a fault
pub good_record : (form : Form) (headers : List (List ℕ)) (records : List (List (List ℕ))) (t : ℕ) → t < rows_in records → fields_stage form headers records ≡ None
    → (first_of (length headers) (λ c. result_err (field_at form headers records t c)) ≡ None) × (buys_nothing form.marks headers (figure form headers records t) ≡ false)
unfolding fields_stage record_fault
good_record form headers records t row fine_fields =
    record_tests (length (row_at records t) == length headers) (buys_nothing form.marks headers (figure form headers records t)) (first_of (length headers) (λ c. result_err (field_at form headers records t c))) _ _ (none_below (record_fault form headers records) (rows_in records) t fine_fields row)

pub some_units : (r : Result Decimal TableFault) (row column : ℕ) (d : Decimal) → priced r row column ≡ Ok d → 1 ≤ d.units
some_units (Ok e) row column d is = by (e.units == 0) refl (fault.ZeroPrice row column) is
  where
    not_zero : (n : ℕ) → (n == 0) ≡ false → 1 ≤ n
    not_zero n q = grind (arith, nat_tests)

    by : (b : Bool) → (e.units == 0) ≡ b → (f : TableFault) → (if b then Err f else Ok e) ≡ Ok d → 1 ≤ d.units
    by true q f h = cc h
    by false q f h =
        let same : e ≡ d = cc h in
        subst (λ (x : Decimal). 1 ≤ x.units) same (not_zero e.units q)
some_units (Err e) row column d is = cc is

-- a price is not 0
pub price_units : (form : Form) (headers : List (List ℕ)) (records : List (List (List ℕ))) (t c : ℕ) → t < rows_in records → c < length headers → fields_stage form headers records ≡ None → role_of form.marks (text_at headers c) ≡ Some Price
    → 1 ≤ (figure_at (figures_of form headers records) t c).units
unfolding field_at field_of
price_units form headers records t c row column fine_fields says =
    let ok = fine (field_at form headers records t c) nothing (none_below (λ k. result_err (field_at form headers records t k)) (length headers) c (good_record form headers records t row fine_fields).0 column) in
    let price = subst (λ (role : Role). field_of form.budgets role (trimmed (text_at (row_at records t) c)) (number_of t) (number_of c) ≡ Ok (figure form headers records t c)) (role_is _ headers c Price says) ok in
    let some = some_units (measured (decimal_of (trimmed (text_at (row_at records t) c))) (number_of t) (number_of c)) (number_of t) (number_of c) (figure form headers records t c) price in
    rw (figure_there form headers records t c row column) some

from_one_units : (most : ℕ) (otherwise : TableFault) (r : Result Decimal TableFault) (d : Decimal) → from_one most otherwise r ≡ Ok d → (1 ≤ d.units) × (d.units ≤ most)
from_one_units most otherwise (Ok e) d is = by (nat_le 1 e.units) (nat_le e.units most) refl refl is
  where
    at_most : (n m : ℕ) → nat_le n m ≡ true → n ≤ m
    at_most n m q = grind (arith, nat_tests)

    by : (a b : Bool) → nat_le 1 e.units ≡ a → nat_le e.units most ≡ b → (if a && b then Ok e else Err otherwise) ≡ Ok d → (1 ≤ d.units) × (d.units ≤ most)
    by true true p q h =
        let same : e ≡ d = cc h in
        subst (λ (x : Decimal). (1 ≤ x.units) × (x.units ≤ most)) same (at_most 1 e.units p, at_most e.units most q)
    by true false p q h = cc h
    by false b p q h = cc h
from_one_units most otherwise (Err e) d is = cc is

-- a number in a column of a role whose numbers are counted from 1
counted_units : (form : Form) (headers : List (List ℕ)) (records : List (List (List ℕ))) (t c : ℕ) (role : Role) (most : ℕ) (otherwise : TableFault) → t < rows_in records → c < length headers → fields_stage form headers records ≡ None → role_of form.marks (text_at headers c) ≡ Some role
    → field_of form.budgets role (trimmed (text_at (row_at records t) c)) (number_of t) (number_of c) ≡ from_one most otherwise (whole (decimal_of (trimmed (text_at (row_at records t) c))) (number_of t) (number_of c))
    → (1 ≤ (figure_at (figures_of form headers records) t c).units) × ((figure_at (figures_of form headers records) t c).units ≤ most)
unfolding field_at
counted_units form headers records t c role most otherwise row column fine_fields says counted =
    let ok = fine (field_at form headers records t c) nothing (none_below (λ k. result_err (field_at form headers records t k)) (length headers) c (good_record form headers records t row fine_fields).0 column) in
    let number = subst (λ (r : Role). field_of form.budgets r (trimmed (text_at (row_at records t) c)) (number_of t) (number_of c) ≡ Ok (figure form headers records t c)) (role_is _ headers c role says) ok in
    let known = from_one_units most otherwise (whole (decimal_of (trimmed (text_at (row_at records t) c))) (number_of t) (number_of c)) (figure form headers records t c) (sym counted ∙ number) in
    rw (figure_there form headers records t c row column) known

-- the number of a budget is that of one there is
pub budget_units : (form : Form) (headers : List (List ℕ)) (records : List (List (List ℕ))) (t c : ℕ) → t < rows_in records → c < length headers → fields_stage form headers records ≡ None → role_of form.marks (text_at headers c) ≡ Some Budget
    → (figure_at (figures_of form headers records) t c).units ≤ form.budgets
unfolding field_of
budget_units form headers records t c row column fine_fields says = (counted_units form headers records t c Budget form.budgets (fault.UnknownBudget (number_of t)) row column fine_fields says refl).1

-- an own level is from 1 to 1,000 thousandths
pub level_units : (form : Form) (headers : List (List ℕ)) (records : List (List (List ℕ))) (t c : ℕ) → t < rows_in records → c < length headers → fields_stage form headers records ≡ None → role_of form.marks (text_at headers c) ≡ Some OwnLevel
    → (1 ≤ (figure_at (figures_of form headers records) t c).units) × ((figure_at (figures_of form headers records) t c).units ≤ 1000)
unfolding field_of
level_units form headers records t c row column fine_fields says = counted_units form headers records t c OwnLevel 1000 (fault.BadLevel (number_of t) (number_of c)) row column fine_fields says refl

size_tests : (d : Decimal) (places limit row column v : ℕ) → size_of d places limit row column ≡ Ok v → (v ≡ d.units * 10 ^ (places - d.places)) × (v ≤ limit)
size_tests d places limit row column v is = by (nat_lt places d.places) (nat_lt limit (d.units * 10 ^ (places - d.places))) refl (fault.TooFine row column) (fault.TooLarge row column) is
  where
    most : (a b : ℕ) → nat_lt a b ≡ false → b ≤ a
    most a b e = grind (arith, nat_tests)

    by : (a b : Bool) → nat_lt limit (d.units * 10 ^ (places - d.places)) ≡ b → (f g : TableFault) → (if a then Err f else if b then Err g else Ok (d.units * 10 ^ (places - d.places))) ≡ Ok v → (v ≡ d.units * 10 ^ (places - d.places)) × (v ≤ limit)
    by true b e f g h = cc h
    by false true e f g h = cc h
    by false false e f g h =
        let same : d.units * 10 ^ (places - d.places) ≡ v = cc h in
        (sym same, subst (λ (n : ℕ). n ≤ limit) same (most limit (d.units * 10 ^ (places - d.places)) e))

-- a scaled number without a fault
pub good_size : (form : Form) (headers : List (List ℕ)) (figures : List (List Decimal)) (t c : ℕ) → t < length figures → c < length headers → sizes_stage form headers figures ≡ None
    → (scaled form headers figures t c ≡ (figure_at figures t c).units * 10 ^ (places_of form headers figures (role_at form.marks headers c) - (figure_at figures t c).places)) × (scaled form headers figures t c ≤ limit_of (role_at form.marks headers c))
unfolding sizes_stage size_at
good_size form headers figures t c row column fine_sizes =
    let in_row = none_below (λ s. first_of (length headers) (λ k. result_err (size_at form headers figures s k))) (length figures) t fine_sizes row in
    let ok = fine (size_at form headers figures t c) 0 (none_below (λ k. result_err (size_at form headers figures t k)) (length headers) c in_row column) in
    size_tests (figure_at figures t c) (places_of form headers figures (role_at form.marks headers c)) (limit_of (role_at form.marks headers c)) (number_of t) (number_of c) (scaled form headers figures t c) ok

-- units that are not 0 give a scaled number that is not
pub some_size : (form : Form) (headers : List (List ℕ)) (figures : List (List Decimal)) (t c : ℕ) → t < length figures → c < length headers → sizes_stage form headers figures ≡ None → 1 ≤ (figure_at figures t c).units
    → 1 ≤ scaled form headers figures t c
some_size form headers figures t c row column fine_sizes some =
    let k = places_of form headers figures (role_at form.marks headers c) - (figure_at figures t c).places in
    let power : 1 ≤ 10 ^ k = pow-le-pow_right {n = 10} (lit< tt) {i = 0} {j = k} (omega arith) in
    let product : 1 * 1 ≤ (figure_at figures t c).units * 10 ^ k = mul-le 1 1 (figure_at figures t c).units (10 ^ k) some power in
    rw (good_size form headers figures t c row column fine_sizes).0 product

-- a scaled number among all of them
pub size_listed : (form : Form) (headers : List (List ℕ)) (figures : List (List Decimal)) (t c : ℕ) → t < length figures → c < length headers → get_or (text_at (sizes_of form headers figures) t) c 0 ≡ scaled form headers figures t c
size_listed form headers figures t c row column =
    ap (λ sizes. get_or sizes c 0) (get-listed (λ s. listed (length headers) (scaled form headers figures s)) (length figures) t [] row)
    ∙ get-listed (scaled form headers figures t) (length headers) c 0 column
