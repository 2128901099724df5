-- What a field says, and the fault of a record.
use Rattle.std.proofs.Common.{◌≡◌, ◌≢◌, ℕ, ◌==◌, true, false, ◌&&◌, nat_lt, List, length, get_or, Option, Some, None, Result, Ok, Err, refl, arith}
use Rattle.std.specs.Result.{IfOk, result_unwrap_or}
use Rattle.std.proofs.lemmas.Bool.Decides.{nat_tests}
use Rattle.rp_num.specs.declared.decimal.Decimal.{Decimal}
use Rattle.rp_num.specs.Below.{first_of, listed}
use Rattle.rp_forms.specs.Texts.{trimmed, text_at, number_of}
use Rattle.rp_forms.specs.Columns.{role_of, role_at, measures}
use Rattle.rp_sheet.specs.Fields.{RecordFaults, nothing, field_of, field_at, figure, row_at, buys_nothing, fault_in_record}
use Rattle.rp_forms.specs.declared.form.Form.{Form}
use Rattle.rp_forms.specs.declared.form.Marks.{Marks}
use Rattle.rp_forms.specs.declared.form.Role.{Role}
use Rattle.rp_sheet.specs.declared.fault.TableFault.{TableFault}
use Rattle.rp_sheet.specs.declared.fault.TableFault.TheVariants as fault
use Rattle.rp_num.proofs.BelowLemmas.{any_same, get-listed}

-- the role of a column that has one
pub role_is : (marks : Marks) (headers : List (List ℕ)) (c : ℕ) (role : Role) → role_of marks (text_at headers c) ≡ Some role → role_at marks headers c ≡ role
role_is marks headers c role is = rw is refl

-- what a field says
pub field_read : (form : Form) (headers : List (List ℕ)) (records : List (List (List ℕ))) (t c : ℕ) (role : Role) (text : List ℕ) (row column : ℕ) (result : Result Decimal TableFault)
    → role_of form.marks (text_at headers c) ≡ Some role → text ≡ text_at (row_at records t) c → row ≡ number_of t → column ≡ number_of c → result ≡ field_of form.budgets role (trimmed text) row column
    → field_at form headers records t c ≡ result
unfolding field_at
field_read form headers records t c role text row column result is there told at_column read =
    rw (role_is _ headers c role is, ← there, ← told, ← at_column, read) refl

-- the number that is read
pub number_read : (r f : Result Decimal TableFault) → f ≡ r → IfOk r (λ n. n ≡ result_unwrap_or f nothing)
number_read (Ok n) f is = rw is refl
number_read (Err e) f is = tt

module _ {F : Type 0} (faults : RecordFaults F) (form : Form) (headers : List (List ℕ)) (records : List (List (List ℕ))) (t : ℕ) where
  -- a record of another length
  pub ragged : length (row_at records t) ≢ length headers → fault_in_record faults form headers records t ≡ Some (faults.told (fault.Ragged (number_of t)))
  ragged other =
      let test : (length (row_at records t) == length headers) ≡ false = grind (arith, nat_tests) in
      rw test refl

  -- a record with a fault in a column
  pub bad_field : (e : F) → length (row_at records t) ≡ length headers → first_of (length headers) (faults.field_fault form headers records t) ≡ Some e → fault_in_record faults form headers records t ≡ Some e
  bad_field e same faulty =
      let test : (length (row_at records t) == length headers) ≡ true = grind (arith, nat_tests) in
      rw (test, faulty) refl

  -- a record with none
  pub after_fields : (o : Option F) → length (row_at records t) ≡ length headers → first_of (length headers) (faults.field_fault form headers records t) ≡ None → o ≡ faults.rest_fault form headers records t
      → fault_in_record faults form headers records t ≡ o
  after_fields o same fine rest =
      let test : (length (row_at records t) == length headers) ≡ true = grind (arith, nat_tests) in
      rw (test, fine, rest) refl

-- whether nothing is bought, by the numbers that were read
pub nothing_bought : (form : Form) (headers : List (List ℕ)) (records : List (List (List ℕ))) (t : ℕ) (figures : List Decimal) → figures ≡ listed (length headers) (figure form headers records t)
    → buys_nothing form.marks headers (λ c. get_or figures c nothing) ≡ buys_nothing form.marks headers (figure form headers records t)
nothing_bought form headers records t figures read =
    let same = any_same (λ c. measures (role_at form.marks headers c) && nat_lt 0 (get_or figures c nothing).units) (λ c. measures (role_at form.marks headers c) && nat_lt 0 (figure form headers records t c).units) (length headers)
    (λ k below. let here : get_or figures k nothing ≡ figure form headers records t k = rw read (get-listed (figure form headers records t) (length headers) k nothing below) in rw here refl) in
    rw same refl
