-- The fault of a field of a file of menus, from what was tested.
use Rattle.std.proofs.Common.{◌≡◌, ℕ, Bool, List, Some, None, refl, if◌then◌else◌}
use Rattle.std.specs.Result.{result_err}
use Rattle.rp_forms.specs.Columns.{role_of}
use Rattle.rp_sheet.specs.Fields.{field_at, row_at}
use Rattle.rp_forms.specs.Texts.{number_of, text_at}
use Rattle.rp_sheet.specs.declared.fault.TableFault.{TableFault}
use Rattle.rp_forms.specs.declared.form.Form.{Form}
use Rattle.rp_forms.specs.declared.form.Role.{Role}
use Rattle.rp_sheet.proofs.FieldFaults.{role_is}
use Rattle.rp_menu.specs.Denotation.{column_fault, lacks_menu, told}
use Rattle.rp_menu.specs.declared.fault.MenuFault.TheVariants as fault

module _ (form : Form) (headers : List (List ℕ)) (records : List (List (List ℕ))) (t c : ℕ) where
  pub bad_number : (e : TableFault) → Some e ≡ result_err (field_at form headers records t c) → Some (told e) ≡ column_fault form headers records t c
  unfolding column_fault
  bad_number e is = rw (← is) refl

  pub after_number : (role : Role) (text : List ℕ) (b : Bool) → None ≡ result_err (field_at form headers records t c) → role_of form.marks (text_at headers c) ≡ Some role → text ≡ text_at (row_at records t) c → lacks_menu role text ≡ b
      → (if b then Some (fault.BadMenu (number_of t)) else None) ≡ column_fault form headers records t c
  unfolding column_fault
  after_number role text b read says there lacks = rw (← read, role_is _ headers c role says, ← there, lacks) refl
