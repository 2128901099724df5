use Rattle.std.proofs.Common.{◌≡◌, ◌≢◌, List, length, None, Some, Ok, Err, sym, ap, subst, ◌∙◌}
use Rattle.rp_num.proofs.PassedOn.{passed_on}
use Rattle.rp_menu.specs.Cells.{cells_below, letters_of, menu_list, menus_below}
use Rattle.rp_menu.specs.Denotation.{cells_stage, denoted_menus, menus_stage}
use Rattle.rp_menu.specs.MenuLists.{IsMenuList}
use Rattle.rp_menu.specs.declared.menu_row.MenuRow.{MenuRow}
use Rattle.rp_menu.specs.declared.fault.MenuFault.{MenuFault}
use Rattle.rp_menu.specs.declared.fault.MenuFault.TheVariants as fault
use Rattle.rp_menu.proofs.CountedRecords.{menus_are}
use Rattle.rp_menu.proofs.DenotedMenus.{in_cells, in_sheet, in_times, listed_as, menus_there}
use Rattle.rp_menu.proofs.read.menus_from.Goals as goal

pub returns-in_err-menu_rows-clause-refused : goal.returns-in_err-menu_rows-clause-refused
returns-in_err-menu_rows-clause-refused c =
    passed_on c.from_residual.result c.in_err-menu_rows.field-0.0 (λ (e : MenuFault). e ≢ fault.NoMemory → denoted_menus c.args.records.now ≡ Err e) c.from_residual.ensures
    (λ other. in_sheet c.args.records.now c.in_err-menu_rows.field-0.0 (c.in_err-menu_rows.ensures.refused other))

pub returns-in_err-check_times-clause-refused : goal.returns-in_err-check_times-clause-refused
returns-in_err-check_times-clause-refused c =
    let said = c.as_slice.ensures.value ∙ c.in_ok-menu_rows.ensures.read in
    passed_on c.from_residual-in_err-check_times.result c.in_err-check_times.field-0.0 (λ (e : MenuFault). e ≢ fault.NoMemory → denoted_menus c.args.records.now ≡ Err e) c.from_residual-in_err-check_times.ensures
    (λ other. in_times c.args.records.now c.in_err-check_times.field-0.0 c.in_ok-menu_rows.ensures.faultless
    (subst (λ (es : List MenuRow). menus_stage es ≡ Some c.in_err-check_times.field-0.0) said (c.in_err-check_times.ensures.refused other)))

pub returns-in_err-tally-clause-refused : goal.returns-in_err-tally-clause-refused
returns-in_err-tally-clause-refused c =
    let said = c.as_slice.ensures.value ∙ c.in_ok-menu_rows.ensures.read in
    let again = c.as_slice-2.ensures.value ∙ c.in_ok-menu_rows.ensures.read in
    passed_on c.from_residual-in_err-tally.result c.in_err-tally.field-0.0 (λ (e : MenuFault). e ≢ fault.NoMemory → denoted_menus c.args.records.now ≡ Err e) c.from_residual-in_err-tally.ensures
    (λ other. in_cells c.args.records.now c.in_err-tally.field-0.0 c.in_ok-menu_rows.ensures.faultless
    (subst (λ (es : List MenuRow). menus_stage es ≡ None) said c.in_ok-check_times.ensures.fine)
    (subst (λ (es : List MenuRow). cells_stage es ≡ Some c.in_err-tally.field-0.0) again (c.in_err-tally.ensures.refused other)))

pub fill_menus-requires : goal.fill_menus-requires
fill_menus-requires c =
    let menu_rows = c.in_ok-menu_rows.menu_rows.items in
    let some = subst (λ (es : List MenuRow). menus_stage es ≡ None) c.as_slice.ensures.value c.in_ok-check_times.ensures.fine in
    let fine = subst (λ (es : List MenuRow). cells_stage es ≡ None) c.as_slice-2.ensures.value c.in_ok-tally.ensures.faultless in
    let letters = c.letters_of.ensures ∙ ap letters_of c.as_slice-3.ensures.value in
    let menus = c.in_ok-tally.ensures.menus ∙ ap (λ (es : List MenuRow). menus_below es (length es)) c.as_slice-2.ensures.value in
    let cells = c.in_ok-tally.ensures.cells ∙ ap (λ (es : List MenuRow). cells_below es (length es)) c.as_slice-2.ensures.value in
    subst IsMenuList (sym (listed_as menu_rows c.letters_of.result c.in_ok-tally.tally.menus.items c.in_ok-tally.tally.cells.items letters menus cells))
    (menus_are menu_rows c.in_ok-menu_rows.ensures.few c.in_ok-menu_rows.ensures.sound some fine)

pub returns-clause-denoted : goal.returns-clause-denoted
returns-clause-denoted c =
    let menu_rows = c.in_ok-menu_rows.menu_rows.items in
    let said = c.as_slice.ensures.value ∙ c.in_ok-menu_rows.ensures.read in
    let again = c.as_slice-2.ensures.value ∙ c.in_ok-menu_rows.ensures.read in
    let some = subst (λ (es : List MenuRow). menus_stage es ≡ None) said c.in_ok-check_times.ensures.fine in
    let fine = subst (λ (es : List MenuRow). cells_stage es ≡ None) again c.in_ok-tally.ensures.faultless in
    let letters = c.letters_of.ensures ∙ ap letters_of c.as_slice-3.ensures.value in
    let menus = c.in_ok-tally.ensures.menus ∙ ap (λ (es : List MenuRow). menus_below es (length es)) c.as_slice-2.ensures.value in
    let cells = c.in_ok-tally.ensures.cells ∙ ap (λ (es : List MenuRow). cells_below es (length es)) c.as_slice-2.ensures.value in
    let made = c.in_ok-fill_menus.ensures ∙ listed_as menu_rows c.letters_of.result c.in_ok-tally.tally.menus.items c.in_ok-tally.tally.cells.items letters menus cells ∙ ap menu_list c.in_ok-menu_rows.ensures.read in
    menus_there c.args.records.now c.in_ok-menu_rows.ensures.faultless some fine ∙ ap Ok (sym made)
