use Rattle.std.proofs.Common.{◌≡◌, ◌+◌, None, Some, if◌then◌else◌, length, nat_lt}
use Rattle.rp_num.specs.Below.{first_of}
use Rattle.rp_forms.specs.Texts.{number_of}
use Rattle.rp_menu.specs.Cells.{cells_below, menus_below}
use Rattle.rp_menu.specs.declared.fault.MenuFault.TheVariants as fault
use Rattle.rp_menu.proofs.cells.tally_of.Given as goal

abbrev pub invariant-loop-t : goal.invariant-loop-t
invariant-loop-t l = record {
  menus : l.menus.items ≡ menus_below l.menu_rows l.t;
  cells : l.cells.items ≡ cells_below l.menu_rows l.t;
  faultless : first_of l.t (λ t. if nat_lt 64 (length (cells_below l.menu_rows (t + 1))) then Some (fault.TooManyCells (number_of t)) else None) ≡ None;
}
