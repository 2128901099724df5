use Rattle.std.proofs.Common.{◌≡◌, None, Some, not, if◌then◌else◌}
use Rattle.rp_num.specs.Below.{first_of}
use Rattle.rp_forms.specs.Texts.{number_of}
use Rattle.rp_sheet.specs.ChoiceCounts.{is_chosen}
use Rattle.rp_sheet.specs.declared.fault.TableFault.TheVariants as fault
use Rattle.rp_sheet.proofs.sheet.check_choices.Given as goal

abbrev pub invariant-loop-j : goal.invariant-loop-j
invariant-loop-j l =
    first_of l.j (λ j. if not (is_chosen l.columns.headers l.figures j) then Some (fault.NoChoices (number_of j)) else None) ≡ None
