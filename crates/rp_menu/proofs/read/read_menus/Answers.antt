use Rattle.std.proofs.Common.{ap, ◌∙◌}
use Rattle.rp_sheet.specs.Records.{records_in}
use Rattle.rp_menu.specs.Denotation.{denoted_menus}
use Rattle.rp_menu.proofs.DenotedMenus.{first_records}
use Rattle.rp_menu.proofs.read.read_menus.Goals as goal

pub returns-clause-denoted : goal.returns-clause-denoted
returns-clause-denoted c =
    let same = ap denoted_menus c.in_ok-records.ensures ∙ first_records (records_in c.args.bytes.now) in
    rw (← same) c.menus_from.ensures.denoted

pub returns-clause-refused : goal.returns-clause-refused
returns-clause-refused c =
    let same = ap denoted_menus c.in_ok-records.ensures ∙ first_records (records_in c.args.bytes.now) in
    rw (← same) c.menus_from.ensures.refused
