use Rattle.rp_sheet.specs.Records.{records_in}
use Rattle.rp_menu.proofs.NamedFaults.{never_memory}
use Rattle.rp_menu.proofs.laws.files_never_denote_want_of_memory.Goals as goal

pub returns : goal.returns
returns c = λ bytes. never_memory (records_in bytes)
