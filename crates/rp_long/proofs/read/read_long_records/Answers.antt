use Rattle.std.proofs.Common.{ap, ◌∙◌, arith}
use Rattle.rp_sheet.specs.Records.{records_in}
use Rattle.rp_long.specs.Panels.{denoted_panel}
use Rattle.rp_long.proofs.StageLemmas.{first_records, if_ok_after}
use Rattle.rp_long.proofs.read.read_long_records.Goals as goal

pub returns : goal.returns
returns c =
    if_ok_after c.of.result c.of.ensures (λ records is id kept. ap (denoted_panel id kept) is ∙ first_records id kept (records_in c.args.bytes.now) 1048578 (omega arith))
