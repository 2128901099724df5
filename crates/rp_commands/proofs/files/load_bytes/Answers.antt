use Rattle.std.proofs.Common.{refl}
use Rattle.rp_commands.specs.Endings.{Rose}
use Rattle.rp_commands.proofs.FileLemmas.{too_long}
use Rattle.rp_commands.proofs.files.load_bytes.Goals as goal

pub returns-in-Err-TooLong-clause-caused : goal.returns-in-Err-TooLong-clause-caused
returns-in-Err-TooLong-clause-caused g c =
    too_long (g.D.Desk.bytes c.args.desk.now) (Rose (g.D.Desk.faults c.args.desk.now) (g.D.Desk.faults c.load.new.desk)) c.args.file.now c.refused.result ((rw c.in-Err-TooLong.field-0-is at c.in-Err-TooLong.ensures.too_long_only) refl) c.refused.ensures
