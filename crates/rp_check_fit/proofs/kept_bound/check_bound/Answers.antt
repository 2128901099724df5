use Rattle.std.proofs.Common.{arith}
use Rattle.rp_check_fit.proofs.KeptSound.{few_allowed}
use Rattle.rp_limits.specs.declared.table.TheConstants.{RECORDS}
use Rattle.rp_table.specs.Cost.{cost_of}
use Rattle.rp_table.specs.Tables.{records_of}
use Rattle.rp_check_fit.proofs.kept_bound.check_bound.Goals as goal

pub allowed_by-requires : goal.allowed_by-requires
allowed_by-requires c =
    let table = c.args.input.now.table.now in
    few_allowed (records_of table) RECORDS (cost_of table) c.args.groups.now (omega arith) (omega arith) c.requires.groups
