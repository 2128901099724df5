use Rattle.rp_table.specs.Cost.{cost_of}
use Rattle.rp_table.specs.Tables.{records_of}
use Rattle.rp_rounded.proofs.Given.{given_proves, result_proves}
use Rattle.rp_rounded.proofs.evidence.rounded_homothetic.Goals as goal

pub returns-in-Some-clause-proves : goal.returns-in-Some-clause-proves
returns-in-Some-clause-proves c =
    given_proves (records_of c.args.input.now.table.now) (cost_of c.args.input.now.table.now) c.if_it_passes.result c.if_it_passes.ensures.passes

pub returns-in-Restless-clause-proves : goal.returns-in-Restless-clause-proves
returns-in-Restless-clause-proves c =
    result_proves (records_of c.args.input.now.table.now) (cost_of c.args.input.now.table.now) c.falling_cycle.result c.falling_cycle.ensures.passes
