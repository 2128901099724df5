use Rattle.rp_generated.proofs.FoundProves.{it_proves, it_says, it_shows}
use Rattle.rp_limits.specs.declared.generated.TheConstants.{STEPS}
use Rattle.rp_generated.proofs.generated_verdict.generated.Goals as goal

pub returns-clause-proves : goal.returns-clause-proves
returns-clause-proves c = it_proves c.args.patches.now c.budgets.ensures.valid STEPS c.if_taken.result c.if_taken.ensures.accepted

pub returns-clause-share : goal.returns-clause-share
returns-clause-share c = it_shows c.args.patches.now c.budgets.ensures.valid STEPS c.if_taken.result c.if_taken.ensures.accepted

pub returns-clause-says : goal.returns-clause-says
returns-clause-says c = it_says c.args.patches.now c.budgets.ensures.valid STEPS c.if_taken.result c.if_taken.ensures.accepted
