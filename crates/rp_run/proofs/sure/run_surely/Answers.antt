use Rattle.rp_commands.proofs.RunLemmas.{none_risen}
use Rattle.rp_run.proofs.sure.run_surely.Goals as goal

pub returns-clause-accepted : goal.returns-clause-accepted
returns-clause-accepted c = λ line is accepted. c.run.ensures.complete line is accepted (λ file has. none_risen) none_risen
