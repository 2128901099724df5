-- Each clause is that of `run_edition` by the definitions alone.
use Rattle.rp_run.proofs.running.run.Goals as goal

pub returns-clause-words : goal.returns-clause-words
returns-clause-words g c = c.run_edition-status.ensures.words

pub returns-clause-refused_by_clap : goal.returns-clause-refused_by_clap
returns-clause-refused_by_clap g c = c.run_edition-status.ensures.refused_by_clap

pub returns-clause-shapes : goal.returns-clause-shapes
returns-clause-shapes g c = c.run_edition-status.ensures.shapes

pub returns-clause-written : goal.returns-clause-written
returns-clause-written g c = c.run_edition-status.ensures.written

pub returns-clause-verdict : goal.returns-clause-verdict
returns-clause-verdict g c = c.run_edition-status.ensures.verdict

pub returns-clause-why : goal.returns-clause-why
returns-clause-why g c = c.run_edition-status.ensures.why

pub returns-clause-turns : goal.returns-clause-turns
returns-clause-turns g c = c.run_edition-status.ensures.turns

pub returns-clause-names : goal.returns-clause-names
returns-clause-names g c = c.run_edition-status.ensures.names

pub returns-clause-complete : goal.returns-clause-complete
returns-clause-complete g c = c.run_edition-status.ensures.complete

pub returns-clause-refused : goal.returns-clause-refused
returns-clause-refused g c = c.run_edition-status.ensures.refused

pub returns-clause-stays : goal.returns-clause-stays
returns-clause-stays g c = c.run_edition-status.ensures.stays
