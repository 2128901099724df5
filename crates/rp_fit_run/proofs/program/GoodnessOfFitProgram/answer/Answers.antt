use Rattle.rp_fit_run.proofs.program.GoodnessOfFitProgram.answer.Goals as goal

pub returns-in-Fit-clause-written : goal.returns-in-Fit-clause-written
returns-in-Fit-clause-written g c = rw c.in-Fit.is c.answer_indices.ensures.held

pub returns-in-Fit-clause-names : goal.returns-in-Fit-clause-names
returns-in-Fit-clause-names g c = rw c.in-Fit.is c.answer_indices.ensures.by_name

pub returns-in-CheckFit-clause-written : goal.returns-in-CheckFit-clause-written
returns-in-CheckFit-clause-written g c = rw c.in-CheckFit.is c.answer_check.ensures.held

pub returns-in-CheckFit-clause-names : goal.returns-in-CheckFit-clause-names
returns-in-CheckFit-clause-names g c = rw c.in-CheckFit.is c.answer_check.ensures.by_name

pub returns-in-RandomWithin-clause-written : goal.returns-in-RandomWithin-clause-written
returns-in-RandomWithin-clause-written g c = rw c.in-RandomWithin.is c.answer_random.ensures.held

pub returns-in-RandomWithin-clause-names : goal.returns-in-RandomWithin-clause-names
returns-in-RandomWithin-clause-names g c = rw c.in-RandomWithin.is c.answer_random.ensures.by_name
