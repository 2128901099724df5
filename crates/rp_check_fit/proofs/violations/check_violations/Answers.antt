use Rattle.rp_evidence.specs.Input.{input_of_table}
use Rattle.rp_check_fit.proofs.CountedPairs.{counts_prove}
use Rattle.rp_check_fit.proofs.violations.check_violations.Goals as goal

pub returns-clause-proves : goal.returns-clause-proves
returns-clause-proves c = counts_prove (input_of_table c.args.input.now.table.now) c.args.part.now c.check_counts.result c.check_counts.ensures
