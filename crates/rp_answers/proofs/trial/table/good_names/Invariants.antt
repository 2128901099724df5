use Rattle.std.proofs.Common.{◌≡◌}
use Rattle.rp_num.specs.Below.{listed}
use Rattle.rp_answers.specs.TrialTable.{good_name}
use Rattle.rp_answers.proofs.trial.table.good_names.Given as goal

abbrev pub invariant-loop-g : goal.invariant-loop-g
invariant-loop-g l = l.names.items ≡ listed l.g good_name
