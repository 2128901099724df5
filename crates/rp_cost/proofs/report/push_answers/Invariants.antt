use Rattle.std.proofs.Common.{◌≡◌, ◌++◌}
use Rattle.rp_cost.specs.Report.{answers_text}
use Rattle.rp_cost.proofs.report.push_answers.Given as goal

abbrev pub invariant-loop-i : goal.invariant-loop-i
invariant-loop-i l = l.out.items ≡ l.initial.out.items ++ answers_text l.i l.asked l.bounds
