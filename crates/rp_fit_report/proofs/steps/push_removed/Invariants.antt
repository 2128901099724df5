use Rattle.std.proofs.Common.{◌≡◌, ◌++◌}
use Rattle.rp_fit_report.specs.StepsText.{removed_text}
use Rattle.rp_fit_report.proofs.steps.push_removed.Given as goal

abbrev pub invariant-loop-s : goal.invariant-loop-s
invariant-loop-s l = l.out.items ≡ l.fn.out.items ++ removed_text l.s l.taken
