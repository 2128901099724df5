use Rattle.std.proofs.Common.{◌≡◌, ◌++◌, take}
use Rattle.std.specs.List.{flat_map}
use Rattle.rp_fit_report.specs.CyclesText.{cycle_text}
use Rattle.rp_fit_report.proofs.cycles.push_each_cycle.Given as goal

abbrev pub invariant-loop-each : goal.invariant-loop-each
invariant-loop-each l = l.out.items ≡ l.fn.out.items ++ flat_map cycle_text (take l.each-index l.walks)
