use Rattle.std.proofs.Common.{◌≡◌, ◌++◌, take}
use Rattle.std.specs.List.{flat_map}
use Rattle.rp_print.specs.HeadText.{head_text}
use Rattle.rp_fit_report.specs.FitReportText.{fit_item_text}
use Rattle.rp_fit_report.proofs.report.report_fit.Given as goal

abbrev pub invariant-loop-k : goal.invariant-loop-k
invariant-loop-k l = l.text.items ≡ head_text l.input.table.now ++ flat_map (fit_item_text l.input.table.now) (take l.k l.items)
