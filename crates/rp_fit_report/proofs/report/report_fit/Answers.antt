use Rattle.std.proofs.Common.{Ok, sym, subst, arith}
use Rattle.rp_check_goodness.specs.FitVerdict.{FitItemFails}
use Rattle.rp_evidence.specs.Input.{input_of_table}
use Rattle.rp_fit_report.proofs.report.report_fit.Goals as goal

pub push_item-requires : goal.push_item-requires
push_item-requires c =
    subst (λ x. FitItemFails (input_of_table c.args.input.now.table.now) x (Ok tt)) (sym c.index-items-k.is) (c.requires c.loop-k.k (omega arith) c.index-items-k.result)
