use Rattle.std.proofs.Common.{ap, ◌∙◌, arith}
use Rattle.rp_table.specs.Cost.{cost_of}
use Rattle.rp_table.specs.Tables.{records_of}
use Rattle.rp_fit_report.proofs.MeanLack.{too_wide}
use Rattle.rp_fit_report.proofs.mean.common_den.Goals as goal

pub returns-in-None-clause-none : goal.returns-in-None-clause-none
returns-in-None-clause-none c =
    let table = c.args.input.now.table.now in
    too_wide (cost_of table) c.args.part.now (records_of table) c.loop-s.s c.loop-s.den c.den.result c.n.result
    (omega (arith, c.loop-s-test.true, c.loop-s.auto.s-end, c.n-s-end.ensures.count)) c.each_spends.ensures c.loop-s.invariant.0
    (c.den.ensures.value ∙ ap (λ z. z.den) c.lack_of.ensures.value) c.n.ensures.count c.in-None.ensures.none
