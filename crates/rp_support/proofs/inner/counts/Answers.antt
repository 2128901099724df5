use Rattle.std.proofs.Common.{◌≡◌, ◌<◌, arith}
use Rattle.rp_evidence.specs.Count.{IsCount}
use Rattle.rp_evidence.specs.Preference.{IsWeak}
use Rattle.rp_pref.proofs.ClosureLemmas.{count_by_closure}
use Rattle.rp_table.specs.Cost.{cost_of}
use Rattle.rp_table.specs.Tables.{records_of}
use Rattle.rp_support.proofs.ListSteps.{length_more, number_more}
use Rattle.rp_support.proofs.inner.counts.Goals as goal

pub loop-s-preserved : goal.loop-s-preserved
loop-s-preserved c =
    let table = c.args.budget.now.at.table.now in
    let n = records_of table in
    let step = IsWeak (cost_of table) in
    let l = c.loop-s in
    let below : l.s < n = omega (arith, c.loop-s-test.true, c.n-s-end.ensures.count) in
    let last = count_by_closure c.args.closure.now n step l.s c.count.result c.requires below c.count.ensures in
    record {
      one_each = length_more (IsCount n step) l.counts.items l.s c.count.result l.invariant.one_each l.invariant.each last c.push.new.self.items c.in_ok-push.ensures.items;
      each = number_more (IsCount n step) l.counts.items l.s c.count.result l.invariant.one_each l.invariant.each last c.push.new.self.items c.in_ok-push.ensures.items;
    }

pub returns : goal.returns
returns c =
    let n = records_of c.args.budget.now.at.table.now in
    let l = c.loop-s in
    let end : l.s ≡ n = omega (arith, c.loop-s-test.false, l.auto.s-end, c.n-s-end.ensures.count) in
    record {
      one_each = omega (arith, l.invariant.one_each);
      each = λ s below. l.invariant.each s (omega arith);
    }
