use Rattle.std.proofs.Common.{ℕ, arith, slice_index}
use Rattle.rp_cost.specs.declared.bounds.CostBounds.{CostBounds}
use Rattle.rp_support.proofs.ListSteps.{entry_more}
use Rattle.rp_table.specs.Rows.{row_of}
use Rattle.rp_answers.specs.CostText.{IsCostAnswer}
use Rattle.rp_answers.proofs.cost.bounds_of_each.Goals as goal

pub loop-i-preserved : goal.loop-i-preserved
loop-i-preserved c =
    let l = c.loop-i in
    let tech = c.args.tech.now in
    let asked = c.args.asked.now in
    let given = c.in_ok-bounds.ensures in
    let answers = λ (i : ℕ) (bounds : CostBounds). IsCostAnswer tech (row_of asked.prices.prices asked.prices.goods i) (slice_index asked.y i) bounds in
    let last = rw (c.row.ensures.exact, c.y.ensures.exact) at given in
    record {
      one_each = omega (arith, l.invariant.one_each, c.in_ok-push.ensures.len, l.all.ok.0, c.push.new.self.ok.0);
      each = entry_more answers l.all.items l.i c.in_ok-bounds.bounds l.invariant.one_each l.invariant.each (record {
        proves = last.proves;
        given = last.given;
        accepted = last.accepted;
        made_is_outer = last.made_is_outer;
        lower_at_most_upper = last.lower_at_most_upper;
        nothing_below = last.nothing_below;
        producers = last.producers;
      }) c.push.new.self.items c.in_ok-push.ensures.items;
    }
