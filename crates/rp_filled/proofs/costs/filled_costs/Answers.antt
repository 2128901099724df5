use Rattle.std.proofs.Common.{◌≡◌, ℕ, arith, rules, length, subst, sym, map-id, slice_index}
use Rattle.std.proofs.lemmas.Iterator.Consumers.{YieldsList-end, YieldsList-turn}
use Rattle.std.proofs.lemmas.Iterator.Adapters.{YieldsList-from_vec}
use Rattle.rp_cost.specs.CostBounds.{AreCostBounds}
use Rattle.rp_cost.specs.declared.bounds.CostBounds.{CostBounds}
use Rattle.rp_evidence.specs.Input.{input_of_table}
use Rattle.rp_table.specs.Rows.{row_of}
use Rattle.rp_filled.specs.FilledCosts.{IsFilledCost}
use Rattle.rp_filled.proofs.CostLemmas.{costs_filled}
use Rattle.rp_filled.proofs.FoundLemmas.{none_paired, paired_more}
use Rattle.rp_filled.proofs.costs.filled_costs.Goals as goal

pub loop-bounds-init : goal.loop-bounds-init
loop-bounds-init c = none_paired _ _ c.new-all.ensures.items

pub overflow_cast-i : goal.overflow_cast-i
overflow_cast-i c =
    let turn = YieldsList-turn (YieldsList-from_vec {s = c.into_iter-bounds-iterator.result} c.args.stated.items (search rules) (search rules))
    c.loop-bounds.yielded c.loop-bounds.bounds-iterator c.loop-bounds.yielded_by c.next.result c.next.new.self c.in-Some.bounds c.in-Some.is c.next.ensures.steps in
    omega (arith, turn.0, c.requires.given.one_each, c.count.ensures.count, c.count.ensures.valid.priced.few_records, c.len-i.ensures, c.loop-bounds.all.ok.0, c.loop-bounds.invariant.one_each)

pub row-requires : goal.row-requires
row-requires c =
    let turn = YieldsList-turn (YieldsList-from_vec {s = c.into_iter-bounds-iterator.result} c.args.stated.items (search rules) (search rules))
    c.loop-bounds.yielded c.loop-bounds.bounds-iterator c.loop-bounds.yielded_by c.next.result c.next.new.self c.in-Some.bounds c.in-Some.is c.next.ensures.steps in
    omega (arith, turn.0, c.requires.given.one_each, c.len-i.ensures, c.loop-bounds.all.ok.0, c.loop-bounds.invariant.one_each)

pub y-requires : goal.y-requires
y-requires c =
    let turn = YieldsList-turn (YieldsList-from_vec {s = c.into_iter-bounds-iterator.result} c.args.stated.items (search rules) (search rules))
    c.loop-bounds.yielded c.loop-bounds.bounds-iterator c.loop-bounds.yielded_by c.next.result c.next.new.self c.in-Some.bounds c.in-Some.is c.next.ensures.steps in
    omega (arith, turn.0, c.requires.given.one_each, c.len-i.ensures, c.loop-bounds.all.ok.0, c.loop-bounds.invariant.one_each)

pub filled_cost-requires-clause-given : goal.filled_cost-requires-clause-given
filled_cost-requires-clause-given c =
    let tech = c.args.tech.now in
    let asked = c.args.asked.now in
    let turn = YieldsList-turn (YieldsList-from_vec {s = c.into_iter-bounds-iterator.result} c.args.stated.items (search rules) (search rules))
    c.loop-bounds.yielded c.loop-bounds.bounds-iterator c.loop-bounds.yielded_by c.next.result c.next.new.self c.in-Some.bounds c.in-Some.is c.next.ensures.steps in
    let k = length c.loop-bounds.yielded in
    let here : c.len-i.result ≡ k = omega (arith, c.len-i.ensures, c.loop-bounds.all.ok.0, c.loop-bounds.invariant.one_each) in
    let given : AreCostBounds (input_of_table tech.table) (slice_index tech.y) (slice_index asked.y k) (slice_index (row_of asked.prices.prices asked.prices.goods k)) c.in-Some.bounds =
    subst (λ (b : CostBounds). AreCostBounds (input_of_table tech.table) (slice_index tech.y) (slice_index asked.y k) (slice_index (row_of asked.prices.prices asked.prices.goods k)) b) (sym turn.1)
    (c.requires.given.each k c.in-Some.bounds turn.0) in
    rw (c.row.ensures.exact, c.y.ensures.exact, here) given

pub loop-bounds-preserved : goal.loop-bounds-preserved
loop-bounds-preserved c =
    let l = c.loop-bounds in
    let tech = c.args.tech.now in
    let asked = c.args.asked.now in
    let R = λ (k : ℕ) (stated filled : CostBounds). IsFilledCost tech (row_of asked.prices.prices asked.prices.goods k) (slice_index asked.y k) stated filled in
    let here : c.len-i.result ≡ length l.yielded = omega (arith, c.len-i.ensures, l.all.ok.0, l.invariant.one_each) in
    let last = rw (c.row.ensures.exact, c.y.ensures.exact) at c.in_ok-found.ensures in
    paired_more R l.yielded l.all.items c.in-Some.bounds c.in_ok-found.found l.invariant
    (subst (λ (k : ℕ). R k c.in-Some.bounds c.in_ok-found.found) here last) c.push.new.self.items c.in_ok-push.ensures.items

pub returns : goal.returns
returns c =
    let end = YieldsList-end (YieldsList-from_vec {s = c.into_iter-bounds-iterator.result} c.args.stated.items (search rules) (search rules))
    c.loop-bounds.yielded c.loop-bounds.bounds-iterator c.loop-bounds.yielded_by c.next.result c.next.new.self c.in-None.is c.next.ensures.steps in
    costs_filled c.args.tech.now c.args.asked.now c.args.stated.items c.loop-bounds.all.items (rw (← end.0, map-id) c.loop-bounds.invariant)
