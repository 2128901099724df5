use Rattle.std.proofs.Common.{◌≡◌, ℕ, arith, rules, length, subst, map-id}
use Rattle.std.proofs.lemmas.Iterator.Consumers.{YieldsList-end, YieldsList-turn}
use Rattle.std.proofs.lemmas.Iterator.Adapters.{YieldsList-from_vec}
use Rattle.rp_evidence.specs.DemandEvidence.{budget_of}
use Rattle.rp_evidence.specs.Input.{input_of_table}
use Rattle.rp_evidence.specs.declared.demand.GoodBounds.{GoodBounds}
use Rattle.rp_filled.specs.InnerFound.{IsFoundGood}
use Rattle.rp_filled.proofs.FoundLemmas.{none_paired, paired_more}
use Rattle.rp_filled.proofs.demand.found_goods.Goals as goal

pub loop-bounds-init : goal.loop-bounds-init
loop-bounds-init c = none_paired _ _ c.new-all.ensures.items

pub overflow_cast-g : goal.overflow_cast-g
overflow_cast-g c =
    let turn = YieldsList-turn (YieldsList-from_vec {s = c.into_iter-bounds-iterator.result} c.args.stated.items (search rules) (search rules))
    c.loop-bounds.yielded c.loop-bounds.bounds-iterator c.loop-bounds.yielded_by c.next.result c.next.new.self c.in-Some.bounds c.in-Some.is c.next.ensures.steps in
    omega (arith, turn.0, c.requires.one_each, c.goods.ensures.count, c.goods.ensures.valid.few_goods, c.len-g.ensures, c.loop-bounds.all.ok.0, c.loop-bounds.invariant.one_each)

pub found_good-requires-clause-good : goal.found_good-requires-clause-good
found_good-requires-clause-good c =
    let turn = YieldsList-turn (YieldsList-from_vec {s = c.into_iter-bounds-iterator.result} c.args.stated.items (search rules) (search rules))
    c.loop-bounds.yielded c.loop-bounds.bounds-iterator c.loop-bounds.yielded_by c.next.result c.next.new.self c.in-Some.bounds c.in-Some.is c.next.ensures.steps in
    omega (arith, turn.0, c.requires.one_each, c.len-g.ensures, c.loop-bounds.all.ok.0, c.loop-bounds.invariant.one_each)

pub loop-bounds-preserved : goal.loop-bounds-preserved
loop-bounds-preserved c =
    let l = c.loop-bounds in
    let b = c.args.budget.now in
    let here : c.len-g.result ≡ length l.yielded = omega (arith, c.len-g.ensures, l.all.ok.0, l.invariant.one_each) in
    let R = λ (k : ℕ) (stated found : GoodBounds). IsFoundGood (input_of_table b.at.table.now) (budget_of b.at.prices.now b.m) c.args.below.now k stated found in
    paired_more R l.yielded l.all.items c.in-Some.bounds c.in_ok-found.found l.invariant
    (subst (λ (k : ℕ). R k c.in-Some.bounds c.in_ok-found.found) here c.in_ok-found.ensures) c.push.new.self.items c.in_ok-push.ensures.items

pub returns : goal.returns
returns c =
    let end = YieldsList-end (YieldsList-from_vec {s = c.into_iter-bounds-iterator.result} c.args.stated.items (search rules) (search rules))
    c.loop-bounds.yielded c.loop-bounds.bounds-iterator c.loop-bounds.yielded_by c.next.result c.next.new.self c.in-None.is c.next.ensures.steps in
    rw (← end.0, map-id) c.loop-bounds.invariant
