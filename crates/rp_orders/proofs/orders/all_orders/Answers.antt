use Rattle.std.proofs.Common.{◌≡◌, ◌-◌, ◌^◌, List, ℕ, ap, arith, subst, sym, ◌∙◌}
use Rattle.rp_orders.specs.InnerLists.{listed_order}
use Rattle.rp_orders.specs.InnerOrders.{AppendsKind, AreListedBelow}
use Rattle.rp_orders.specs.declared.orders.Order.{Order}
use Rattle.rp_orders.proofs.LoopLemmas.{all_listed, none_listed, one_more}
use Rattle.rp_orders.proofs.orders.all_orders.Goals as goal

pub loop-n-init : goal.loop-n-init
loop-n-init c =
    subst (λ (os : List Order). AreListedBelow c.args.seen.now 0 os) (sym c.new-orders.ensures.items)
    (none_listed c.args.seen.now (omega (arith, c.letters-letters.ensures.valid.some_letters)))

pub loop-n-preserved : goal.loop-n-preserved
loop-n-preserved c =
    let list = c.args.seen.now in
    let n = c.loop-n.n in
    let all : c.lists-n-end.result ≡ list.letters ^ (list.letters - 1) = c.lists-n-end.ensures.exact ∙ ap (λ k. k ^ (k - 1)) c.letters-letters.ensures.exact in
    one_more list (omega (arith, c.letters-letters.ensures.valid.some_letters)) n c.loop-n.orders.items c.push_order.new.orders.items
    (omega (arith, c.loop-n-test.true, all)) c.loop-n.invariant
    (subst (λ (order : List ℕ). AppendsKind list order c.loop-n.orders.items c.push_order.new.orders.items)
    (c.list_at-list.ensures ∙ ap (λ k. listed_order k n) c.letters-letters.ensures.exact) c.in_ok-push_order.ensures)

pub returns-clause-all : goal.returns-clause-all
returns-clause-all c =
    let list = c.args.seen.now in
    let end : c.loop-n.n ≡ c.lists-n-end.result = omega (arith, c.loop-n-test.false, c.loop-n.auto.n-end) in
    all_listed list (omega (arith, c.letters-letters.ensures.valid.some_letters)) c.loop-n.n c.loop-n.orders.items
    (end ∙ c.lists-n-end.ensures.exact ∙ ap (λ k. k ^ (k - 1)) c.letters-letters.ensures.exact) c.loop-n.invariant
