use Rattle.std.proofs.Common.{◌≡◌, ◌≤◌, ◌<◌, ◌-◌, ◌^◌, List, ℕ, ap, arith, rules, subst, ◌∙◌}
use Rattle.rp_patch.specs.Kinds.{cells_weight}
use Rattle.rp_orders.specs.InnerLists.{listed_order}
use Rattle.rp_orders.specs.OrderKinds.{PicksCells, cells_picked}
use Rattle.rp_orders.proofs.LoopLemmas.{at_every}
use Rattle.rp_orders.proofs.choosers.all_weigh.Goals as goal

pub returns : goal.returns
returns c =
    let list = c.args.seen.now in
    let end : c.loop-n.n ≡ c.lists-n-end.result = omega (arith, c.loop-n-test.false, c.loop-n.auto.n-end) in
    let weighed = subst (λ (k : ℕ). (m : ℕ) → m < c.loop-n.n → PicksCells list (listed_order k m) → c.args.least ≤ cells_weight c.args.weights.now (cells_picked list (listed_order k m)))
    c.letters-letters.ensures.exact c.loop-n.invariant in
    let all = at_every list (omega (arith, c.letters-letters.ensures.valid.some_letters))
    (λ (order : List ℕ). c.args.least ≤ cells_weight c.args.weights.now (cells_picked list order)) c.loop-n.n
    (end ∙ c.lists-n-end.ensures.exact ∙ ap (λ k. k ^ (k - 1)) c.letters-letters.ensures.exact) weighed in
    (λ h. all, λ h. search rules)
