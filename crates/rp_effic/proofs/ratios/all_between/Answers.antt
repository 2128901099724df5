use Rattle.std.proofs.Common.{◌∙◌, ◌≡◌, ◌++◌, ◌∷◌, [], ap, subst, arith}
use Rattle.rp_table.specs.Cost.{cost_at}
use Rattle.rp_effic.specs.InnerBracket.{HaveBetween}
use Rattle.rp_effic.proofs.Collected.{all_seen, highest_alone, row_seen}
use Rattle.rp_effic.proofs.ratios.all_between.Goals as goal

pub loop-s-init : goal.loop-s-init
loop-s-init c =
    let high = c.args.bracket.now.high in
    highest_alone (cost_at c.args.costs.now) c.args.bracket.now c.args.steps.now.starts.items c.args.steps.now.to.items c.push.new.self.items
    (c.in_ok-push.ensures.items ∙ ap (λ xs. xs ++ high ∷ []) c.new-ratios.ensures.items)

pub loop-s-preserved : goal.loop-s-preserved
loop-s-preserved c =
    let a = c.args in
    let l = c.loop-s in
    row_seen l.s (cost_at a.costs.now) a.bracket.now a.steps.now.starts.items a.steps.now.to.items l.ratios.items c.add_between.new.ratios.items l.invariant c.in_ok-add_between.ensures

pub returns-clause-between : goal.returns-clause-between
returns-clause-between c =
    let a = c.args in
    let l = c.loop-s in
    let all : l.s ≡ a.costs.now.n = omega (arith, c.loop-s-test.false, c.n-s-end.ensures.count, l.auto.s-end) in
    all_seen a.costs.now.n (cost_at a.costs.now) a.bracket.now a.steps.now.starts.items a.steps.now.to.items l.ratios.items c.requires
    (subst (λ m. HaveBetween m (cost_at a.costs.now) a.bracket.now a.steps.now.starts.items a.steps.now.to.items l.ratios.items) all l.invariant)
