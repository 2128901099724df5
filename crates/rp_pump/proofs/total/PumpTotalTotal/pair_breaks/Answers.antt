use mir.Syntax.{w128}
use mir.Val.{of_z, to_z}
use Rattle.std.proofs.Common.{IsTrue, ◌↔◌, ◌≡◌, ◌∙◌, subst}
use Rattle.std.proofs.lemmas.Int.{to_z-of_z}
use Rattle.std.specs.Prelude.{ℤ, pos, ◌+ℤ◌, ◌<ℤ◌}
use Rattle.rp_table.specs.Cost.{cost_at}
use Rattle.rp_walk.proofs.SumSteps.{breaks_by_sum}
use Rattle.rp_pump.specs.InnerTotal.{added}
use Rattle.rp_pump.proofs.total.PumpTotalTotal.pair_breaks.Goals as goal

pub returns : goal.returns
returns c =
    let total = c.args.self.now in
    let a = added (cost_at total.costs.now) total.num total.den in
    let there : to_z w128 (of_z w128 c.added.result) ≡ a c.args.s c.args.t = to_z-of_z w128 c.added.result (record { sfits = c.added.type_inv }) ∙ c.added.ensures.value in
    let back : to_z w128 (of_z w128 c.added-2.result) ≡ a c.args.t c.args.s = to_z-of_z w128 c.added-2.result (record { sfits = c.added-2.type_inv }) ∙ c.added-2.ensures.value in
    let told = subst (λ (z : ℤ). IsTrue c.is_negative.result ↔ ((z +ℤ a c.args.t c.args.s) <ℤ pos 0)) there
    (subst (λ (z : ℤ). IsTrue c.is_negative.result ↔ ((to_z w128 (of_z w128 c.added.result) +ℤ z) <ℤ pos 0)) back c.is_negative.ensures) in
    let all = breaks_by_sum total.costs.now.n a c.args.s c.args.t c.requires.from in
    (λ h. all.0 (told.0 h), λ h. told.1 (all.1 h))
