use mir.Syntax.{w128}
use Rattle.std.proofs.Common.{rules, ◌≡◌, ◌*◌, ℕ, refl, sym, ◌∙◌}
use Rattle.std.proofs.lemmas.Int.{to_z-of_z}
use Rattle.std.specs.Prelude.{FitsSigned}
use Rattle.rp_evidence.specs.AfriatEvidence.{multiplier_in, utility_in}
use Rattle.rp_evidence.proofs.AfriatSums.{once}
use Rattle.rp_table.specs.Cost.{own_of, scale_of}
use Rattle.rp_table.proofs.SpendingLaws.{spending-same}
use Rattle.rp_afriat.specs.Bundle.{bundle_cost}
use Rattle.rp_afriat.proofs.Widths.{bound_same, utility_is_signed}
use Rattle.rp_afriat.proofs.utility.bound_at.Goals as goal

times_same : (a b x y : ℕ) → a ≡ b → x ≡ y → a * x ≡ b * y
times_same a b x y e f = λ i. e i * f i

pub returns : goal.returns
returns c =
    let a = c.args in
    let x = utility_in a.numbers.now a.s in
    let k = multiplier_in a.numbers.now a.s in
    let fits : FitsSigned w128 c.bound.result = search rules in
    let read = rw (c.as_slice.ensures, c.as_slice-2.ensures) at c.bound.ensures in
    let own = utility_is_signed x (c.requires.fit a.s c.requires.observed).0 in
    to_z-of_z w128 c.bound.result fits ∙ (read
    ∙ (bound_same _ x k _ _ _ _ (to_z-of_z w128 x own)
    (times_same c.scale.result (scale_of a.costs.now) _ _ c.scale.ensures.exact (c.cost_of_bundle.ensures.exact ∙ spending-same _ _ _ _ _ _ c.prices.ensures.all_goods c.prices.ensures.each (λ g within. refl)))
    c.own.ensures.exact
    ∙ sym (once x k (scale_of a.costs.now * bundle_cost a.table.now a.bundle.now a.s) (own_of a.costs.now a.s))))
