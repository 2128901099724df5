use Rattle.std.proofs.Common.{◌≡◌, ℕ, ◌*◌, ◌≤◌, Ok, Err, subst}
use Rattle.std.specs.Prelude.{Result, IfOk}
use Rattle.rp_num.specs.Fraction.{Fraction, IsLowestTerms}
use Rattle.rp_num.specs.declared.Wide.{Wide}
use Rattle.rp_walk.specs.ExactTotal.{SameTotal}
use Rattle.rp_walk.specs.Products.{as_total, times}
use Rattle.rp_homo.proofs.Steps.{same_product, wide_product}
use Rattle.rp_homo.proofs.products.ProductsTotal.step.Goals as goal

pub returns-clause-value : goal.returns-clause-value
returns-clause-value c =
    same c.times.result _ _ _ _ c.cost.ensures.exact c.cost-2.ensures.exact c.cost.ensures.positive c.cost-2.ensures.positive c.times.ensures.product
  where
    same : (r : Result Fraction Wide) (x y a b : ℕ) → x ≡ a → y ≡ b → 1 ≤ x → 1 ≤ y → IfOk r (λ p. IsLowestTerms (c.args.v.num * x) (c.args.v.den * y) p)
        → IfOk r (λ p. SameTotal (as_total p) (times (as_total c.args.v) a b))
    same (Ok p) x y a b across own hx hy h =
        rw (← across, ← own) (same_product c.args.v x y c.den.ensures.lowest.positive hx hy p h)
    same (Err e) x y a b across own hx hy h = tt

pub returns-clause-wide : goal.returns-clause-wide
returns-clause-wide c =
    let across = subst (λ n. 1 ≤ n) c.cost.ensures.exact c.cost.ensures.positive in
    let own = subst (λ n. 1 ≤ n) c.cost-2.ensures.exact c.cost-2.ensures.positive in
    let wide = wide_product c.args.v _ _ c.den.ensures.lowest.positive across own in
    let told = rw (c.cost.ensures.exact, c.cost-2.ensures.exact) at c.times.ensures.wide in
    (λ e. wide.0 (told.0 e), λ h. told.1 (wide.1 h))
