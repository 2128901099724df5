use Rattle.std.proofs.Common.{arith, ◌≡◌, ◌<◌, inl, inr, refl, sym, subst, ◌∙◌, length, get_or}
use Rattle.std.proofs.lemmas.Bool.{cases_lt}
use Rattle.std.proofs.lemmas.List.{get_or_default}
use Rattle.rp_num.specs.Fraction.{Fraction}
use Rattle.rp_table.specs.Cost.{cost_at}
use Rattle.rp_walk.specs.ExactTotal.{IsLess}
use Rattle.rp_walk.specs.Products.{FitsFraction, as_total, times}
use Rattle.rp_homo.proofs.products.ProductsTotal.first_to_try.Goals as goal

pub loop-to-preserved : goal.loop-to-preserved
loop-to-preserved c =
    let inv = c.loop-to.invariant in
    let to = c.loop-to.to in
    let best = c.args.best.now in
    let found = c.index-best-to.result in
    let v = as_total c.args.v in
    let cost = cost_at c.args.self.now.costs.now in
    let t = c.args.t in
    let shown = c.if-not-improves_nothing.ensures in
    let there : to < length best = omega (arith, c.requires.each, c.loop-to-test.true, c.n-n.ensures.count) in
    record {
      not_less = λ i b from below at. elim (cases_lt i to) [
        | inl l ↦ inv.not_less i b from l at
        | inr m ↦
            let e : to ≡ i = omega (arith, m, below) in
            let same : found ≡ b = c.index-best-to.is ∙ get_or_default best to found b there ∙ (λ j. get_or best (e j) b) ∙ sym at in
            subst (λ (y : Fraction). ¬ (IsLess (times v (cost t i) (cost t t)) (as_total y))) same
            (subst (λ k. ¬ (IsLess (times v (cost t k) (cost t t)) (as_total found))) e (shown.not_less refl))
      ];
      fits = λ i from below. elim (cases_lt i to) [
        | inl l ↦ inv.fits i from l
        | inr m ↦
            let e : to ≡ i = omega (arith, m, below) in
            subst (λ k. FitsFraction (times v (cost t k) (cost t t))) e (shown.fits refl)
      ];
    }
