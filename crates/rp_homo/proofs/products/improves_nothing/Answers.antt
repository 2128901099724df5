use Rattle.std.proofs.Common.{◌*◌, ◌≤◌, ◌∙◌, subst}
use Rattle.rp_homo.proofs.Unreduced.{fits_unreduced}
use Rattle.rp_homo.proofs.products.improves_nothing.Goals as goal

pub returns-then-in_words-2-clause-fits : goal.returns-then-in_words-2-clause-fits
returns-then-in_words-2-clause-fits c is_no_less =
    let across = subst (λ n. 1 ≤ n) c.cost-across.ensures.exact c.cost-across.ensures.positive in
    let own = subst (λ n. 1 ≤ n) c.cost-own.ensures.exact c.cost-own.ensures.positive in
    let num = c.word_product-num.ensures.value ∙ (λ i. c.num.ensures.value i * c.cost-across.ensures.exact i) in
    let den = c.word_product-den.ensures.value ∙ (λ i. c.den.ensures.value i * c.cost-own.ensures.exact i) in
    fits_unreduced c.args.v _ _ _ _ c.den.ensures.lowest.positive across own num den c.word_product-num.ensures.fits c.word_product-den.ensures.fits

pub returns-clause-fits : goal.returns-clause-fits
returns-clause-fits c is_no_less =
    let across = subst (λ n. 1 ≤ n) c.cost-across.ensures.exact c.cost-across.ensures.positive in
    let own = subst (λ n. 1 ≤ n) c.cost-own.ensures.exact c.cost-own.ensures.positive in
    let num = c.in-Some.ensures.value ∙ (λ i. c.num-2.ensures.value i * c.cost-across.ensures.exact i) in
    let den = c.in-Some-unreduced.ensures.value ∙ (λ i. c.den-2.ensures.value i * c.cost-own.ensures.exact i) in
    fits_unreduced c.args.v _ _ _ _ c.den-2.ensures.lowest.positive across own num den c.in-Some.ensures.fits c.in-Some-unreduced.ensures.fits
