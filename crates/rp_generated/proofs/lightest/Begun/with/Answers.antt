use Rattle.std.proofs.Common.{[], ◌∷◌, ◌++◌, ◌+◌, ◌≤◌, ◌≡◌, arith, length, length-append, rules}
use Rattle.rp_patch.specs.PartialTypes.{taken_in}
use Rattle.rp_generated.specs.InnerLight.{Fits}
use Rattle.rp_generated.proofs.LightTypes.{fits_more, no_lighter, none_at_all, none_excluded, none_unfit, weigh_at_least, weighed_more, weight_more}
use Rattle.rp_generated.proofs.lightest.Begun.with.Goals as goal

pub returns-then-not-has-clause-none : goal.returns-then-not-has-clause-none
returns-then-not-has-clause-none c =
    none_unfit c.args.patches.now c.args.prices.now.prices.items (taken_in c.args.self.now.partial) c.args.self.now.fit.words c.args.i c.args.below c.requires.weighed.fits (c.has.ensures c.if-not-has.true)

pub returns-in_default-clause-none : goal.returns-in_default-clause-none
returns-in_default-clause-none c =
    let p = c.args.patches.now in
    let begun = c.args.self.now in
    let weights = c.args.prices.now.prices.items in
    let i = c.args.i in
    let fits : Fits p (taken_in begun.partial ++ i ∷ []) c.among-fit.result.words = fits_more p (taken_in begun.partial) begun.fit.words c.among-fit.result.words i c.requires.weighed.fits (c.among-fit.ensures p c.requires.compatible c.requires.patch) in
    let on = c.budgets.ensures.valid.on_budgets i c.requires.patch in
    let short : begun.partial.taken + 1 ≤ p.budgets = omega (arith, on, c.requires.next) in
    none_at_all p weights (taken_in begun.partial ++ i ∷ []) c.among-fit.result.words (begun.partial.taken + 1) c.args.below fits (c.in_default.ensures.least p c.requires.listed short)

pub least_from-requires-clause-first : goal.least_from-requires-clause-first
least_from-requires-clause-first c =
    let on = c.budgets.ensures.valid.on_budgets c.args.i c.requires.patch in
    omega (arith, on, c.requires.next, c.requires.listed.budgets)

pub returns-then-weight-to_come-clause-none : goal.returns-then-weight-to_come-clause-none
returns-then-weight-to_come-clause-none c =
    let p = c.args.patches.now in
    let begun = c.args.self.now in
    let weights = c.args.prices.now.prices.items in
    let i = c.args.i in
    let front = taken_in begun.partial in
    let words = c.among-fit.result.words in
    let fits : Fits p (front ++ i ∷ []) words = fits_more p front begun.fit.words words i c.requires.weighed.fits (c.among-fit.ensures p c.requires.compatible c.requires.patch) in
    let on = c.budgets.ensures.valid.on_budgets i c.requires.patch in
    let short : begun.partial.taken + 1 ≤ p.budgets = omega (arith, on, c.requires.next) in
    let size = length-append front (i ∷ []) in
    let same : begun.partial.taken + 1 ≡ length (front ++ i ∷ []) = omega (arith, size, c.requires.part.0.count) in
    let heavy : c.args.below ≤ begun.weight + c.of.result + c.in-Some.to_come = search rules in
    no_lighter p weights (front ++ i ∷ []) (begun.weight + c.of.result + c.in-Some.to_come) c.args.below
    (weigh_at_least p weights (front ++ i ∷ []) words (begun.weight + c.of.result) c.in-Some.to_come (begun.partial.taken + 1) fits
    (weight_more weights front i begun.weight c.of.result c.requires.weighed.exact c.of.ensures.exact) same (c.in-Some.ensures.least p c.requires.listed short))
    heavy

pub returns-in-None-clause-none : goal.returns-in-None-clause-none
returns-in-None-clause-none c =
    none_excluded c.args.patches.now c.args.prices.now.prices.items (taken_in c.args.self.now.partial ++ c.args.i ∷ []) c.args.below c.in-None.ensures.excluded

pub returns-in-Some-with-clause-weighed : goal.returns-in-Some-with-clause-weighed
returns-in-Some-with-clause-weighed c =
    let p = c.args.patches.now in
    let begun = c.args.self.now in
    let weights = c.args.prices.now.prices.items in
    let i = c.args.i in
    let fits : Fits p (taken_in begun.partial ++ i ∷ []) c.among-fit.result.words = fits_more p (taken_in begun.partial) begun.fit.words c.among-fit.result.words i c.requires.weighed.fits (c.among-fit.ensures p c.requires.compatible c.requires.patch) in
    weighed_more p weights begun _ i c.of.result c.requires.weighed (search rules) c.of.ensures.exact c.of.ensures.small c.in-Some-with.ensures.longer c.in-Some-with.ensures.taken fits
