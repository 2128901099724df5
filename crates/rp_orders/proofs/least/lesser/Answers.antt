use mir.Syntax.{w128}
use mir.Val.{of_z, to_z}
use Rattle.std.proofs.Common.{rules, ◌≡◌, ◌≤ℤ◌, ◌<ℤ◌, FitsSigned, refl, subst, sym, ◌∙◌}
use Rattle.std.proofs.lemmas.Int.{to_z-of_z}
use Rattle.rp_orders.proofs.LeastLemmas.{kept, less_if, no_less_if, replaced}
use Rattle.rp_orders.proofs.least.lesser.Goals as goal

pub returns-then-sum-least : goal.returns-then-sum-least
returns-then-sum-least c =
    let a = c.args in
    let x = c.menu_sum-sum.result in
    let y = a.least.sum in
    let fits : FitsSigned w128 x = search rules in
    let least_fits : FitsSigned w128 y = search rules in
    let same : to_z w128 (of_z w128 x) ≡ x = to_z-of_z w128 x fits in
    let least_same : to_z w128 (of_z w128 y) ≡ y = to_z-of_z w128 y least_fits in
    let less : x <ℤ y = less_if x y (rw (same, least_same) at c.if-sum-least.true) in
    replaced a.seen.now a.units.now a.menu a.letter a.least c.requires.before
    (record { sum = to_z w128 (of_z w128 x); letter = a.letter; menu = a.menu })
    refl refl c.requires.within (sym c.has_letter.ensures ∙ c.if-not-has_letter.false)
    (same ∙ c.menu_sum-sum.ensures.exact) (subst (λ s. s <ℤ y) (sym same) less)

pub returns-else-sum-least : goal.returns-else-sum-least
returns-else-sum-least c =
    let a = c.args in
    let x = c.menu_sum-sum.result in
    let y = a.least.sum in
    let fits : FitsSigned w128 x = search rules in
    let least_fits : FitsSigned w128 y = search rules in
    let same : to_z w128 (of_z w128 x) ≡ x = to_z-of_z w128 x fits in
    let least_same : to_z w128 (of_z w128 y) ≡ y = to_z-of_z w128 y least_fits in
    let no_less : y ≤ℤ x = no_less_if x y (rw (same, least_same) at c.if-sum-least.false) in
    kept a.seen.now a.units.now a.menu a.letter a.least c.requires.before x c.menu_sum-sum.ensures.exact no_less
