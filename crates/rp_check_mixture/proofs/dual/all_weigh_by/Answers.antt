use Rattle.std.proofs.Common.{◌<◌, ◌≤◌, ◌+◌, ◌-◌, List, ℕ, ap, arith, rules, slice_index, subst, sym, ◌∙◌}
use Rattle.rp_patch.specs.Kinds.{cells_weight}
use Rattle.rp_check_mixture.proofs.TypeSearch.{all_met, all_weigh, back, back_falls, deeper, deeper_falls, given_up, met_all_before, none_taken, passed, passed_falls, too_light, unfit_for_all, weigh_enough, weigh_enough_for_all}
use Rattle.rp_check_mixture.proofs.dual.all_weigh_by.Goals as goal

pub types-init : goal.types-init
types-init c =
    none_taken c.args.patches.now c.args.weights.now c.args.least c.args.limit _ c.new.result c.requires.room c.budgets.ensures.valid.some_budgets c.new.ensures.part c.new.ensures.none

pub overflow_add-at_least : goal.overflow_add-at_least
overflow_add-at_least c =
    let small = c.requires.small c.types.depth c.types.invariant.deep in
    omega (arith, small, c.weight_of_type.ensures.small)

pub returns-then-depth-eq0-clause-decided : goal.returns-then-depth-eq0-clause-decided
returns-then-depth-eq0-clause-decided c =
    let all = all_weigh c.args.patches.now c.args.weights.now c.args.least c.args.limit c.types.partials c.types.depth c.types.i c.types.counted c.types.invariant
    c.if-depth-eq0.true (c.if-i-count.true ∙ c.count.ensures.count) in
    (λ h. all, λ h. search rules)

pub returns-then-longer-budgets-clause-decided : goal.returns-then-longer-budgets-clause-decided
returns-then-longer-budgets-clause-decided c =
    let light : cells_weight c.args.weights.now c.patches-in-Some.result.now < c.args.least = omega (arith, c.weight_of_type.ensures.exact, c.from.ensures, c.if-at_least-from.false) in
    let no = too_light c.args.patches.now c.args.weights.now c.args.least c.args.limit c.types.partials c.types.depth c.types.i c.types.counted c.types.invariant
    c.in-Some.longer c.in-Some.ensures.part
    (c.if-longer-budgets.true ∙ c.budgets-else-at_least-from.ensures.count)
    (subst (λ xs. cells_weight c.args.weights.now xs < c.args.least) c.patches-in-Some.ensures light) in
    (λ h. search rules, λ h. absurd (no h))

pub returns-then-depth-eq0-clause-within : goal.returns-then-depth-eq0-clause-within
returns-then-depth-eq0-clause-within c =
    all_met c.args.patches.now c.args.weights.now c.args.least c.args.limit c.types.partials c.types.depth c.types.i c.types.counted c.types.invariant
    c.if-depth-eq0.true (c.if-i-count.true ∙ c.count.ensures.count)

pub returns-then-longer-budgets-clause-within : goal.returns-then-longer-budgets-clause-within
returns-then-longer-budgets-clause-within c =
    let light : cells_weight c.args.weights.now c.patches-in-Some.result.now < c.args.least = omega (arith, c.weight_of_type.ensures.exact, c.from.ensures, c.if-at_least-from.false) in
    met_all_before c.args.patches.now c.args.weights.now c.args.least c.args.limit c.types.partials c.types.depth c.types.i c.types.counted c.types.invariant
    c.in-Some.longer c.in-Some.ensures.part
    (c.if-longer-budgets.true ∙ c.budgets-else-at_least-from.ensures.count) c.in-Some.ensures.longer
    (subst (λ xs. cells_weight c.args.weights.now xs < c.args.least) c.patches-in-Some.ensures light)

pub types-preserved : goal.types-preserved
types-preserved c =
    passed c.args.patches.now c.args.weights.now c.args.least c.args.limit c.types.partials c.types.depth c.types.i c.types.counted c.types.invariant
    (omega (arith, c.if-i-count.false, c.count.ensures.count, c.types.invariant.within))
    (λ type rational begins. absurd (c.in-None.ensures.excluded type rational begins))
    (unfit_for_all c.args.patches.now c.args.weights.now c.args.least c.args.limit c.types.partials c.types.depth c.types.i c.types.counted c.types.invariant c.in-None.ensures.unfit)

pub types-smaller : goal.types-smaller
types-smaller c =
    passed_falls c.args.patches.now c.args.weights.now c.args.least c.args.limit c.types.partials c.types.depth c.types.i c.types.counted c.types.invariant
    (omega (arith, c.if-i-count.false, c.count.ensures.count, c.types.invariant.within))

pub types-preserved-then-at_least-from : goal.types-preserved-then-at_least-from
types-preserved-then-at_least-from c =
    let enough : c.args.least ≤ cells_weight c.args.weights.now c.patches-in-Some.result.now + slice_index c.args.to_come.now c.types.depth =
    omega (arith, c.weight_of_type.ensures.exact, c.from.ensures, c.if-at_least-from.true) in
    let its = subst (λ xs. c.args.least ≤ cells_weight c.args.weights.now xs + slice_index c.args.to_come.now c.types.depth) c.patches-in-Some.ensures enough in
    passed c.args.patches.now c.args.weights.now c.args.least c.args.limit c.types.partials c.types.depth c.types.i c.types.counted c.types.invariant
    (omega (arith, c.if-i-count.false, c.count.ensures.count, c.types.invariant.within))
    (weigh_enough c.args.patches.now c.args.weights.now c.args.least c.args.limit c.types.partials c.types.depth c.types.i c.types.counted c.types.invariant c.args.to_come.now c.requires.at_least c.in-Some.longer c.in-Some.ensures.longer its)
    (weigh_enough_for_all c.args.patches.now c.args.weights.now c.args.least c.args.limit c.types.partials c.types.depth c.types.i c.types.counted c.types.invariant c.args.to_come.now c.requires.at_least c.in-Some.longer c.in-Some.ensures.longer its)

pub types-smaller-then-at_least-from : goal.types-smaller-then-at_least-from
types-smaller-then-at_least-from c =
    passed_falls c.args.patches.now c.args.weights.now c.args.least c.args.limit c.types.partials c.types.depth c.types.i c.types.counted c.types.invariant
    (omega (arith, c.if-i-count.false, c.count.ensures.count, c.types.invariant.within))

pub types-preserved-then-i-count : goal.types-preserved-then-i-count
types-preserved-then-i-count c =
    back c.args.patches.now c.args.weights.now c.args.least c.args.limit c.types.partials c.types.depth c.types.i c.types.counted c.types.invariant
    (c.types.depth - 1) (omega (arith, c.if-depth-eq0.false)) (c.if-i-count.true ∙ c.count.ensures.count)
    (slice_index c.patches.result.now (c.types.depth - 1)) (ap (λ (xs : List ℕ). slice_index xs (c.types.depth - 1)) c.patches.ensures)

pub types-smaller-then-i-count : goal.types-smaller-then-i-count
types-smaller-then-i-count c =
    back_falls c.args.patches.now c.args.weights.now c.args.least c.args.limit c.types.partials c.types.depth c.types.i c.types.counted c.types.invariant
    (c.types.depth - 1) (omega (arith, c.if-depth-eq0.false)) (c.if-i-count.true ∙ c.count.ensures.count)
    (slice_index c.patches.result.now (c.types.depth - 1)) (ap (λ (xs : List ℕ). slice_index xs (c.types.depth - 1)) c.patches.ensures)

pub returns-in-None-one_more-clause-given_up : goal.returns-in-None-one_more-clause-given_up
returns-in-None-one_more-clause-given_up c =
    let light : cells_weight c.args.weights.now c.patches-in-Some.result.now + slice_index c.args.to_come.now c.types.depth < c.args.least =
    omega (arith, c.weight_of_type.ensures.exact, c.from.ensures, c.if-at_least-from.false) in
    given_up c.args.patches.now c.args.weights.now c.args.least c.args.limit c.types.partials c.types.depth c.types.i c.types.counted c.types.invariant
    c.in-Some.longer c.in-Some.ensures.part (c.in-Some.ensures.taken ∙ ap (λ n. n + 1) (c.types.invariant.each c.types.depth (omega arith)).1) c.in-Some.ensures.longer
    (λ e. c.if-longer-budgets.false (e ∙ sym c.budgets-else-at_least-from.ensures.count))
    c.args.to_come.now c.requires.at_least (subst (λ xs. cells_weight c.args.weights.now xs + slice_index c.args.to_come.now c.types.depth < c.args.least) c.patches-in-Some.ensures light)
    c.in-None-one_more.ensures.reached

pub types-preserved-in-Some-one_more : goal.types-preserved-in-Some-one_more
types-preserved-in-Some-one_more c =
    let light : cells_weight c.args.weights.now c.patches-in-Some.result.now + slice_index c.args.to_come.now c.types.depth < c.args.least =
    omega (arith, c.weight_of_type.ensures.exact, c.from.ensures, c.if-at_least-from.false) in
    deeper c.args.patches.now c.args.weights.now c.args.least c.args.limit c.types.partials c.types.depth c.types.i c.types.counted c.types.invariant
    c.in-Some.longer c.in-Some.ensures.part (c.in-Some.ensures.taken ∙ ap (λ n. n + 1) (c.types.invariant.each c.types.depth (omega arith)).1) c.in-Some.ensures.longer
    (λ e. c.if-longer-budgets.false (e ∙ sym c.budgets-else-at_least-from.ensures.count))
    c.args.to_come.now c.requires.at_least (subst (λ xs. cells_weight c.args.weights.now xs + slice_index c.args.to_come.now c.types.depth < c.args.least) c.patches-in-Some.ensures light)
    (omega (arith, c.budgets.ensures.few, c.budgets.ensures.count)) c.in-Some-one_more.more c.in-Some-one_more.ensures.more

pub types-smaller-in-Some-one_more : goal.types-smaller-in-Some-one_more
types-smaller-in-Some-one_more c =
    let light : cells_weight c.args.weights.now c.patches-in-Some.result.now + slice_index c.args.to_come.now c.types.depth < c.args.least =
    omega (arith, c.weight_of_type.ensures.exact, c.from.ensures, c.if-at_least-from.false) in
    deeper_falls c.args.patches.now c.args.weights.now c.args.least c.args.limit c.types.partials c.types.depth c.types.i c.types.counted c.types.invariant
    c.in-Some.longer c.in-Some.ensures.part (c.in-Some.ensures.taken ∙ ap (λ n. n + 1) (c.types.invariant.each c.types.depth (omega arith)).1) c.in-Some.ensures.longer
    (λ e. c.if-longer-budgets.false (e ∙ sym c.budgets-else-at_least-from.ensures.count))
    c.args.to_come.now c.requires.at_least (subst (λ xs. cells_weight c.args.weights.now xs + slice_index c.args.to_come.now c.types.depth < c.args.least) c.patches-in-Some.ensures light)
    (omega (arith, c.budgets.ensures.few, c.budgets.ensures.count)) c.in-Some-one_more.more c.in-Some-one_more.ensures.more
