use mir.Syntax.{w128}
use mir.Val.{of_z, to_z}
use Rattle.std.proofs.Common.{rules, ◌≡◌, ◌<◌, ◌-◌, ℕ, slice_index, sym, subst, ◌∙◌, arith}
use Rattle.std.proofs.lemmas.Bool.{false≢true}
use Rattle.std.proofs.lemmas.Int.{to_z-of_z}
use Rattle.std.specs.Prelude.{FitsSigned}
use Rattle.rp_evidence.specs.StandardNumbers.{FitsUtility}
use Rattle.rp_table.specs.Cost.{cost_at, own_of}
use Rattle.rp_evidence.proofs.OwnAfriat.{weak_by_own}
use Rattle.rp_pref.specs.Steps.{OwnWeak}
use Rattle.rp_afriat.specs.InnerFilling.{AreFilledAbove, AreMultipliersSet, FitAbove, IsClassSet, IsTooSteep, StandardNumbersPassAt, scaled_at}
use Rattle.rp_afriat.proofs.Fillings.{class_filled, class_fits, empty_filled, stops_at_multiplier, stops_at_utility}
use Rattle.rp_afriat.proofs.Lists.{if_none, if_some_both}
use Rattle.rp_afriat.proofs.afriat_verdict.fill_class.Goals as goal

pub returns-then-not-utility_fits-clause-stops : goal.returns-then-not-utility_fits-clause-stops
returns-then-not-utility_fits-clause-stops c =
    let a = c.args in
    let found = c.in-Some.ensures.found in
    let x = c.class_utility-x.result in
    let fits : FitsSigned w128 x = search rules in
    let own : c.in-Some.first < a.costs.now.n = omega (arith, found.0, c.n.ensures.count) in
    let is = c.class_utility-x.ensures c.in-Some.first own found.1 in
    λ v k are. stops_at_utility a.costs.now.n (scaled_at a.costs.now) (own_of a.costs.now) a.counts.now a.class a.u.now a.lambda.now c.requires.filled c.requires.fit (OwnWeak a.costs.now) (weak_by_own a.costs.now.n a.costs.now.levels (cost_at a.costs.now)) c.requires.counted x is v k are
    c.in-Some.first own found.1 found.2
    (λ h. false≢true (sym c.if-not-utility_fits.true ∙ c.utility_fits.ensures.1 (subst FitsUtility (sym (to_z-of_z w128 x fits)) h)))

pub returns-in-None-clause-filled : goal.returns-in-None-clause-filled
returns-in-None-clause-filled c =
    let a = c.args in
    empty_filled a.costs.now.n (scaled_at a.costs.now) (own_of a.costs.now) a.counts.now a.class a.u.now a.lambda.now c.requires.filled c.requires.fit
    (subst (λ m. (s : ℕ) → s < m → ¬ (slice_index a.counts.now s ≡ a.class)) c.n.ensures.count c.in-None.ensures.none)

pub returns-else-not-utility_fits-clause-filled : goal.returns-else-not-utility_fits-clause-filled
returns-else-not-utility_fits-clause-filled c =
    let a = c.args in
    let n = a.costs.now.n in
    let found = c.in-Some.ensures.found in
    let x = c.class_utility-x.result in
    let fits : FitsSigned w128 x = search rules in
    let is = c.class_utility-x.ensures c.in-Some.first (omega (arith, found.0, c.n.ensures.count)) found.1 in
    let set = subst (λ z. IsClassSet n a.counts.now a.class z a.u.now c.set_utility.new.u) (to_z-of_z w128 x fits)
    (subst (λ m. IsClassSet m a.counts.now a.class (to_z w128 (of_z w128 x)) a.u.now c.set_utility.new.u) c.requires.each.counts_each c.set_utility.ensures) in
    if_none (AreMultipliersSet n n (scaled_at a.costs.now) (own_of a.costs.now) a.counts.now a.class c.set_utility.new.u a.lambda.now c.set_multipliers.new.lambda)
    (AreFilledAbove n (scaled_at a.costs.now) (own_of a.costs.now) a.counts.now c.set_utility.new.u c.set_multipliers.new.lambda (a.class - 1))
    (λ m. class_filled n (scaled_at a.costs.now) (own_of a.costs.now) a.counts.now a.class a.u.now a.lambda.now c.requires.filled c.requires.fit x is c.set_utility.new.u set c.set_multipliers.new.lambda m)
    c.set_multipliers.result c.set_multipliers.ensures.set

pub returns-else-not-utility_fits-clause-fit : goal.returns-else-not-utility_fits-clause-fit
returns-else-not-utility_fits-clause-fit c =
    let a = c.args in
    let n = a.costs.now.n in
    let found = c.in-Some.ensures.found in
    let x = c.class_utility-x.result in
    let fits : FitsSigned w128 x = search rules in
    let is = c.class_utility-x.ensures c.in-Some.first (omega (arith, found.0, c.n.ensures.count)) found.1 in
    let set = subst (λ z. IsClassSet n a.counts.now a.class z a.u.now c.set_utility.new.u) (to_z-of_z w128 x fits)
    (subst (λ m. IsClassSet m a.counts.now a.class (to_z w128 (of_z w128 x)) a.u.now c.set_utility.new.u) c.requires.each.counts_each c.set_utility.ensures) in
    let x_fits = subst FitsUtility (to_z-of_z w128 x fits) (c.utility_fits.ensures.0 c.if-not-utility_fits.false) in
    if_none (AreMultipliersSet n n (scaled_at a.costs.now) (own_of a.costs.now) a.counts.now a.class c.set_utility.new.u a.lambda.now c.set_multipliers.new.lambda)
    (FitAbove n a.counts.now c.set_utility.new.u c.set_multipliers.new.lambda (a.class - 1))
    (λ m. class_fits n (scaled_at a.costs.now) (own_of a.costs.now) a.counts.now a.class a.u.now a.lambda.now c.requires.filled c.requires.fit x is c.set_utility.new.u set c.set_multipliers.new.lambda m x_fits)
    c.set_multipliers.result c.set_multipliers.ensures.set

pub returns-else-not-utility_fits-clause-stops : goal.returns-else-not-utility_fits-clause-stops
returns-else-not-utility_fits-clause-stops c =
    let a = c.args in
    let n = a.costs.now.n in
    let found = c.in-Some.ensures.found in
    let x = c.class_utility-x.result in
    let fits : FitsSigned w128 x = search rules in
    let is = c.class_utility-x.ensures c.in-Some.first (omega (arith, found.0, c.n.ensures.count)) found.1 in
    let set = subst (λ z. IsClassSet n a.counts.now a.class z a.u.now c.set_utility.new.u) (to_z-of_z w128 x fits)
    (subst (λ m. IsClassSet m a.counts.now a.class (to_z w128 (of_z w128 x)) a.u.now c.set_utility.new.u) c.requires.each.counts_each c.set_utility.ensures) in
    let x_fits = subst FitsUtility (to_z-of_z w128 x fits) (c.utility_fits.ensures.0 c.if-not-utility_fits.false) in
    if_some_both (IsTooSteep n (scaled_at a.costs.now) (own_of a.costs.now) a.counts.now a.class c.set_utility.new.u)
    (λ at. AreMultipliersSet at n (scaled_at a.costs.now) (own_of a.costs.now) a.counts.now a.class c.set_utility.new.u a.lambda.now c.set_multipliers.new.lambda)
    (StandardNumbersPassAt n (OwnWeak a.costs.now) (scaled_at a.costs.now) (own_of a.costs.now) a.counts.now)
    (λ at steep m v k are. stops_at_multiplier n (scaled_at a.costs.now) (own_of a.costs.now) a.counts.now a.class a.u.now a.lambda.now c.requires.filled c.requires.fit (OwnWeak a.costs.now) (weak_by_own a.costs.now.n a.costs.now.levels (cost_at a.costs.now)) c.requires.counted x is v k are
    c.set_utility.new.u set c.set_multipliers.new.lambda at x_fits steep m)
    c.set_multipliers.result c.set_multipliers.ensures.steep c.set_multipliers.ensures.so_far
