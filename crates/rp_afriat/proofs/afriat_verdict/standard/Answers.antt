use Rattle.std.proofs.Common.{sym, subst, ◌∙◌, arith}
use Rattle.rp_evidence.specs.Count.{AreCounts}
use Rattle.rp_evidence.proofs.OwnAfriat.{weak_by_own}
use Rattle.rp_pref.specs.Steps.{OwnWeak}
use Rattle.rp_pref.proofs.VerdictLemmas.{counts_of}
use Rattle.rp_afriat.specs.InnerFilling.{scaled_at}
use Rattle.rp_table.specs.Cost.{cost_at, own_of}
use Rattle.rp_afriat.proofs.Fillings.{pass_at}
use Rattle.rp_afriat.proofs.Lists.{written_back}
use Rattle.rp_afriat.proofs.Given.{given_numbers, proves_numbers}
use Rattle.rp_afriat.proofs.afriat_verdict.standard.Goals as goal

pub fill-requires-clause-counted : goal.fill-requires-clause-counted
fill-requires-clause-counted c =
    let n = c.args.costs.now.n in
    let counts = counts_of c.args.closure.now n (OwnWeak c.args.costs.now) c.in_ok-counts.counts c.requires.closes c.in_ok-counts.ensures in
    subst (λ xs. AreCounts n (OwnWeak c.args.costs.now) xs) (sym c.as_slice.ensures) counts

pub returns-in-Some-clause-given : goal.returns-in-Some-clause-given
returns-in-Some-clause-given c =
    let n = c.args.costs.now.n in
    let counts = counts_of c.args.closure.now n (OwnWeak c.args.costs.now) c.in_ok-counts.counts c.requires.closes c.in_ok-counts.ensures in
    let counted = subst (λ xs. AreCounts n (OwnWeak c.args.costs.now) xs) (sym c.as_slice.ensures) counts in
    (c.requires.holds, pass_at n (OwnWeak c.args.costs.now) (scaled_at c.args.costs.now) (own_of c.args.costs.now) (weak_by_own n c.args.costs.now.levels (cost_at c.args.costs.now)) c.as_slice.result.now counted c.in-Some.at c.in-Some.ensures.stops)

pub returns-clause-proves : goal.returns-clause-proves
returns-clause-proves c =
    let n = c.args.costs.now.n in
    let counts = counts_of c.args.closure.now n (OwnWeak c.args.costs.now) c.in_ok-counts.counts c.requires.closes c.in_ok-counts.ensures in
    let counted = subst (λ xs. AreCounts n (OwnWeak c.args.costs.now) xs) (sym c.as_slice.ensures) counts in
    let each = c.in-None.ensures.each in
    let u = c.from_vec.ensures ∙ written_back c.in_ok-u.u.len c.fill.new.u _ (omega (arith, each.utilities_each, c.in_ok-u.ensures.len, c.n-n.ensures.count)) in
    let m = c.from_vec-in-None.ensures ∙ written_back c.in_ok-lambda.lambda.len c.fill.new.lambda _ (omega (arith, each.multipliers_each, c.in_ok-lambda.ensures.len, c.n-n.ensures.count)) in
    proves_numbers n c.args.costs.now.levels (cost_at c.args.costs.now) c.as_slice.result.now c.fill.new.u c.fill.new.lambda counted each c.in-None.ensures.filled c.in-None.ensures.fit c.requires.holds _ _ u m

pub returns-clause-given : goal.returns-clause-given
returns-clause-given c =
    let n = c.args.costs.now.n in
    let counts = counts_of c.args.closure.now n (OwnWeak c.args.costs.now) c.in_ok-counts.counts c.requires.closes c.in_ok-counts.ensures in
    let counted = subst (λ xs. AreCounts n (OwnWeak c.args.costs.now) xs) (sym c.as_slice.ensures) counts in
    let each = c.in-None.ensures.each in
    let u = c.from_vec.ensures ∙ written_back c.in_ok-u.u.len c.fill.new.u _ (omega (arith, each.utilities_each, c.in_ok-u.ensures.len, c.n-n.ensures.count)) in
    let m = c.from_vec-in-None.ensures ∙ written_back c.in_ok-lambda.lambda.len c.fill.new.lambda _ (omega (arith, each.multipliers_each, c.in_ok-lambda.ensures.len, c.n-n.ensures.count)) in
    given_numbers n c.args.costs.now.levels (cost_at c.args.costs.now) c.as_slice.result.now c.fill.new.u c.fill.new.lambda counted each c.in-None.ensures.filled c.in-None.ensures.fit c.requires.holds _ _ u m
