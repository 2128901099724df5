use Rattle.std.proofs.Common.{arith, subst}
use Rattle.rp_patch.specs.InnerMultiples.{IsCommon}
use Rattle.rp_patch.specs.Apportionment.{IsLeastCommonMultiple, grouped}
use Rattle.rp_patch.proofs.Multiples.{none_yet, one_more}
use Rattle.rp_patch.proofs.totals.common_total.Goals as goal

pub loop-j-init : goal.loop-j-init
loop-j-init c =
    let start = none_yet (grouped c.args.groups.now c.args.counts.now) in
    record { least = start.0; divides = start.1; small = omega arith }

pub returns-then-next-from-clause-large : goal.returns-then-next-from-clause-large
returns-then-next-from-clause-large c =
    let both = subst (λ t. IsCommon c.loop-j.total t c.common_multiple-next.result) c.sum_of.ensures.exact c.common_multiple-next.ensures in
    let more = one_more (grouped c.args.groups.now c.args.counts.now) c.loop-j.j c.loop-j.total c.common_multiple-next.result c.loop-j.invariant.least c.loop-j.invariant.divides both in
    (omega (arith, c.loop-j-test.true, c.count_groups-j-end.ensures), (c.loop-j.total, c.loop-j.invariant.least, c.loop-j.invariant.small), (c.common_multiple-next.result, more.0, omega (arith, c.if-next-from.true, c.from.ensures)))

pub loop-j-preserved : goal.loop-j-preserved
loop-j-preserved c =
    let both = subst (λ t. IsCommon c.loop-j.total t c.common_multiple-next.result) c.sum_of.ensures.exact c.common_multiple-next.ensures in
    let more = one_more (grouped c.args.groups.now c.args.counts.now) c.loop-j.j c.loop-j.total c.common_multiple-next.result c.loop-j.invariant.least c.loop-j.invariant.divides both in
    record { least = more.0; divides = more.1; small = omega (arith, c.if-next-from.false, c.from.ensures) }

pub returns-clause-least : goal.returns-clause-least
returns-clause-least c =
    subst (λ n. IsLeastCommonMultiple (grouped c.args.groups.now c.args.counts.now) n c.loop-j.total)
    (omega (arith, c.loop-j-test.false, c.loop-j.auto.j-end, c.count_groups-j-end.ensures)) c.loop-j.invariant.least
