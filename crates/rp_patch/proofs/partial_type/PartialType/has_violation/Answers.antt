use Rattle.std.proofs.Common.{◌≡◌, ◌<ℤ◌, pos, arith, below_more, subst, sym, rules, get_or, slice_index}
use Rattle.std.proofs.lemmas.List.{get_or-take, length-take-le}
use Rattle.rp_patch.specs.PartialTypes.{taken_in}
use Rattle.rp_patch.specs.Patches.{sign_at}
use Rattle.rp_patch.specs.Sets.{Has}
use Rattle.rp_patch.specs.Types.{IsStrictBy}
use Rattle.rp_patch.proofs.PartialTypeLaws.{found_violation, no_violation}
use Rattle.rp_patch.proofs.partial_type.PartialType.has_violation.Goals as goal

pub returns-then-meet-clause-violated : goal.returns-then-meet-clause-violated
returns-then-meet-clause-violated c = λ yes.
    let part = c.args.self.now in
    let same : slice_index (taken_in part) c.loop-j.j ≡ get_or part.patches c.loop-j.j 0 = get_or-take part.taken part.patches c.loop-j.j 0 c.loop-j-test.true in
    let both = c.if-meet.ensures.0 (search rules) in
    let strict = (c.strict_to-strict.ensures both.0).0 both.2 in
    found_violation c.args.patches.now part c.loop-j.j both.0 c.requires (length-take-le part.taken part.patches (search rules)) c.loop-j-test.true both.1
    (subst (λ i. sign_at c.args.patches.now i both.0 <ℤ pos 0) (sym same) strict.1)

pub loop-j-preserved : goal.loop-j-preserved
loop-j-preserved c = λ j k below k_in h strict.
    let part = c.args.self.now in
    let same : slice_index (taken_in part) c.loop-j.j ≡ get_or part.patches c.loop-j.j 0 = get_or-take part.taken part.patches c.loop-j.j 0 c.loop-j-test.true in
    below_more (λ j. Has (slice_index part.reached j) k → ¬ IsStrictBy c.args.patches.now (taken_in part) k j) c.loop-j.j (λ j l. c.loop-j.invariant j k l k_in)
    (λ g s. search (c.if-meet.ensures.1 (k, g, (c.strict_to-strict.ensures k).1 (k_in, subst (λ i. sign_at c.args.patches.now i k <ℤ pos 0) same s)), rules))
    j below h strict

pub returns-clause-rational : goal.returns-clause-rational
returns-clause-rational c = λ no.
    let part = c.args.self.now in
    no_violation c.args.patches.now part c.requires (length-take-le part.taken part.patches (search rules))
    (λ j k j_in k_in. c.loop-j.invariant j k (omega (arith, j_in, c.loop-j-test.false)) k_in)
