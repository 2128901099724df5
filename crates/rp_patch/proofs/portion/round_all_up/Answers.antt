use Rattle.std.proofs.Common.{◌≡◌, ◌-◌, arith, ap, ◌∙◌}
use Rattle.rp_patch.specs.InnerPortions.{whole_on}
use Rattle.rp_patch.proofs.RoundedUpPortions.{same_count}
use Rattle.rp_patch.proofs.RoundedUpGroups.{none_rounded_up_on, one_more_given, same_whole}
use Rattle.rp_patch.proofs.portion.round_all_up.Goals as goal

pub overflow_sub-missing : goal.overflow_sub-missing
overflow_sub-missing c =
    let is : c.whole_on.result ≡ whole_on c.loop-j.portions.items c.loop-j.j = c.whole_on.ensures ∙ ap (λ ps. whole_on ps c.loop-j.j) c.as_slice.ensures.value in
    omega (arith, is, same_whole c.args.portions.now.items c.loop-j.portions.items c.loop-j.j c.loop-j.invariant.same, c.requires.within c.loop-j.j c.loop-j-test.true)

pub round_up-requires-clause-none_yet : goal.round_up-requires-clause-none_yet
round_up-requires-clause-none_yet c = none_rounded_up_on c.loop-j.portions.items c.loop-j.j c.loop-j.invariant.later

pub round_up-requires-clause-enough : goal.round_up-requires-clause-enough
round_up-requires-clause-enough c =
    let is : c.whole_on.result ≡ whole_on c.loop-j.portions.items c.loop-j.j = c.whole_on.ensures ∙ ap (λ ps. whole_on ps c.loop-j.j) c.as_slice.ensures.value in
    omega (
      arith,
      is,
      same_whole c.args.portions.now.items c.loop-j.portions.items c.loop-j.j c.loop-j.invariant.same,
      same_count c.args.portions.now.items c.loop-j.portions.items c.loop-j.j c.loop-j.invariant.same,
      c.requires.enough c.loop-j.j c.loop-j-test.true,
    )

pub loop-j-preserved : goal.loop-j-preserved
loop-j-preserved c =
    let is : c.whole_on.result ≡ whole_on c.loop-j.portions.items c.loop-j.j = c.whole_on.ensures ∙ ap (λ ps. whole_on ps c.loop-j.j) c.as_slice.ensures.value in
    one_more_given c.args.portions.now.items c.loop-j.portions.items c.round_up.new.portions.items c.loop-j.j c.args.total _ c.loop-j.invariant c.round_up.ensures
    (omega (arith, is, same_whole c.args.portions.now.items c.loop-j.portions.items c.loop-j.j c.loop-j.invariant.same, c.requires.within c.loop-j.j c.loop-j-test.true))
    (ap (λ n. c.args.total - n) is)
