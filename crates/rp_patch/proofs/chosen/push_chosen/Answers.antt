use Rattle.std.proofs.Common.{◌<◌, length, arith, sym, ◌∙◌}
use Rattle.std.proofs.lemmas.List.{append-nil}
use Rattle.rp_patch.specs.InnerTallies.{tallied}
use Rattle.rp_patch.proofs.ChosenFacts.{all_pushed, length_tallied, one_pushed}
use Rattle.rp_patch.proofs.chosen.push_chosen.Goals as goal

pub loop-at-init : goal.loop-at-init
loop-at-init c = sym (append-nil c.args.chosen.now.items)

pub loop-at-preserved : goal.loop-at-preserved
loop-at-preserved c =
    let within : c.loop-at.at < length (tallied c.args.tally.now.entries) = omega (arith, length_tallied c.args.tally.now.entries, c.loop-at-test.true, c.len-at-end.ensures.len) in
    rw (c.in_ok-push.ensures.items, c.in_ok-chosen_at.ensures, c.loop-at.invariant) (one_pushed c.args.j c.loop-at.at (tallied c.args.tally.now.entries) c.args.chosen.now.items within)

pub returns : goal.returns
returns c =
    c.loop-at.invariant ∙ all_pushed c.args.j c.loop-at.at c.len-at-end.result c.args.tally.now.entries c.args.chosen.now.items c.loop-at.auto.at-end c.loop-at-test.false c.len-at-end.ensures.len
