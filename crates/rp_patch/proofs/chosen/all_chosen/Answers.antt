use Rattle.std.proofs.Common.{arith, ◌∙◌, ap, length}
use Rattle.std.proofs.lemmas.List.FromFn.{length-map-range_with_len}
use Rattle.rp_patch.specs.Choices.{random_input_of}
use Rattle.rp_patch.specs.Signs.{signs_of}
use Rattle.rp_patch.proofs.ChosenFacts.{tally_same, more_chosen, how_many}
use Rattle.rp_patch.proofs.chosen.all_chosen.Goals as goal

pub tally_on-requires : goal.tally_on-requires
tally_on-requires c =
    rw (c.as_slice.ensures.value, c.in_ok-all.ensures) (length-map-range_with_len (signs_of (random_input_of c.args.budgets.now c.args.choices.now)) 0 (length c.args.choices.now.budget))

pub returns-then-len-most-clause-refused : goal.returns-then-len-most-clause-refused
returns-then-len-most-clause-refused c =
    let is = c.in_ok-tally.ensures ∙ tally_same c.args.budgets.now c.args.choices.now c.as_slice.result.now c.loop-j.j (c.as_slice.ensures.value ∙ c.in_ok-all.ensures) in
    let many = how_many (random_input_of c.args.budgets.now c.args.choices.now) c.loop-j.j c.loop-j.chosen.items c.in_ok-tally.tally.entries c.loop-j.invariant.so_far is in
    let so_far = ap length c.loop-j.invariant.so_far in
    let few = c.loop-j.invariant.few in
    let length_is = c.loop-j.chosen.ok.0 in
    (omega (arith, c.loop-j-test.true, c.count-j-end.ensures.count), omega (arith, so_far, few), omega (arith, many, c.if-len-most.true, c.len.ensures, c.len-in-loop-j.ensures.len, length_is))

pub loop-j-preserved : goal.loop-j-preserved
loop-j-preserved c =
    let is = c.in_ok-tally.ensures ∙ tally_same c.args.budgets.now c.args.choices.now c.as_slice.result.now c.loop-j.j (c.as_slice.ensures.value ∙ c.in_ok-all.ensures) in
    let many = how_many (random_input_of c.args.budgets.now c.args.choices.now) c.loop-j.j c.loop-j.chosen.items c.in_ok-tally.tally.entries c.loop-j.invariant.so_far is in
    let more = more_chosen (random_input_of c.args.budgets.now c.args.choices.now) c.loop-j.j c.loop-j.chosen.items c.push_chosen.new.chosen.items _ c.loop-j.invariant.so_far is c.in_ok-push_chosen.ensures in
    let length_is = c.loop-j.chosen.ok.0 in
    record { so_far = more; few = omega (arith, ap length more, many, c.if-len-most.false, c.len.ensures, c.len-in-loop-j.ensures.len, length_is) }
