use Rattle.std.proofs.Common.{◌≡◌, ◌<◌, length, rules}
use Rattle.rp_generated.proofs.Looks.{withheld_none}
use Rattle.rp_generated.proofs.RoundLaws.{adds_seen, all_first_light, first_grown, weights_end}
use Rattle.rp_generated.proofs.rounds.rounds.Goals as goal

pub returns-then-is_empty-clause-ends : goal.returns-then-is_empty-clause-ends
returns-then-is_empty-clause-ends c =
    let p = c.args.patches.now in
    let light = c.in_ok-light.light in
    let none : length light.types.items ≡ 0 = search rules in
    weights_end p c.args.most light.steps c.in_ok-program.program c.in_ok-part.part c.in_ok-part.ensures
    (λ nothing. withheld_none p c.args.most light c.in_ok-program.program c.in_ok-light.ensures.first none c.in_ok-program.ensures nothing)

pub later_rounds-requires-clause-grown : goal.later_rounds-requires-clause-grown
later_rounds-requires-clause-grown c =
    let p = c.args.patches.now in
    let light = c.in_ok-light.light in
    let some : 0 < length light.types.items = search rules in
    first_grown p (length light.types.items) c.in_ok-program.program c.add_all.new.program c.in_ok-program.ensures some
    (adds_seen p light.types.items c.as_slice.result.now c.in_ok-program.program c.add_all.new.program c.as_slice.ensures.value c.in_ok-add_all.ensures (all_first_light p c.in_ok-program.program light.types.items c.in_ok-program.ensures c.in_ok-light.ensures.types))
