use Rattle.std.proofs.Common.{rules, ◌-◌, ◌<◌, length, map, arith}
use Rattle.std.proofs.lemmas.List.{get_or-map, length-map}
use Rattle.rp_text.proofs.choices.from_zero.Goals as goal

pub overflow_cast-saturating_sub : goal.overflow_cast-saturating_sub
overflow_cast-saturating_sub c =
    let numbers = c.args.numbers.now in
    let place = c.loop-number.number-index in
    let inside : place < length (map (λ number. number - 1) numbers) = omega (arith, length-map numbers (λ number. number - 1), c.loop-number-test.true) in
    let below = c.requires place 0 inside in
    let here = get_or-map (λ number. number - 1) numbers place 0 0 c.loop-number-test.true in
    let small : c.saturating_sub.result < 48 = rw (c.saturating_sub.ensures, ← here) below in
    search rules
