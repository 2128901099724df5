use Rattle.std.proofs.Common.{arith, ◌/◌, ◌≡◌}
use Rattle.rp_pref.proofs.Noted.{word_noted}
use Rattle.rp_pref.proofs.closure.strict_in_word.Goals as goal

pub loop-t-preserved : goal.loop-t-preserved
loop-t-preserved g c =
    let here : c.loop-t.t / 64 ≡ c.args.place = omega (arith, c.loop-t.auto.t, c.loop-t-test.true, c.min-end.ensures) in
    word_noted c.args.place c.loop-t.t c.loop-t.word c.from.result c.is_strict.result (g.P.Revealed.strict c.args.preference.now c.args.s)
    here c.loop-t.invariant c.is_strict.ensures c.from.ensures
