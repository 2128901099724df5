use Rattle.std.proofs.Common.{rules, arith, ◌≤◌}
use Rattle.rp_pref.proofs.Rounds.{row_left}
use Rattle.rp_pref.proofs.bits.take_in.Goals as goal

pub returns-clause-row : goal.returns-clause-row
returns-clause-row c =
    let old = c.args.bits.now in let words = c.cols-words.ensures in
    let whole : old.cols ≤ c.loop-word.word = omega (arith, words.count, c.loop-word-test.false) in
    row_left old c.loop-word.rows.grid.now c.args.s c.args.k c.loop-word.word c.requires.into c.requires.from words.equal c.loop-word.invariant.4 whole _ (search rules)
