use Rattle.std.proofs.Common.{arith}
use Rattle.rp_clauses.proofs.TakenIn.{row_taken}
use Rattle.rp_clauses.proofs.bits.take_in.Goals as goal

pub returns : goal.returns
returns c =
    row_taken c.args.row.now c.loop-word.row c.args.from.now c.loop-word.word c.loop-word.invariant
    (omega (arith, c.told-row, c.loop-word-test.false)) (omega (arith, c.told-from, c.loop-word-test.false))
