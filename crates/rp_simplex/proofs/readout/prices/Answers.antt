use Rattle.std.proofs.Common.{◌+◌, pos, ◌≤ℤ◌, arith, add-one}
use Rattle.std.proofs.lemmas.Int.{ints}
use Rattle.rp_simplex.specs.InnerStage.{exact}
use Rattle.rp_simplex.proofs.readout.prices.Goals as goal

pub overflow_cast-entry : goal.overflow_cast-entry
overflow_cast-entry c =
    let least : pos 0 ≤ℤ (exact c.args.t.now).at c.args.t.now.rows (c.loop-s.s + 1) = rw add-one (c.requires.not_negative c.loop-s.s c.loop-s-test.true) in
    let is = c.entry.ensures.value in
    let fits = c.entry.type_inv in
    (omega (arith, ints), omega (arith, ints))
