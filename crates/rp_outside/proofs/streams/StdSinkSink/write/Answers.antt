use Rattle.std.proofs.Common.{arith}
use Rattle.rp_outside.proofs.Flushed.{flushed-stays}
use Rattle.rp_outside.proofs.streams.StdSinkSink.write.Goals as goal

pub returns-in-Err-clause-failed_stays : goal.returns-in-Err-clause-failed_stays
returns-in-Err-clause-failed_stays g c =
    rw (← c.self.view_is) (flushed-stays (g.W.Write.contents c.self.inside.writer) (g.W.Write.contents c.write_out.new.writer) c.args.piece.now c.self.inside.unflushed c.in-Err.held (omega (arith, c.if-self-gt0.false)) c.in-Err.ensures.held c.in-Err.ensures.taken)
