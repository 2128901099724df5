use Rattle.std.proofs.Common.{◌-◌}
use Rattle.rp_table.specs.Cost.{own_of}
use Rattle.rp_afriat.specs.InnerFilling.{AreFilledAbove, AreForEach, FitAbove, scaled_at}
use Rattle.rp_afriat.proofs.afriat_verdict.fill.Given as goal

abbrev pub invariant-loop-done : goal.invariant-loop-done
invariant-loop-done l = record {
  each : AreForEach l.costs.n l.counts l.u l.lambda;
  filled : AreFilledAbove l.costs.n (scaled_at l.costs) (own_of l.costs) l.counts l.u l.lambda (l.costs.n - l.done);
  fit : FitAbove l.costs.n l.counts l.u l.lambda (l.costs.n - l.done);
}
