use Rattle.std.proofs.Common.{◌≢◌, ℕ, ◌<◌}
use Rattle.rp_simplex.specs.InnerStage.{exact}
use Rattle.rp_simplex.proofs.readout.row_of.Given as goal

abbrev pub invariant-loop-i : goal.invariant-loop-i
invariant-loop-i l = (k : ℕ) → k < l.i → (exact l.t).basis k ≢ l.column
