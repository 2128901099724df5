use Rattle.std.proofs.Common.{◌≡◌, ◌<◌, ℕ}
use Rattle.rp_table.specs.Tables.{quantity_of}
use Rattle.rp_check_fit.proofs.pairs.same_bundle.Given as goal

abbrev pub invariant-loop-g : goal.invariant-loop-g
invariant-loop-g l = (g : ℕ) → g < l.g → quantity_of l.input.table.now l.s g ≡ quantity_of l.input.table.now l.t g
