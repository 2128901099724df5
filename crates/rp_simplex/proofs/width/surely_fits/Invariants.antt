use Rattle.std.proofs.Common.{◌≡◌, ◌*◌, ◌^◌, ◌≤◌}
use Rattle.rp_simplex.proofs.DotLemmas.{magnitude}
use Rattle.rp_simplex.proofs.width.surely_fits.Given as goal

abbrev pub invariant-loop-s : goal.invariant-loop-s
invariant-loop-s l = record {
  value : l.sum ≡ magnitude l.s l.multipliers;
  bounded : l.sum ≤ l.s * 2 ^ 63;
}
