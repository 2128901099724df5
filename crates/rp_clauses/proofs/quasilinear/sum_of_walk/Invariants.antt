use Rattle.std.proofs.Common.{◌≡◌, ◌+◌, ◌*◌, ◌^◌, ◌≤◌, take}
use Rattle.std.specs.Int.RustNames.{unsigned_abs}
use Rattle.rp_evidence.specs.Quasilinear.{walk_sum}
use Rattle.rp_table.specs.Cost.{cost_of}
use Rattle.rp_clauses.proofs.quasilinear.sum_of_walk.Given as goal

abbrev pub invariant-loop-k : goal.invariant-loop-k
invariant-loop-k l =
    (l.sum ≡ walk_sum (cost_of l.input.table.now) (take (l.k + 1) l.walk))
    × (unsigned_abs l.sum ≤ l.k * 2 ^ 51)
