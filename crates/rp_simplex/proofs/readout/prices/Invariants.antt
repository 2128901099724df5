use Rattle.std.proofs.Common.{◌≡◌, ℕ, suc, ◌<◌, ◌≤◌, pos, vec_capacity, vec_len, slice_index}
use Rattle.rp_simplex.specs.InnerStage.{exact}
use Rattle.rp_simplex.proofs.readout.prices.Given as goal

abbrev pub invariant-loop-s : goal.invariant-loop-s
invariant-loop-s l = record {
  length_is : vec_len l.prices ≡ l.s;
  room : l.t.rows ≤ vec_capacity l.prices;
  read : (k : ℕ) → k < l.s → pos (slice_index l.prices.items k) ≡ (exact l.t).at l.t.rows (suc k);
}
