use Rattle.std.proofs.Common.{◌≡◌, ℕ, suc, ◌<◌, vec_len, slice_index}
use Rattle.rp_simplex.proofs.first.slack_columns.Given as goal

abbrev pub invariant-loop-row : goal.invariant-loop-row
invariant-loop-row l = record {
  length_is : vec_len l.columns ≡ l.row;
  slacks : (i : ℕ) → i < l.row → slice_index l.columns.items i ≡ suc i;
}
