use Rattle.std.proofs.Common.{◌≡◌, ◌+◌, ◌<◌, ℕ, pos, length, if◌then◌else◌, nat_eq}
use Rattle.rp_whole_tableau.specs.Pivots.{number_at}
use Rattle.rp_whole_tableau.proofs.grown.first_row.Given as goal

abbrev pub invariant-loop-s : goal.invariant-loop-s
invariant-loop-s l = record {
  count : length l.row.items ≡ l.s + 1;
  side_is : number_at l.row.items 0 ≡ pos l.side;
  slacks : (k : ℕ) → k < l.s → number_at l.row.items (k + 1) ≡ (if nat_eq k l.i then pos 1 else pos 0);
}
