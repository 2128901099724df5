use Rattle.std.proofs.Common.{◌≢◌, ◌<◌, ℕ, slice_index}
use Rattle.rp_orders.proofs.lists.is_order.Given as goal

abbrev pub invariant-loop-j : goal.invariant-loop-j
invariant-loop-j l = record {
  letter : (i : ℕ) → i < l.j → slice_index l.list i < l.letters;
  once : (h i : ℕ) → h < i → i < l.j → slice_index l.list h ≢ slice_index l.list i;
}
