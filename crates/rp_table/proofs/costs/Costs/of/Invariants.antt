use Rattle.std.proofs.Common.{◌≡◌, ℕ, ◌+◌, ◌*◌, ◌/◌, ◌%◌, ◌<◌, ◌≤◌, ◌^◌, slice_index}
use Rattle.std.specs.List.{All}
use Rattle.std.proofs.Common.{vec_len}
use Rattle.rp_table.specs.Cost.{cost_of}
use Rattle.rp_table.proofs.costs.Costs.of.Given as goal

abbrev pub invariant-loop-s : goal.invariant-loop-s
invariant-loop-s l = record {
  so_far : vec_len l.entries ≡ l.s * l.n;
  exact : (k : ℕ) → k < l.s * l.n → slice_index l.entries.items k ≡ cost_of l.table (k / l.n) (k % l.n);
  limits : All (λ cost. (1 ≤ cost) × (cost < 2 ^ 51)) l.entries.items;
}

abbrev pub invariant-loop-t : goal.invariant-loop-t
invariant-loop-t l = record {
  so_far : vec_len l.entries ≡ l.s * l.n + l.t;
  exact : (k : ℕ) → k < l.s * l.n + l.t → slice_index l.entries.items k ≡ cost_of l.table (k / l.n) (k % l.n);
  limits : All (λ cost. (1 ≤ cost) × (cost < 2 ^ 51)) l.entries.items;
}
