use Rattle.std.proofs.Common.{ℕ, ◌≤◌, slice_index}
use Rattle.rp_evidence.specs.Enumeration.{Enumerates}
use Rattle.rp_filled.proofs.costs.not_above.Given as goal

abbrev pub invariant-loop-t : goal.invariant-loop-t
invariant-loop-t l = Enumerates l.t (λ (t : ℕ). slice_index l.tech.y t ≤ l.y) l.list.items
