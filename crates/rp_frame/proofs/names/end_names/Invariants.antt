use Rattle.std.proofs.Common.{◌≡◌, ◌++◌, ℕ, List, drop, map}
use Rattle.std.specs.Borrow.{Bor}
use Rattle.rp_frame.specs.Names.{ended_names}
use Rattle.rp_frame.proofs.names.end_names.Given as goal

abbrev pub invariant-loop-name : goal.invariant-loop-name
invariant-loop-name l = record {
  rest :
      l.text.items ++ ended_names (map (λ (name : Bor (List ℕ)). name.now) (drop l.name-index l.names)) ≡ ended_names (map (λ (name : Bor (List ℕ)). name.now) l.names);
}
