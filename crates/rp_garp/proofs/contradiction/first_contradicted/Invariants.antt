use Rattle.std.proofs.Common.{ℕ, ◌<◌}
use Rattle.rp_pref.specs.Steps.{OwnStrict, OwnWeak}
use Rattle.rp_garp.specs.Pairs.{Contradict}
use Rattle.rp_garp.proofs.contradiction.first_contradicted.Given as goal

abbrev pub invariant-loop-t : goal.invariant-loop-t
invariant-loop-t l = (j : ℕ) → j < l.t → Contradict (OwnWeak l.costs) (OwnStrict l.costs) l.s j → ⊥
