use Rattle.std.proofs.Common.{ℕ, ◌<◌}
use Rattle.rp_pref.specs.Steps.{OwnStrict, OwnWeak}
use Rattle.rp_garp.specs.Pairs.{Contradict}
use Rattle.rp_garp.proofs.contradiction.pairs.Given as goal

abbrev pub invariant-loop-s : goal.invariant-loop-s
invariant-loop-s l = (i j : ℕ) → i < l.s → j < l.costs.n → Contradict (OwnWeak l.costs) (OwnStrict l.costs) i j → ⊥
