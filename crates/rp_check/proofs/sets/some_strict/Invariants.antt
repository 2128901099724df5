use Rattle.std.proofs.Common.{ℕ, ◌<◌}
use Rattle.rp_evidence.specs.Preference.{IsStrict}
use Rattle.rp_table.specs.Cost.{cost_of}
use Rattle.rp_evidence.specs.Marks.{IsMarked}
use Rattle.rp_check.proofs.sets.some_strict.Given as goal

abbrev pub invariant-loop-u : goal.invariant-loop-u
invariant-loop-u l = (k : ℕ) → k < l.u → ¬ (IsMarked l.marks k × IsStrict (cost_of l.input.table.now) k l.v)
