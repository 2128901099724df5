use Rattle.std.proofs.Common.{◌≤◌}
use Rattle.rp_evidence.specs.Count.{IsNumberOf}
use Rattle.rp_evidence.specs.Input.{input_of_table}
use Rattle.rp_check_fit.specs.Axioms.{IsPairOf}
use Rattle.rp_check_fit.proofs.pair_counts.count_seconds.Given as goal

abbrev pub invariant-loop-t : goal.invariant-loop-t
invariant-loop-t l = IsNumberOf l.t (IsPairOf (input_of_table l.input.table.now) l.which l.s) l.count × (l.count ≤ l.t)
