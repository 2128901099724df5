use Rattle.std.proofs.Common.{◌≤◌, ◌*◌}
use Rattle.rp_evidence.specs.Input.{input_of_table}
use Rattle.rp_table.specs.Tables.{records_of}
use Rattle.rp_check_fit.specs.Axioms.{IsPairOf}
use Rattle.rp_check_fit.proofs.CountedPairs.{PairsBelow}
use Rattle.rp_check_fit.proofs.pair_counts.count_pairs.Given as goal

abbrev pub invariant-loop-s : goal.invariant-loop-s
invariant-loop-s l =
    PairsBelow l.s (records_of l.input.table.now) (IsPairOf (input_of_table l.input.table.now) l.which) l.count × (l.count ≤ l.s * 512)
