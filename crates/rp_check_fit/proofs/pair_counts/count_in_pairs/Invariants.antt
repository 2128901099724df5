use Rattle.std.proofs.Common.{◌≤◌}
use Rattle.rp_evidence.specs.Count.{IsNumberOf}
use Rattle.rp_evidence.specs.Input.{input_of_table}
use Rattle.rp_fit.specs.Violations.{IsInGarpPair}
use Rattle.rp_check_fit.proofs.pair_counts.count_in_pairs.Given as goal

abbrev pub invariant-loop-s : goal.invariant-loop-s
invariant-loop-s l = IsNumberOf l.s (IsInGarpPair (input_of_table l.input.table.now)) l.count × (l.count ≤ l.s)
