use Rattle.std.proofs.Common.{◌≡◌, length}
use Rattle.rp_evidence.proofs.Rounds.{HasGone}
use Rattle.rp_clauses.specs.InnerBits.{has_bit}
use Rattle.rp_clauses.proofs.closure.go_through.Given as goal

abbrev pub invariant-loop-s : goal.invariant-loop-s
invariant-loop-s l = record {
  long : length l.rows ≡ length l.fn.rows;
  bits : HasGone (has_bit l.fn.rows) (has_bit l.rows) l.k l.s;
}
