use Rattle.std.proofs.Common.{ℕ, ◌<◌, get_or}
use Rattle.rp_num.specs.Fraction.{Fraction, FitsWidth, IsLowestTerms}
use Rattle.rp_homo.proofs.homothetic_verdict.are_lowest.Given as goal

abbrev pub invariant-loop-fraction : goal.invariant-loop-fraction
invariant-loop-fraction l = record {
  lowest : (k : ℕ) → k < l.fraction-index → (d : Fraction) → IsLowestTerms (get_or l.fractions k d).num (get_or l.fractions k d).den (get_or l.fractions k d);
  fit : (k : ℕ) → k < l.fraction-index → (d : Fraction) → FitsWidth (get_or l.fractions k d);
}
