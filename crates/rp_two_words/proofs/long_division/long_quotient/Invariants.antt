use Rattle.std.proofs.Common.{◌≡◌, ◌+◌, ◌*◌, ◌^◌, ◌<◌}
use Rattle.rp_two_words.specs.InnerDivision.{taken_together}
use Rattle.rp_two_words.proofs.long_division.long_quotient.Given as goal

abbrev pub invariant-loop-digits : goal.invariant-loop-digits
invariant-loop-digits l = record {
  exact : (l.high * 2 ^ 128 + l.low) * 2 ^ l.digits ≡ taken_together l.by l.division;
  rest : l.division.rest < l.by;
  below : l.division.quotient < 2 ^ l.digits;
  left : l.division.left < 2 ^ 128;
}
