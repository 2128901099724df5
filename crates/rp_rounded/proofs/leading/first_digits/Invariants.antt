use Rattle.std.proofs.Common.{◌≡◌, ◌+◌, ◌*◌, ◌^◌, ◌<◌}
use Rattle.rp_rounded.proofs.leading.first_digits.Given as goal

abbrev pub invariant-loop-places : goal.invariant-loop-places
invariant-loop-places l = record {
  exact : l.num * 2 ^ l.places ≡ l.division.whole * l.den + l.division.rest;
  rest : l.division.rest < l.den;
  below : l.division.whole < 2 ^ 60;
}
