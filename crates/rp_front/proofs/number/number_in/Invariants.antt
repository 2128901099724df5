use Rattle.std.proofs.Common.{◌≡◌, ◌≤◌, drop}
use Rattle.rp_front.specs.Numbers.{number_after}
use Rattle.rp_front.proofs.number.number_in.Given as goal

abbrev pub invariant-loop-byte : goal.invariant-loop-byte
invariant-loop-byte l = record {
  rest : number_after l.most l.number (drop l.byte-index l.text) ≡ number_after l.most 0 l.text;
  within : l.number ≤ l.most;
}
