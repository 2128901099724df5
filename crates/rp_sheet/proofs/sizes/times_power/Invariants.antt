use Rattle.std.proofs.Common.{◌≡◌, ◌*◌, ◌^◌}
use Rattle.rp_sheet.proofs.sizes.times_power.Given as goal

abbrev pub invariant-loop : goal.invariant-loop
invariant-loop l = l.size ≡ l.units * 10 ^ l.counter
