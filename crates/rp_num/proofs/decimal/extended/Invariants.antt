use Rattle.std.proofs.Common.{◌≡◌, ◌^◌, min, take}
use Rattle.std.specs.Str.Parse.{digits_value_after}
use Rattle.rp_num.proofs.decimal.extended.Given as goal

abbrev pub invariant-loop-digit : goal.invariant-loop-digit
invariant-loop-digit l =
    l.extended ≡ min (digits_value_after 10 l.fn.units (take l.digit-index l.digits)) (10 ^ 18)
