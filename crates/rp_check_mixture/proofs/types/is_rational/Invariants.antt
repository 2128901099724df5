use Rattle.std.proofs.Common.{◌≡◌, take}
use Rattle.rp_patch.specs.PartialTypes.{IsPartialType, taken_in}
use Rattle.rp_check_mixture.proofs.types.is_rational.Given as goal

abbrev pub invariant-loop-i : goal.invariant-loop-i
invariant-loop-i l =
    IsPartialType l.patches l.partial × (l.partial.taken ≡ l.i-index) × (taken_in l.partial ≡ take l.i-index l.numbers)
