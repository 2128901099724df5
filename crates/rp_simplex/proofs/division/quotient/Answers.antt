use Rattle.std.proofs.Common.{sym, subst}
use Rattle.std.specs.Int.{w128}
use Rattle.std.specs.Int.RustNames.{unsigned_abs}
use Prim.Native.Nat.{◌∣◌}
use Rattle.std.proofs.lemmas.Int.{to_z-of_z, fits_signed_from_abs}
use Rattle.rp_simplex.proofs.division.quotient.Goals as goal

pub wide_quotient-value-requires-clause-divides : goal.wide_quotient-value-requires-clause-divides
wide_quotient-value-requires-clause-divides c =
    subst (λ z. c.args.divisor ∣ unsigned_abs z) (sym (to_z-of_z w128 c.args.entry (fits_signed_from_abs w128 c.args.entry c.requires.fits))) c.requires.divides
