-- Which pairs violate an axiom that is named (Samuelson 1938; Houthakker 1950; Varian 1982).
use Rattle.std.specs.Prelude.{◌⊎◌, ℕ}
use Rattle.rp_check_fit.specs.declared.pairs.Axiom.{Axiom}
use Rattle.rp_check_fit.specs.declared.pairs.Axiom.TheVariants.{Garp, WeakGarp, Warp, Sarp}
use Rattle.rp_evidence.specs.Input.{TableInput}
use Rattle.rp_fit.specs.Violations.{IsGarpPair, IsSarpPair, IsWarpPair, IsWeakGarpPair}

-- The pair violates the axiom.
abbrev pub IsPairOf : TableInput → Axiom → ℕ → ℕ → Type 0
IsPairOf input Garp = IsGarpPair input
IsPairOf input WeakGarp = IsWeakGarpPair input
IsPairOf input Warp = IsWarpPair input
IsPairOf input Sarp = IsSarpPair input

-- In one order or the other the two violate GARP.
abbrev pub IsEitherPair : TableInput → ℕ → ℕ → Type 0
IsEitherPair input s t = IsGarpPair input s t ⊎ IsGarpPair input t s
