-- What the checker takes proves its verdict, where there is some.
use Rattle.std.proofs.Common.{ℕ, Option, Some, None, IfSome, Result, Ok, Err, IfOk}
use Rattle.rp_evidence.specs.Homothetic.{ProvesHomothetic}
use Rattle.rp_evidence.specs.declared.homothetic.Homothetic.{Homothetic}
use Rattle.rp_clauses.specs.HomotheticFailure.{HomotheticFails}
use Rattle.rp_clauses.proofs.SoundTests.{homothetic_proves}

pub given_proves : (n : ℕ) (c : ℕ → ℕ → ℕ) (found : Option Homothetic) → IfSome found (λ h. HomotheticFails n c h (Ok tt)) → IfSome found (ProvesHomothetic n c)
given_proves n c (Some h) passes = homothetic_proves n c h passes
given_proves n c None passes = tt

pub result_proves : {E : Type 0} (n : ℕ) (c : ℕ → ℕ → ℕ) (r : Result (Option Homothetic) E) → IfOk r (λ found. IfSome found (λ h. HomotheticFails n c h (Ok tt))) → IfOk r (λ found. IfSome found (ProvesHomothetic n c))
result_proves n c (Ok found) passes = given_proves n c found passes
result_proves n c (Err e) passes = tt
