-- The evidence that is given for the generalized axiom of revealed preference (Varian 1982).
use Rattle.std.specs.Prelude.{ℕ, List}
use Rattle.rp_evidence.specs.Preference.{IsStrict, IsWeak, StrictByLevels, WeakByLevels}
use Rattle.rp_evidence.specs.declared.garp.Garp.{Garp}
use Rattle.rp_pref.specs.Violation.{IsVerdictOfPreference}

-- The ranks are the counts over the preference at the level 1; a cycle is that of the first two observations that
-- violate the axiom.
abbrev pub IsGarpVerdict : ℕ → (ℕ → ℕ → ℕ) → Garp → Type 0
IsGarpVerdict n c verdict = IsVerdictOfPreference n (IsWeak c) (IsStrict c) verdict

-- The same where the observations have these levels, or none.
abbrev pub IsOwnGarpVerdict : ℕ → List ℕ → (ℕ → ℕ → ℕ) → Garp → Type 0
IsOwnGarpVerdict n levels c verdict = IsVerdictOfPreference n (WeakByLevels levels c) (StrictByLevels levels c) verdict
