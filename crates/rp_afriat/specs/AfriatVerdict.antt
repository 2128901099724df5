-- What is given for Afriat's theorem: evidence for the axiom, or against it, or the place where a width is passed.
use Rattle.std.specs.Prelude.{ℕ, List, ℤ}
use Rattle.rp_evidence.specs.AfriatEvidence.{AreOneEach, multiplier_in, utility_in}
use Rattle.rp_evidence.specs.Garp.{HasNoViolation, IsViolation}
use Rattle.rp_evidence.specs.Preference.{StrictByLevels, WeakByLevels}
use Rattle.rp_evidence.specs.StandardNumbers.{AllFit, AreOwnStandardNumbers, PassWidthFirstAt}
use Rattle.rp_evidence.specs.declared.afriat.AfriatPart.{AfriatPart}
use Rattle.rp_evidence.specs.declared.afriat.AfriatPart.TheVariants.{Model, NoModel, Wide}

-- Where the axiom holds and no standard number passes its width, the standard numbers; where it holds and one does,
-- the place of the first that does; where it fails, a violation. The observations have these levels, or none.
abbrev pub IsOwnAfriatVerdict : ℕ → List ℕ → (ℕ → ℕ → ℕ) → AfriatPart → Type 0
IsOwnAfriatVerdict n levels c (Model numbers) =
    HasNoViolation n (WeakByLevels levels c) (StrictByLevels levels c)
    × AreOneEach n numbers × AllFit n (utility_in numbers) (multiplier_in numbers)
    × ((count : ℕ → ℕ) × AreOwnStandardNumbers n levels c count (utility_in numbers) (multiplier_in numbers))
IsOwnAfriatVerdict n levels c (NoModel walk) = IsViolation n (WeakByLevels levels c) (StrictByLevels levels c) walk
IsOwnAfriatVerdict n levels c (Wide at) =
    HasNoViolation n (WeakByLevels levels c) (StrictByLevels levels c)
    × ((count : ℕ → ℕ) × (utility : ℕ → ℤ) × (multiplier : ℕ → ℕ)
    × AreOwnStandardNumbers n levels c count utility multiplier × PassWidthFirstAt n count utility multiplier at)
