-- What evidence for Afriat's theorem has to be to prove its verdict.
use Rattle.std.specs.Prelude.{◌≡◌, ℕ, List, ℤ, pos, length, slice_index, slice_index_or}
use Rattle.rp_evidence.specs.Afriat.{IsAfriatModel, IsOwnModel}
use Rattle.rp_evidence.specs.Garp.{IsViolation, IsViolationAt}
use Rattle.rp_evidence.specs.Preference.{StrictByLevels, WeakByLevels}
use Rattle.rp_evidence.specs.declared.afriat.AfriatPart.{AfriatPart}
use Rattle.rp_evidence.specs.declared.afriat.AfriatPart.TheVariants.{Model, NoModel, Wide}
use Rattle.rp_evidence.specs.declared.afriat.Numbers.{Numbers}

-- The utility and the multiplier of an observation; past the last they are 0.
abbrev pub utility_in : Numbers → ℕ → ℤ
utility_in numbers s = slice_index_or numbers.u s (pos 0)

abbrev pub multiplier_in : Numbers → ℕ → ℕ
multiplier_in numbers s = slice_index numbers.lambda s

-- One utility and one multiplier for each of n observations.
pub record AreOneEach (n : ℕ) (numbers : Numbers) : Type 0 where
  pub utilities : length numbers.u ≡ n
  pub multipliers : length numbers.lambda ≡ n

-- A model proves its verdict where it is one, and a violation where it is one. What is withheld claims nothing.
abbrev pub ProvesAfriat : ℕ → (ℕ → ℕ → ℕ) → AfriatPart → Type 0
ProvesAfriat n c (Model numbers) = AreOneEach n numbers × IsAfriatModel n c (utility_in numbers) (multiplier_in numbers)
ProvesAfriat n c (NoModel walk) = IsViolationAt n c 1 1 walk
ProvesAfriat n c (Wide at) = Unit {0}

-- The same where the observations have these levels, or none.
abbrev pub ProvesOwnAfriat : ℕ → List ℕ → (ℕ → ℕ → ℕ) → AfriatPart → Type 0
ProvesOwnAfriat n levels c (Model numbers) =
    AreOneEach n numbers × IsOwnModel n levels c (utility_in numbers) (multiplier_in numbers)
ProvesOwnAfriat n levels c (NoModel walk) = IsViolation n (WeakByLevels levels c) (StrictByLevels levels c) walk
ProvesOwnAfriat n levels c (Wide at) = Unit {0}

-- How many of its values a part leaves out.
abbrev pub withheld_afriat : AfriatPart → ℕ
withheld_afriat (Wide at) = 1
withheld_afriat _ = 0
