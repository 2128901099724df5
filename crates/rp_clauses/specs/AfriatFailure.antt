-- When evidence by Afriat's theorem fails (this program's own order of clauses; Afriat 1967).
use Rattle.std.specs.Prelude.{◌<◌, ◌≤◌, ◌*◌, ◌≤ℤ◌, ◌-ℤ◌, pos, ℕ, ℤ, List, [], ◌∷◌}
use Rattle.rp_evidence.specs.Clauses.{Finding, Unless, InOrder, FirstUnless}
use Rattle.rp_clauses.specs.WalkFailure.{ViolationFails}
use Rattle.rp_evidence.specs.Afriat.{allowed_by, in_scale}
use Rattle.rp_evidence.specs.Preference.{StrictByLevels, WeakByLevels}
use Rattle.rp_table.specs.OwnLevels.{level_scale, own_by_level}
use Rattle.rp_evidence.specs.AfriatEvidence.{AreOneEach, multiplier_in, utility_in}
use Rattle.rp_evidence.specs.StandardNumbers.{FitsMultiplier, FitsUtility}
use Rattle.rp_evidence.specs.declared.afriat.AfriatPart.{AfriatPart}
use Rattle.rp_evidence.specs.declared.afriat.AfriatPart.TheVariants.{Model, NoModel, Wide}
use Rattle.rp_evidence.specs.declared.afriat.Numbers.{Numbers}
use Rattle.rp_evidence.specs.declared.failure.Reason.TheVariants.{Shape, Number, Order}

-- The numbers of s are within their widths, and its multiplier is not 0.
abbrev pub NumbersFitAt : Numbers → ℕ → Type 0
NumbersFitAt numbers s =
    (1 ≤ multiplier_in numbers s) × FitsMultiplier (multiplier_in numbers s) × FitsUtility (utility_in numbers s)

-- What the bundle of t costs at the prices of s above what s is held to, where the observations have these levels, or
-- none, in their scale.
abbrev pub own_gap : List ℕ → (ℕ → ℕ → ℕ) → ℕ → ℕ → ℤ
own_gap levels c s t = pos (level_scale levels * c s t) -ℤ pos (own_by_level levels c s)

-- What the numbers of s allow t to have, where the observations have these levels, or none.
abbrev pub own_allowed : List ℕ → (ℕ → ℕ → ℕ) → (ℕ → ℤ) → (ℕ → ℕ) → ℕ → ℕ → ℤ
own_allowed levels c = allowed_by (in_scale (level_scale levels) c) (own_by_level levels c)

-- The numbers of s allow every observation its utility.
abbrev pub AllowsAt : ℕ → List ℕ → (ℕ → ℕ → ℕ) → Numbers → ℕ → Type 0
AllowsAt n levels c numbers s = (t : ℕ) → t < n
    → utility_in numbers t ≤ℤ own_allowed levels c (utility_in numbers) (multiplier_in numbers) s t

-- The numbers of each observation fit.
abbrev pub NumbersFail : ℕ → Numbers → Finding
NumbersFail n numbers = FirstUnless n (NumbersFitAt numbers) Number

-- The inequalities hold.
abbrev pub InequalitiesFail : ℕ → List ℕ → (ℕ → ℕ → ℕ) → Numbers → Finding
InequalitiesFail n levels c numbers = FirstUnless n (AllowsAt n levels c numbers) Order

-- A model: one utility and one multiplier for each observation, all within their widths, and the inequalities.
abbrev pub ModelFails : ℕ → List ℕ → (ℕ → ℕ → ℕ) → Numbers → Finding
ModelFails n levels c numbers = InOrder (
    Unless (AreOneEach n numbers) Shape 0
    ∷ NumbersFail n numbers
    ∷ InequalitiesFail n levels c numbers
    ∷ [])

-- Evidence where the observations have these levels, or none. What is withheld is passed over.
abbrev pub AfriatFails : ℕ → List ℕ → (ℕ → ℕ → ℕ) → AfriatPart → Finding
AfriatFails n levels c (Model numbers) = ModelFails n levels c numbers
AfriatFails n levels c (NoModel walk) = ViolationFails n (WeakByLevels levels c) (StrictByLevels levels c) walk
AfriatFails n levels c (Wide at) = InOrder []
