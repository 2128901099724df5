-- The steps of searches for rational types (this program's own; searches of this kind after Land and Doig 1960).
use Rattle.std.specs.Prelude.{◌≡◌, ◌≢◌, ◌*◌, ◌<◌, ◌≤◌, ◌⊎◌, ◌++◌, [], ◌∷◌, ℕ, All, List, length, slice_index, sum_by}
use Rattle.std.specs.List.{AllPairs}
use Rattle.rp_evidence.specs.declared.random.RandomPart.{RandomPart}
use Rattle.rp_evidence.specs.declared.random.RandomPart.TheVariants.{Mixture, Violated, Wide}
use Rattle.rp_limits.specs.declared.generated.TheConstants.{STEPS}
use Rattle.rp_patch.specs.PartialTypes.{IsRationalBelow}
use Rattle.rp_patch.specs.Patches.{PatchList, budget_at}
use Rattle.rp_patch.specs.Types.{IsRationalType}
use Rattle.rp_generated.specs.Rounds.{HasEnded, HasNothingToShow}

-- A step is a look at a patch for a type that is begun: of each of the first budgets a patch, without a violation among
-- them, and after these the patch of the next budget that is looked at.
pub record IsLook (p : PatchList) (look : List ℕ) : Type 0 where
  pub begun : List ℕ
  pub patch : ℕ
  pub is : look ≡ begun ++ patch ∷ []
  pub on_budgets : (j : ℕ) → j < length begun → budget_at p (slice_index begun j) ≡ j
  pub rational : IsRationalBelow p begun
  pub inside : patch < length p.patches
  pub next : budget_at p patch ≡ length begun

-- A search looks at no patch twice for a type that is begun.
pub record IsSearch (p : PatchList) (looks : List (List ℕ)) : Type 0 where
  pub each : All (IsLook p) looks
  pub once : AllPairs (λ look later. look ≢ later) looks

-- One of these looks is at the last patch of a rational type.
abbrev pub HasFound : PatchList → List (List ℕ) → Type 0
HasFound p [] = ⊥
HasFound p (look ∷ looks) = IsRationalType p look ⊎ HasFound p looks

-- One of these searches found a rational type.
abbrev pub SomeHasFound : PatchList → List (List (List ℕ)) → Type 0
SomeHasFound p [] = ⊥
SomeHasFound p (looks ∷ searches) = HasFound p looks ⊎ SomeHasFound p searches

-- There is no rational type.
abbrev pub HasNoRationalType : PatchList → Type 0
HasNoRationalType p = (type : List ℕ) → ¬ IsRationalType p type

-- The most steps of searches that a user can set, and those where none is set. They are half of the steps that may be
-- made: the other half is the check's.
abbrev pub IsMostSteps : ℕ → Type 0
IsMostSteps most = 2 * most ≤ STEPS

-- All steps that the searches may make are spent.
abbrev pub AreSpent : ℕ → ℕ → Type 0
AreSpent most steps = steps ≡ most

-- A verdict is withheld after so many steps, where so many at most may be made. They are the looks of searches: of one that leaves out nothing, and of one
-- in each of at most 65,536 rounds. Either all steps are spent; or there is no rational type, and the checker does not take
-- what shows it; or some search found one, and the rounds over the found types ended without evidence.
pub record IsWithheldAfter (p : PatchList) (most steps : ℕ) : Type 0 where
  pub searches : List (List (List ℕ))
  pub rounds : length searches ≤ 65537
  pub each : All (IsSearch p) searches
  pub looks : sum_by length searches ≡ steps
  pub within : steps ≤ most
  pub cause : AreSpent most steps ⊎ (HasNothingToShow p most steps ⊎ (SomeHasFound p searches × HasEnded p most steps))

-- Of the steps after which a verdict is withheld this holds.
abbrev pub WithheldAt : RandomPart → (ℕ → Type 0) → Type 0
WithheldAt (Mixture den parts) holds = Unit {0}
WithheldAt (Violated den parts weights) holds = Unit {0}
WithheldAt (Wide step) holds = holds step
