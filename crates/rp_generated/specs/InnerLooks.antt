-- How far a search has come: what it has looked at, so that each step that it counts is a look, and none is made twice.
use Rattle.std.specs.Prelude.{◌≡◌, ◌≢◌, ◌+◌, ◌<◌, ◌≤◌, ◌⊎◌, ◌++◌, ⊤, [], ◌∷◌, ℕ, List, length, slice_index, sum_by}
use Rattle.rp_patch.specs.PartialTypes.{Begins}
use Rattle.rp_patch.specs.Patches.{PatchList, budget_at}
use Rattle.rp_patch.specs.Types.{IsRationalType}
use Rattle.rp_generated.specs.Steps.{AreSpent, HasFound, HasNoRationalType, IsLook, IsSearch, SomeHasFound}
use Rattle.rp_generated.specs.declared.looked.Lightest.{Lightest}

-- each element of a list, from its beginning
abbrev pub Each : {X : Type 0} → (X → Type 0) → List X → Type 0
Each P [] = ⊤
Each P (x ∷ xs) = P x × Each P xs

-- no two elements of a list are the same
abbrev pub Apart : {X : Type 0} → List X → Type 0
Apart [] = ⊤
Apart (x ∷ xs) = Each (λ y. x ≢ y) xs × Apart xs

-- patches of budget j, each once
pub record ArePatchesOn (p : PatchList) (j : ℕ) (list : List ℕ) : Type 0 where
  pub inside : Each (λ i. i < length p.patches) list
  pub on_budget : Each (λ i. budget_at p i ≡ j) list
  pub apart : Apart list

-- a look for a type that begins with these patches, and no other look for this beginning alone
abbrev pub IsLookUnder : PatchList → List ℕ → List ℕ → Type 0
IsLookUnder p front look = IsLook p look × Begins look front × (length front < length look)

-- from so many steps to so many there were looks for types that begin with these patches; where there are more types at
-- the end, one of the looks is at the last patch of a rational type, or these patches are one
pub record LookedUnder (p : PatchList) (front : List ℕ) (from to had has : ℕ) : Type 0 where
  pub looks : List (List ℕ)
  pub each : Each (IsLookUnder p front) looks
  pub apart : Apart looks
  pub count : to ≡ from + length looks
  pub found : had < has → IsRationalType p front ⊎ HasFound p looks

-- what a search did between two moments
abbrev pub Looked : PatchList → List ℕ → Lightest → Lightest → Type 0
Looked p front before after =
    LookedUnder p front before.steps after.steps (length before.types.items) (length after.types.items)

-- the looks for no type that is begun, from so many steps and no type on
abbrev pub LookedFrom : PatchList → ℕ → Lightest → Type 0
LookedFrom p from light = LookedUnder p [] from light.steps 0 (length light.types.items)

-- after the beginning none of the patches pick k, pick (k + 1), .., pick (n - 1) was taken in a look
abbrev pub IsBefore : List ℕ → (ℕ → ℕ) → ℕ → ℕ → List ℕ → Type 0
IsBefore front pick n k look = (m : ℕ) → k ≤ m → m < n → slice_index look (length front) ≢ pick m

-- the same as `LookedUnder`, where of the patches that are picked none from place k on was taken
pub record LookedBelow (p : PatchList) (front : List ℕ) (pick : ℕ → ℕ) (n k from to had has : ℕ) : Type 0 where
  pub under : LookedUnder p front from to had has
  pub before : Each (IsBefore front pick n k) under.looks

-- no rational type begins with these patches
abbrev pub NoneBegins : PatchList → List ℕ → Type 0
NoneBegins p front = (type : List ℕ) → IsRationalType p type → ¬ Begins type front

-- where no type was found, the steps are spent, or no rational type begins with these patches
abbrev pub IsDecided : PatchList → List ℕ → Lightest → Type 0
IsDecided p front light = length light.types.items ≡ 0 → AreSpent light.most light.steps ⊎ NoneBegins p front

-- the same of those that go on with a patch before this one
abbrev pub IsDecidedBelow : PatchList → List ℕ → ℕ → Lightest → Type 0
IsDecidedBelow p front i light =
    length light.types.items ≡ 0
    → AreSpent light.most light.steps ⊎ ((h : ℕ) → h < i → NoneBegins p (front ++ h ∷ []))

-- so many searches at most made so many steps, of those that may be made, and this holds of them
pub record WereMadeIn (p : PatchList) (most many made : ℕ) (Also : List (List (List ℕ)) → Type 0) : Type 0 where
  pub searches : List (List (List ℕ))
  pub few : length searches ≤ many
  pub each : Each (IsSearch p) searches
  pub looks : sum_by length searches ≡ made
  pub within : made ≤ most
  pub also : Also searches

-- the first searches, of which the last decides whether there is a rational type
pub record AreFirst (p : PatchList) (most : ℕ) (light : Lightest) : Type 0 where
  pub made : WereMadeIn p most 2 light.steps (λ searches. 0 < length light.types.items → SomeHasFound p searches)
  pub decided : length light.types.items ≡ 0 → AreSpent most light.steps ⊎ HasNoRationalType p
