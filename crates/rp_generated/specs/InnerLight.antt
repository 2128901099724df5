-- For the proofs alone: what a search for light types leaves out. No public clause cites these words.
use Rattle.std.specs.Prelude.{◌≡◌, ◌<◌, ◌≤◌, ◌+◌, ◌*◌, ◌/◌, ◌%◌, ◌^◌, ◌⊎◌, ⊤, ℕ, suc, pos, ◌≤ℤ◌, ◌<ℤ◌, List, [], ◌∷◌, ◌++◌, Vec, Option, Some, None, length, slice_index}
use Rattle.std.specs.Int.{bit_at}
use Rattle.std.specs.declared.alloc.Global.{Global}
use Rattle.rp_patch.specs.Kinds.{cells_weight}
use Rattle.rp_patch.specs.PartialTypes.{Begins, taken_in}
use Rattle.rp_patch.specs.Patches.{PatchList, budget_at, sign_at}
use Rattle.rp_patch.specs.Types.{IsRationalType, IsType}
use Rattle.rp_table.specs.Sums.{sum_below}
use Rattle.rp_generated.specs.InnerLooks.{ArePatchesOn, Each}
use Rattle.rp_generated.specs.Steps.{AreSpent}
use Rattle.rp_generated.specs.declared.compatible.Compatible.{Compatible}
use Rattle.rp_generated.specs.declared.compatible.PatchSet.{PatchSet}
use Rattle.rp_generated.specs.declared.lightest.Begun.{Begun}
use Rattle.rp_generated.specs.declared.looked.Lightest.{Lightest}
use Rattle.rp_generated.specs.declared.prices.Prices.{Prices}

-- ---- sets of patches

abbrev pub HasBit : ℕ → ℕ → Type 0
HasBit word k = bit_at word k ≡ 1

-- Patch i is in the set that these words are.
abbrev pub IsIn : List ℕ → ℕ → Type 0
IsIn words i = HasBit (slice_index words (i / 64)) (i % 64)

-- Each of two patches lies on or below the budget of the other, and one of them below it.
abbrev pub Clash : PatchList → ℕ → ℕ → Type 0
Clash p i j =
    (sign_at p i (budget_at p j) ≤ℤ pos 0) × (sign_at p j (budget_at p i) ≤ℤ pos 0)
    × ((sign_at p i (budget_at p j) <ℤ pos 0) ⊎ (sign_at p j (budget_at p i) <ℤ pos 0))

-- Each patch is in the set, or makes a violation with patch i alone.
abbrev pub HasAllBut : PatchList → ℕ → List ℕ → Type 0
HasAllBut p i words = (j : ℕ) → j < length p.patches → IsIn words j ⊎ Clash p i j

-- The sets of the first patches.
abbrev pub AreSets : PatchList → ℕ → List PatchSet → Type 0
AreSets p i [] = ⊤
AreSets p i (set ∷ sets) = HasAllBut p i set.words × AreSets p (suc i) sets

pub record AreCompatible (p : PatchList) (compatible : Compatible) : Type 0 where
  pub many : length compatible.sets.items ≡ length p.patches
  pub sets : AreSets p 0 compatible.sets.items

-- Each patch is in the set, or makes a violation with one of these patches alone.
abbrev pub Fits : PatchList → List ℕ → List ℕ → Type 0
Fits p front words =
    (j : ℕ) → j < length p.patches → IsIn words j ⊎ ((k : ℕ) × (k < length front) × Clash p (slice_index front k) j)

-- ---- the patches of each budget, the lightest first

-- No patch weighs more than one that comes after it.
abbrev pub Rising : List ℕ → List ℕ → Type 0
Rising weights [] = ⊤
Rising weights (i ∷ list) = Each (λ j. slice_index weights i ≤ slice_index weights j) list × Rising weights list

abbrev pub IsAmong : List ℕ → ℕ → Type 0
IsAmong [] i = ⊥
IsAmong (j ∷ list) i = (j ≡ i) ⊎ IsAmong list i

-- The first n patches, as far as they are of budget j.
pub record AreOrdered (p : PatchList) (weights : List ℕ) (j n : ℕ) (list : List ℕ) : Type 0 where
  pub on : ArePatchesOn p j list
  pub below : Each (λ i. i < n) list
  pub rising : Rising weights list
  pub all : (i : ℕ) → i < n → budget_at p i ≡ j → IsAmong list i

-- The place of a patch in a list: those before it weigh no more, and the next weighs no less.
pub record IsPlaceOf (weights list : List ℕ) (i place : ℕ) : Type 0 where
  pub inside : place ≤ length list
  pub before : (m : ℕ) → m < place → slice_index weights (slice_index list m) ≤ slice_index weights i
  pub after : place < length list → slice_index weights i ≤ slice_index weights (slice_index list place)

abbrev pub AreListedFrom : PatchList → List ℕ → ℕ → List (Vec ℕ Global) → Type 0
AreListedFrom p weights j [] = ⊤
AreListedFrom p weights j (list ∷ lists) =
    AreOrdered p weights j (length p.patches) list.items × AreListedFrom p weights (suc j) lists

pub record AreListed (p : PatchList) (prices : Prices) : Type 0 where
  pub lists : AreListedFrom p prices.prices.items 0 prices.on_budget.items
  pub many : length prices.on_budget.items ≡ p.budgets
  pub budgets : prices.budgets ≡ p.budgets

-- ---- what is left out

-- What the lightest patch of a budget in a set weighs, or none where none is in it.
abbrev pub IsLeastOf : PatchList → List ℕ → ℕ → List ℕ → Option ℕ → Type 0
IsLeastOf p weights j words None = (i : ℕ) → i < length p.patches → budget_at p i ≡ j → ¬ IsIn words i
IsLeastOf p weights j words (Some least) =
    (i : ℕ) → i < length p.patches → budget_at p i ≡ j → IsIn words i → least ≤ slice_index weights i

-- The patches of a type are in the set, from this budget on.
abbrev pub AreInFrom : PatchList → List ℕ → ℕ → List ℕ → Type 0
AreInFrom p words first type = (d : ℕ) → first ≤ d → d < p.budgets → IsIn words (slice_index type d)

-- What the first patches of a type weigh.
abbrev pub first_weigh : List ℕ → List ℕ → ℕ → ℕ
first_weigh weights type n = sum_below n (λ j. slice_index weights (slice_index type j))

-- What the patches in a set weigh at least from one budget on and before another; or there is no type of them.
abbrev pub IsLeastTo : PatchList → List ℕ → ℕ → List ℕ → ℕ → ℕ → Type 0
IsLeastTo p weights first words least to =
    (type : List ℕ) → IsType p type → AreInFrom p words first type
    → first_weigh weights type first + least ≤ first_weigh weights type to

abbrev pub IsLeastFrom : PatchList → List ℕ → ℕ → List ℕ → Option ℕ → Type 0
IsLeastFrom p weights first words None = (type : List ℕ) → IsType p type → ¬ AreInFrom p words first type
IsLeastFrom p weights first words (Some least) = IsLeastTo p weights first words least p.budgets

-- Each rational type that begins with these patches weighs at least so much.
abbrev pub NoneIsLighter : PatchList → List ℕ → List ℕ → ℕ → Type 0
NoneIsLighter p weights front least =
    (type : List ℕ) → IsRationalType p type → Begins type front → least ≤ cells_weight weights type

-- ---- the search

-- What a begun type weighs, and which patches go with it.
pub record IsWeighed (p : PatchList) (weights : List ℕ) (begun : Begun) : Type 0 where
  pub exact : begun.weight ≡ cells_weight weights (taken_in begun.partial)
  pub small : begun.weight ≤ begun.partial.taken * 2 ^ 64
  pub fits : Fits p (taken_in begun.partial) begun.fit.words

-- Each of these is a rational type that weighs less.
abbrev pub AreLighter : PatchList → List ℕ → ℕ → List (Vec ℕ Global) → Type 0
AreLighter p weights most [] = ⊤
AreLighter p weights most (type ∷ types) =
    (IsRationalType p type.items × (cells_weight weights type.items < most)) × AreLighter p weights most types

-- What a search did between two moments: the types that it added are lighter.
pub record HasSought (p : PatchList) (weights : List ℕ) (before after : Lightest) : Type 0 where
  pub lower : after.weight ≤ before.weight
  pub more : length before.types.items ≤ length after.types.items
  pub kept : length after.types.items ≡ length before.types.items → after.weight ≡ before.weight
  pub light : (most : ℕ) → before.weight ≤ most → AreLighter p weights most before.types.items
      → AreLighter p weights most after.types.items

-- The steps are spent, or no rational type that begins with these patches is lighter.
abbrev pub IsSettled : PatchList → List ℕ → List ℕ → Lightest → Type 0
IsSettled p weights front light = AreSpent light.most light.steps ⊎ NoneIsLighter p weights front light.weight

-- The same of those that go on with one of the first k patches of a list.
abbrev pub IsSettledBelow : PatchList → List ℕ → List ℕ → List ℕ → ℕ → Lightest → Type 0
IsSettledBelow p weights front list k light =
    AreSpent light.most light.steps
    ⊎ ((m : ℕ) → m < k → NoneIsLighter p weights (front ++ slice_index list m ∷ []) light.weight)

-- With what a search ends that began without types: they are lighter than was asked, and where there is none, the steps
-- are spent or no rational type is lighter.
pub record HasEndedBelow (p : PatchList) (weights : List ℕ) (below : ℕ) (found : Lightest) : Type 0 where
  pub light : AreLighter p weights below found.types.items
  pub settled : length found.types.items ≡ 0 → AreSpent found.most found.steps ⊎ NoneIsLighter p weights [] below
