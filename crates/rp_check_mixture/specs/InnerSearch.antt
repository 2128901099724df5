-- Words that only proofs need: how far a search through the types has come.
use Rattle.std.specs.Prelude.{◌≡◌, ◌≢◌, ◌<◌, ◌≤◌, ◌⊎◌, ◌+◌, ◌-◌, ◌*◌, ◌^◌, ◌++◌, ℕ, zero, suc, List, [], ◌∷◌, length}
use Rattle.std.specs.Prelude.{⊤, All, AllPairs, Contains, IfSome, Option, slice_index, slice_index_or}
use Rattle.rp_patch.specs.Kinds.{cells_weight}
use Rattle.rp_patch.specs.PartialTypes.{Before, IsPartialType, taken_in}
use Rattle.rp_patch.specs.Patches.{PatchList, budget_at}
use Rattle.rp_patch.specs.Types.{IsRationalType, IsType}
use Rattle.rp_table.specs.Sums.{sum_below}
use Rattle.rp_patch.specs.declared.partial_type.PartialType.{PartialType}
use Rattle.rp_limits.specs.declared.table.TheConstants.{BUDGETS}
use Rattle.rp_check_mixture.specs.LightFronts.{IsLightFront}

abbrev pub no_patches : PartialType
no_patches = record { taken = 0; patches = []; reached = [] }

abbrev pub type_of_depth : List PartialType → ℕ → PartialType
type_of_depth parts k = slice_index_or parts k no_patches

-- The patches of the partial type of a depth, and the patch that is tried next.
abbrev pub front_of : List PartialType → ℕ → ℕ → List ℕ
front_of parts depth i = taken_in (type_of_depth parts depth) ++ i ∷ []

-- What the first patches of a type weigh.
abbrev pub first_weigh : List ℕ → List ℕ → ℕ → ℕ
first_weigh weights type n = sum_below n (λ j. slice_index weights (slice_index type j))

-- A patch of each of the budgets from d on.
pub record IsRestOf (p : PatchList) (d : ℕ) (rest : List ℕ) : Type 0 where
  pub one_each : d + length rest ≡ p.budgets
  pub patch : (j : ℕ) → j < length rest → slice_index rest j < length p.patches
  pub on_its_budget : (j : ℕ) → j < length rest → budget_at p (slice_index rest j) ≡ d + j

-- Some of these weigh so much.
abbrev pub SomeRestWeighs : PatchList → List ℕ → ℕ → ℕ → Type 0
SomeRestWeighs p weights d weight = (rest : List ℕ) × IsRestOf p d rest × (cells_weight weights rest ≡ weight)

-- At each budget what the lightest patches of the budgets weigh that come after it: no type weighs less on these.
pub record AreLeastToCome (p : PatchList) (weights to_come : List ℕ) : Type 0 where
  pub no_less : (d : ℕ) → d < p.budgets → (type : List ℕ) → IsType p type
      → slice_index to_come d + first_weigh weights type (d + 1) ≤ cells_weight weights type
  pub reached : (d : ℕ) → d < p.budgets → SomeRestWeighs p weights (d + 1) (slice_index to_come d)

-- What the lightest of the first n patches weighs that is of budget j; no patch weighs more than the start.
pub record IsLeastBelow (p : PatchList) (weights : List ℕ) (j n least : ℕ) : Type 0 where
  pub no_less : (i : ℕ) → i < n → budget_at p i ≡ j → least ≤ slice_index weights i
  pub reached : (least ≡ 2 ^ 64 - 1)
      ⊎ ((i : ℕ) × (i < length p.patches) × (budget_at p i ≡ j) × (slice_index weights i ≡ least))

-- What the lightest patch of budget j weighs.
pub record IsLeastOn (p : PatchList) (weights : List ℕ) (j least : ℕ) : Type 0 where
  pub no_less : (i : ℕ) → i < length p.patches → budget_at p i ≡ j → least ≤ slice_index weights i
  pub reached : (i : ℕ) × (i < length p.patches) × (budget_at p i ≡ j) × (slice_index weights i ≡ least)

-- Patches as the digits of a number, of which so many are left.
abbrev pub place_of : ℕ → ℕ → List ℕ → ℕ
place_of base left [] = 0
place_of base zero (x ∷ xs) = 0
place_of base (suc left) (x ∷ xs) = (x + 1) * base ^ left + place_of base left xs

-- The number that patches of the first budgets are, which rises as the search goes on.
abbrev pub place_in : PatchList → List ℕ → ℕ
place_in p front = place_of (length p.patches + 2) p.budgets front

-- Patches come before others: they are the first of these, but not all of them, or have a lesser patch where they first
-- differ.
abbrev pub Earlier : List ℕ → List ℕ → Type 0
Earlier front [] = ⊥
Earlier [] (i ∷ rest) = ⊤
Earlier (j ∷ front) (i ∷ rest) = (j < i) ⊎ ((j ≡ i) × Earlier front rest)

-- These are all the light fronts before the patches at hand, no two of them the same, and the search went through them.
-- Under a limit their number is that which was counted, and within it.
pub record HasMet (p : PatchList) (weights : List ℕ) (least : ℕ) (limit : Option ℕ) (here : List ℕ) (counted : ℕ)
    : Type 0 where
  pub fronts : List (List ℕ)
  pub apart : AllPairs (λ a b. a ≢ b) fronts
  pub light : All (IsLightFront p weights least) fronts
  pub lower : All (λ front. place_in p front < place_in p here) fronts
  pub all : (front : List ℕ) → IsLightFront p weights least front → Earlier front here → Contains fronts front
  pub exact : IfSome limit (λ steps. (counted ≡ length fronts) × (counted ≤ steps))

-- Each partial type has a patch more than that before it; each rational type that comes before the patches weighs
-- enough; and the light fronts before them were gone through.
pub record IsSearching (p : PatchList) (weights : List ℕ) (least : ℕ) (limit : Option ℕ) (parts : List PartialType)
    (depth i counted : ℕ) : Type 0 where
  pub room : length parts ≡ BUDGETS
  pub deep : depth < p.budgets
  pub within : i ≤ length p.patches
  pub each : (k : ℕ) → k ≤ depth → IsPartialType p (type_of_depth parts k) × ((type_of_depth parts k).taken ≡ k)
  pub grown : (k : ℕ) → k < depth
      → taken_in (type_of_depth parts (k + 1))
      ≡ taken_in (type_of_depth parts k) ++ slice_index (taken_in (type_of_depth parts (k + 1))) k ∷ []
  pub weighed : (type : List ℕ) → IsRationalType p type → Before type (front_of parts depth i)
      → least ≤ cells_weight weights type
  pub met : HasMet p weights least limit (front_of parts depth i) counted
