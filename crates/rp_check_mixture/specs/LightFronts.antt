-- What a search for a rational type that weighs too little goes through, and when it is given up (branch and bound,
-- Land and Doig 1960; rational types after McFadden and Richter 1990).
use Rattle.std.specs.Prelude.{◌≢◌, ◌<◌, ◌≤◌, ℕ, List, Option, Some, None, All, AllPairs, length}
use Rattle.rp_patch.specs.Kinds.{cells_weight}
use Rattle.rp_patch.specs.PartialTypes.{Before, Begins, IsRationalBelow}
use Rattle.rp_patch.specs.Patches.{PatchList}
use Rattle.rp_patch.specs.Types.{IsRationalType, IsType}

-- A patch of each of the first budgets, of one at least but not of all, without a violation among these: some type
-- that begins with them weighs less than `least`, rational or not, and each rational type that comes before them
-- weighs enough.
pub record IsLightFront (p : PatchList) (weights : List ℕ) (least : ℕ) (front : List ℕ)
    : Type 0 where
  pub some : 0 < length front
  pub short : length front < p.budgets
  pub rational : IsRationalBelow p front
  pub lighter : (type : List ℕ) × IsType p type × Begins type front
      × (cells_weight weights type < least)
  pub first : (type : List ℕ) → IsRationalType p type → Before type front
      → least ≤ cells_weight weights type

-- There are more than so many of these, no two of them the same.
abbrev pub HasMoreLightFrontsThan : PatchList → List ℕ → ℕ → ℕ → Type 0
HasMoreLightFrontsThan p weights least steps =
    (fronts : List (List ℕ)) × AllPairs (λ a b. a ≢ b) fronts
    × All (IsLightFront p weights least) fronts × (steps < length fronts)

-- A search without a limit is never given up.
abbrev pub PassesLimit : PatchList → List ℕ → ℕ → Option ℕ → Type 0
PassesLimit p weights least None = ⊥
PassesLimit p weights least (Some steps) = HasMoreLightFrontsThan p weights least steps
