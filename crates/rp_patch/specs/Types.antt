-- Types of consumers: one choice from every budget (McFadden and Richter 1990; Kitamura and Stoye 2018).
use Rattle.std.specs.Prelude.{◌≡◌, ◌≢◌, ◌<◌, ◌==◌, ◌*◌, ℕ, zero, suc, pos, ◌≤ℤ◌, ◌<ℤ◌, List, AllPairs, Contains}
use Rattle.std.specs.Prelude.{length, slice_index, if◌then◌else◌}
use Rattle.rp_evidence.specs.Garp.{HasNoViolation}
use Rattle.rp_table.specs.Sums.{sum_below}
use Rattle.rp_patch.specs.Kinds.{AreAllOf}
use Rattle.rp_patch.specs.Patches.{PatchList, budget_at, sign_at}

-- A type has for each budget one of its patches: the j-th number is that of the patch of budget j.
pub record IsType (p : PatchList) (type : List ℕ) : Type 0 where
  pub one_each : length type ≡ p.budgets
  pub patch : (j : ℕ) → j < p.budgets → slice_index type j < length p.patches
  pub on_its_budget : (j : ℕ) → j < p.budgets → budget_at p (slice_index type j) ≡ j

-- What the type chooses from budget k is weakly preferred to what it chooses from budget j: the latter's patch is not
-- above k.
abbrev pub IsWeakBy : PatchList → List ℕ → ℕ → ℕ → Type 0
IsWeakBy p type k j = sign_at p (slice_index type j) k ≤ℤ pos 0

-- It is strictly preferred: that patch is below k.
abbrev pub IsStrictBy : PatchList → List ℕ → ℕ → ℕ → Type 0
IsStrictBy p type k j = sign_at p (slice_index type j) k <ℤ pos 0

-- A type is rational where no walk over the budgets, however long, is a violation.
abbrev pub IsRationalType : PatchList → List ℕ → Type 0
IsRationalType p type = IsType p type × HasNoViolation p.budgets (IsWeakBy p type) (IsStrictBy p type)

-- These are all rational types, each once, in lexicographic order.
abbrev pub AreRationalTypes : PatchList → List (List ℕ) → Type 0
AreRationalTypes p = AreAllOf (IsRationalType p)

-- There are more than k rational types: so many, no two of them the same.
abbrev pub HasMoreTypesThan : PatchList → ℕ → Type 0
HasMoreTypesThan p k =
    (types : List (List ℕ)) × AllPairs (λ a b. a ≢ b) types
    × ((type : List ℕ) → Contains types type → IsRationalType p type) × (k < length types)

-- How many patches budget j has.
abbrev pub patches_on : PatchList → ℕ → ℕ
patches_on p j = sum_below (length p.patches) (λ i. if budget_at p i == j then 1 else 0)

-- In how many ways a patch can be taken of each of the first budgets.
abbrev pub combinations : PatchList → ℕ → ℕ
combinations p zero = 1
combinations p (suc j) = combinations p j * patches_on p j
