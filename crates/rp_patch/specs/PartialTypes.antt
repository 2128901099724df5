-- A partial type: a patch of each of the first budgets, with what each of these leads to (closures after Warshall
-- 1962).
use Rattle.std.specs.Prelude.{◌≡◌, ◌<◌, ◌≤◌, ◌↔◌, ◌⊎◌, ⊤, ℕ, List, [], ◌∷◌, length, slice_index, take}
use Rattle.rp_evidence.specs.Garp.{HasNoViolation}
use Rattle.rp_evidence.specs.Walk.{LeadsTo}
use Rattle.rp_patch.specs.Patches.{PatchList, budget_at}
use Rattle.rp_patch.specs.Sets.{Has}
use Rattle.rp_patch.specs.Types.{IsStrictBy, IsWeakBy}
use Rattle.rp_patch.specs.declared.partial_type.PartialType.{PartialType}

-- The patches that a partial type has, in order.
abbrev pub taken_in : PartialType → List ℕ
taken_in part = take part.taken part.patches

-- No walk over the first budgets is a violation by the patches taken of them.
abbrev pub IsRationalBelow : PatchList → List ℕ → Type 0
IsRationalBelow p patches = HasNoViolation (length patches) (IsWeakBy p patches) (IsStrictBy p patches)

-- A walk of weak steps over the first n budgets, of any number of steps, leads from k to j.
abbrev pub Leads : PatchList → List ℕ → ℕ → ℕ → ℕ → Type 0
Leads p patches n k j = (walk : List ℕ) × LeadsTo n (IsWeakBy p patches) k j walk

-- One patch of each of the first budgets, and for each of these the set of budgets that it leads to.
pub record IsTaken (p : PatchList) (part : PartialType) : Type 0 where
  pub few : part.taken ≤ p.budgets
  pub count : length (taken_in part) ≡ part.taken
  pub patch : (j : ℕ) → j < part.taken → slice_index (taken_in part) j < length p.patches
  pub on_its_budget : (j : ℕ) → j < part.taken → budget_at p (slice_index (taken_in part) j) ≡ j
  pub reached : (k j : ℕ) → k < part.taken → Has (slice_index part.reached k) j ↔ Leads p (taken_in part) part.taken k j

-- And there is no violation among them.
abbrev pub IsPartialType : PatchList → PartialType → Type 0
IsPartialType p part = IsTaken p part × IsRationalBelow p (taken_in part)

-- A type begins with these patches.
abbrev pub Begins : List ℕ → List ℕ → Type 0
Begins type [] = ⊤
Begins [] (i ∷ rest) = ⊥
Begins (j ∷ type) (i ∷ rest) = (j ≡ i) × Begins type rest

-- A type comes before all that begin with these patches.
abbrev pub Before : List ℕ → List ℕ → Type 0
Before type [] = ⊥
Before [] (i ∷ rest) = ⊥
Before (j ∷ type) (i ∷ rest) = (j < i) ⊎ ((j ≡ i) × Before type rest)
