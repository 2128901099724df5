-- Patches with all their rational types (McFadden and Richter 1990; Kitamura and Stoye 2018).
use Rattle.std.specs.Prelude.{◌≤◌, ℕ, List, Option, IfSome, length}
use Rattle.rp_patch.specs.Patches.{PatchList}
use Rattle.rp_patch.specs.Types.{AreRationalTypes}
use Rattle.rp_types.specs.Listed.{types_of}
use Rattle.rp_limits.specs.declared.patch.TheConstants.{PATCHES}
use Rattle.rp_limits.specs.declared.types.TheConstants.{TYPES}
use Rattle.rp_types.specs.declared.types.Rational.{Rational}

-- patches with all their rational types
pub record TypedPatches : Type 0 where
  pub patches : PatchList
  pub types : List (List ℕ)

-- these are all rational types of patches, both within the limits
pub record AreTyped (choices : TypedPatches) : Type 0 where
  pub all : AreRationalTypes choices.patches choices.types
  pub few : length choices.types ≤ TYPES
  pub few_patches : length choices.patches.patches ≤ PATCHES

-- patches with the types in a list
abbrev pub typed : PatchList → List Rational → TypedPatches
typed patches types = record { patches = patches; types = types_of types }

-- the same where types are listed
abbrev pub AreTypedIfListed : PatchList → Option (List Rational) → Type 0
AreTypedIfListed patches types = IfSome types (λ listed. AreTyped (typed patches listed))
