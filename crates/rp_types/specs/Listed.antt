-- How far rational types are listed, and why a list of all is refused (McFadden and Richter 1990).
use Rattle.std.specs.Prelude.{◌<◌, ◌≤◌, ℕ, List, map}
use Rattle.rp_patch.specs.Patches.{PatchList}
use Rattle.rp_patch.specs.Types.{HasMoreTypesThan, combinations}
use Rattle.rp_limits.specs.declared.types.TheConstants.{COMBINATIONS, TYPES}
use Rattle.rp_types.specs.declared.fault.TypesFault.{TypesFault}
use Rattle.rp_types.specs.declared.fault.TypesFault.TheVariants.{TooManyCombinations, TooManyTypes, NoMemory}
use Rattle.rp_types.specs.declared.types.Rational.{Rational}

-- The patches of each type.
abbrev pub types_of : List Rational → List (List ℕ)
types_of types = map (λ type. type.patches) types

-- What each fault says. Want of memory says nothing.
abbrev pub SaysWhy : PatchList → TypesFault → Type 0
SaysWhy p TooManyCombinations = COMBINATIONS < combinations p p.budgets
SaysWhy p TooManyTypes = (combinations p p.budgets ≤ COMBINATIONS) × HasMoreTypesThan p TYPES
SaysWhy p NoMemory = Unit {0}
