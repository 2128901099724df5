-- For the proofs alone: what the search for rational types keeps, and what each of its parts refuses. No public clause
-- cites these words.
use Rattle.std.specs.Prelude.{◌<◌, ◌≤◌, ◌⊎◌, ◌↔◌, ℕ, List, Contains, length}
use Rattle.std.specs.Cmp.Lexicographic.{slice_cmp}
use Rattle.std.specs.List.Sorted.{IsStrictlySortedBy}
use Rattle.std.specs.Ordering.{nat_cmp}
use Rattle.rp_patch.specs.PartialTypes.{Before, Begins}
use Rattle.rp_patch.specs.Patches.{PatchList}
use Rattle.rp_patch.specs.Types.{HasMoreTypesThan, IsRationalType, combinations}
use Rattle.rp_types.specs.Listed.{types_of}
use Rattle.rp_limits.specs.declared.types.TheConstants.{COMBINATIONS, TYPES}
use Rattle.rp_types.specs.declared.fault.TypesFault.{TypesFault}
use Rattle.rp_types.specs.declared.fault.TypesFault.TheVariants.{TooManyCombinations, TooManyTypes, NoMemory}
use Rattle.rp_types.specs.declared.types.Rational.{Rational}

-- What a count of the combinations refuses.
abbrev pub SaysTooMany : PatchList → TypesFault → Type 0
SaysTooMany p TooManyCombinations = COMBINATIONS < combinations p p.budgets
SaysTooMany p TooManyTypes = ⊥
SaysTooMany p NoMemory = ⊥

-- What the search refuses.
abbrev pub SaysMore : PatchList → TypesFault → Type 0
SaysMore p TooManyCombinations = ⊥
SaysMore p TooManyTypes = HasMoreTypesThan p TYPES
SaysMore p NoMemory = Unit {0}

-- The rational types that meet a condition are listed, in order.
pub record AreListed (p : PatchList) (meets : List ℕ → Type 0) (types : List Rational) : Type 0 where
  pub few : length types ≤ TYPES
  pub rising : IsStrictlySortedBy (slice_cmp nat_cmp) (types_of types)
  pub just_these : (type : List ℕ) → Contains (types_of types) type ↔ (IsRationalType p type × meets type)

-- Those that come before all that begin with these patches.
abbrev pub AreListedBefore : PatchList → List ℕ → List Rational → Type 0
AreListedBefore p front types = AreListed p (λ type. Before type front) types

-- And those that begin with them.
abbrev pub AreListedThrough : PatchList → List ℕ → List Rational → Type 0
AreListedThrough p front types = AreListed p (λ type. Before type front ⊎ Begins type front) types
