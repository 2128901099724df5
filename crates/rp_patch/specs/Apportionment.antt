-- Units that stand for counts in groups: exact over a total that all groups have in common, or as many as are asked
-- for, by largest remainders (Hamilton's method; Balinski and Young 1982).
use Rattle.std.specs.Prelude.{◌≡◌, ◌⊎◌, ◌<◌, ◌≤◌, ◌+◌, ◌*◌, ◌/◌, ◌%◌, ◌-◌, ◌^◌, ◌==◌, ℕ, List, length, slice_index}
use Rattle.std.specs.Prelude.{Option, Some, None, if◌then◌else◌}
use Prim.Native.Nat.{◌∣◌}
use Rattle.rp_table.specs.Sums.{sum_below}
use Rattle.rp_limits.specs.declared.patch.TheConstants.{PLACES, UNITS}
use Rattle.rp_patch.specs.declared.fault.ApportionFault.{ApportionFault}
use Rattle.rp_patch.specs.declared.fault.ApportionFault.TheVariants.{NeedUnit, NoMemory}

-- So many groups and so many places, of which each stands in a group and has a count.
pub record GroupedCounts : Type 0 where
  pub groups : ℕ
  pub places : ℕ
  pub group : ℕ → ℕ
  pub count : ℕ → ℕ

-- What the places of group j have together.
abbrev pub sum_in : GroupedCounts → (ℕ → ℕ) → ℕ → ℕ
sum_in g has j = sum_below g.places (λ i. if g.group i == j then has i else 0)

-- The counts of group j together.
abbrev pub counts_in : GroupedCounts → ℕ → ℕ
counts_in g j = sum_in g g.count j

-- m is a common multiple of the sums of counts of the first groups.
abbrev pub IsCommonMultiple : GroupedCounts → ℕ → ℕ → Type 0
IsCommonMultiple g groups m = (0 < m) × ((j : ℕ) → j < groups → counts_in g j ∣ m)

-- m is the least of them.
abbrev pub IsLeastCommonMultiple : GroupedCounts → ℕ → ℕ → Type 0
IsLeastCommonMultiple g groups m =
    IsCommonMultiple g groups m × ((k : ℕ) → IsCommonMultiple g groups k → m ≤ k)

-- Without a unit: all groups have in total the least common multiple of their sums, and each place has its share of it.
pub record HasExactShares (g : GroupedCounts) (all : ℕ) (units : ℕ → ℕ) : Type 0 where
  pub total : IsLeastCommonMultiple g g.groups all
  pub each : (i : ℕ) → i < g.places → units i * counts_in g (g.group i) ≡ g.count i * all

-- The whole part of the share of place i in a total, and what is left of it.
abbrev pub whole_of : GroupedCounts → ℕ → ℕ → ℕ
whole_of g all i = (g.count i * all) / counts_in g (g.group i)

abbrev pub rest_of : GroupedCounts → ℕ → ℕ → ℕ
rest_of g all i = (g.count i * all) % counts_in g (g.group i)

-- Place h has a greater rest than place i, or the same and an earlier number.
abbrev pub RestComesBefore : GroupedCounts → ℕ → ℕ → ℕ → Type 0
RestComesBefore g all h i = (rest_of g all i < rest_of g all h) ⊎ ((rest_of g all h ≡ rest_of g all i) × (h < i))

-- The units of place i are the whole part of its share and one more.
abbrev pub IsRoundedUp : GroupedCounts → ℕ → (ℕ → ℕ) → ℕ → Type 0
IsRoundedUp g all units i = units i ≡ whole_of g all i + 1

-- The places of each group have the total together.
abbrev pub AreFilled : GroupedCounts → ℕ → (ℕ → ℕ) → Type 0
AreFilled g all units = (j : ℕ) → j < g.groups → sum_in g units j ≡ all

-- With a unit: that is the total; each place has the whole part of its share, or one more, such that the places of each
-- group have the total together; one more have those with the largest rests, of equal ones the earlier.
pub record HasApportionedShares (g : GroupedCounts) (unit all : ℕ) (units : ℕ → ℕ) : Type 0 where
  pub total : all ≡ unit
  pub each : (i : ℕ) → i < g.places → (units i ≡ whole_of g all i) ⊎ IsRoundedUp g all units i
  pub together : AreFilled g all units
  pub largest : (h i : ℕ) → h < g.places → i < g.places → g.group h ≡ g.group i
      → IsRoundedUp g all units h → units i ≡ whole_of g all i → RestComesBefore g all h i

-- The units of the places, under a total of each group, as they are asked for.
abbrev pub HasShares : GroupedCounts → Option ℕ → ℕ → (ℕ → ℕ) → Type 0
HasShares g None all units = HasExactShares g all units
HasShares g (Some unit) all units = HasApportionedShares g unit all units

-- The least common multiple of the sums of counts passes its limit first at group j.
abbrev pub PassesTotalAt : GroupedCounts → ℕ → Type 0
PassesTotalAt g j =
    (j < g.groups) × ((m : ℕ) × IsLeastCommonMultiple g j m × (m ≤ UNITS))
    × ((m : ℕ) × IsLeastCommonMultiple g (j + 1) m × (UNITS < m))

-- What each fault says. Want of memory says nothing.
abbrev pub SaysWhyNoUnits : GroupedCounts → Option ℕ → ApportionFault → Type 0
SaysWhyNoUnits g asked (NeedUnit j) = (asked ≡ None) × PassesTotalAt g j
SaysWhyNoUnits g asked NoMemory = Unit {0}

-- ---- groups and counts in lists

-- How many groups there are: the last one is that of the last place.
abbrev pub groups_in : List ℕ → ℕ
groups_in groups = slice_index groups (length groups - 1) + 1

-- What lists of groups and of counts give.
abbrev pub grouped : List ℕ → List ℕ → GroupedCounts
grouped groups counts = record {
  groups = groups_in groups;
  places = length groups;
  group = slice_index groups;
  count = slice_index counts;
}

-- As many groups as counts, within the limits: the first place is of group 0, each other one of the group before it or
-- of the next, and each group has a positive sum of counts.
pub record AreGrouped (groups counts : List ℕ) : Type 0 where
  pub same : length groups ≡ length counts
  pub some : 1 ≤ length groups
  pub few : length groups ≤ PLACES
  pub first : slice_index groups 0 ≡ 0
  pub next : (i : ℕ) → i + 1 < length groups
      → (slice_index groups (i + 1) ≡ slice_index groups i) ⊎ (slice_index groups (i + 1) ≡ slice_index groups i + 1)
  pub positive : (j : ℕ) → j < groups_in groups → 0 < counts_in (grouped groups counts) j
  pub small : (j : ℕ) → j < groups_in groups → counts_in (grouped groups counts) j < 2 ^ 36
