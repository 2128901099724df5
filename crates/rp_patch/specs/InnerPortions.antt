-- Words that only proofs need: how far the units of a total are given to the places of groups by largest remainders.
use Rattle.std.specs.Prelude.{◌≡◌, ◌≢◌, ◌⊎◌, ◌<◌, ◌≤◌, ◌+◌, ◌*◌, ◌/◌, ◌%◌, ◌==◌, ℕ, true, false, List, Option, Some}
use Rattle.std.specs.Prelude.{None, MatchOption, length, slice_index, slice_index_or, if◌then◌else◌}
use Rattle.rp_table.specs.Sums.{sum_below}
use Rattle.rp_patch.specs.Apportionment.{GroupedCounts, IsLeastCommonMultiple, counts_in}
use Rattle.rp_limits.specs.declared.patch.TheConstants.{PLACES, UNITS}
use Rattle.rp_patch.specs.declared.portion.Portion.{Portion}

abbrev pub portion_at : List Portion → ℕ → Portion
portion_at portions i = slice_index_or portions i (record { group = 0; whole = 0; rest = 0; rounded_up = false })

-- The portion of a place of a group with such a count, of so many, not rounded up: the whole part of its share of a
-- total, and what is left of the share.
abbrev pub portion_of : ℕ → ℕ → ℕ → ℕ → Portion
portion_of group count all total = record {
  group = group;
  whole = (count * total) / all;
  rest = (count * total) % all;
  rounded_up = false;
}

-- The portions of the first n places, not rounded up.
abbrev pub ArePortions : GroupedCounts → ℕ → ℕ → List Portion → Type 0
ArePortions g total n portions = (length portions ≡ n) × ((i : ℕ) → i < n
    → portion_at portions i ≡ portion_of (g.group i) (g.count i) (counts_in g (g.group i)) total)

-- One list of portions has the same groups, whole parts and rests as another.
pub record AreSamePortions (old new : List Portion) : Type 0 where
  pub count : length new ≡ length old
  pub group : (i : ℕ) → (portion_at new i).group ≡ (portion_at old i).group
  pub whole : (i : ℕ) → (portion_at new i).whole ≡ (portion_at old i).whole
  pub rest : (i : ℕ) → (portion_at new i).rest ≡ (portion_at old i).rest

-- Portion h has a greater rest than portion i, or the same and stands before it.
abbrev pub IsAhead : List Portion → ℕ → ℕ → Type 0
IsAhead portions h i =
    ((portion_at portions i).rest < (portion_at portions h).rest)
    ⊎ (((portion_at portions h).rest ≡ (portion_at portions i).rest) × (h < i))

-- Those of each group that are rounded up are ahead of those that are not.
abbrev pub RoundsUpFirst : List Portion → Type 0
RoundsUpFirst portions = (h i : ℕ) → h < length portions → i < length portions
    → (portion_at portions h).group ≡ (portion_at portions i).group
    → (portion_at portions h).rounded_up ≡ true → (portion_at portions i).rounded_up ≡ false → IsAhead portions h i

-- How many are rounded up of group j.
abbrev pub rounded_up_on : List Portion → ℕ → ℕ
rounded_up_on portions j = sum_below (length portions)
    (λ i. if (portion_at portions i).group == j then (if (portion_at portions i).rounded_up then 1 else 0) else 0)

-- The whole parts of group j together.
abbrev pub whole_on : List Portion → ℕ → ℕ
whole_on portions j =
    sum_below (length portions) (λ i. if (portion_at portions i).group == j then (portion_at portions i).whole else 0)

-- How many portions are of group j.
abbrev pub portions_on : List Portion → ℕ → ℕ
portions_on portions j = sum_below (length portions) (λ i. if (portion_at portions i).group == j then 1 else 0)

-- Portion i is of group j and not rounded up.
abbrev pub IsLeft : List Portion → ℕ → ℕ → Type 0
IsLeft portions j i = ((portion_at portions i).group ≡ j) × ((portion_at portions i).rounded_up ≡ false)

-- Of the first n portions, which of group j is to be rounded up next: none, or one that is ahead of all others.
abbrev pub IsNextUp : List Portion → ℕ → ℕ → Option ℕ → Type 0
IsNextUp portions j n found = MatchOption found
    ((i : ℕ) → i < n → ¬ IsLeft portions j i)
    (λ best. (best < n) × IsLeft portions j best
    × ((i : ℕ) → i < n → IsLeft portions j i → i ≢ best → IsAhead portions best i))

-- So many are rounded up of group j, those with the largest rests, and those of other groups are as they were.
pub record IsRoundedUpBy (old new : List Portion) (j many : ℕ) : Type 0 where
  pub same : AreSamePortions old new
  pub first : RoundsUpFirst new
  pub many_rounded_up : rounded_up_on new j ≡ many
  pub others : (i : ℕ) → (portion_at old i).group ≢ j → (portion_at new i).rounded_up ≡ (portion_at old i).rounded_up

-- Whole parts within the limits, of which those of each of the first groups are less than the total by no more than
-- one for each portion, and none is rounded up.
pub record AreWholeParts (portions : List Portion) (groups total : ℕ) : Type 0 where
  pub few : length portions ≤ PLACES
  pub small : (i : ℕ) → i < length portions → (portion_at portions i).whole ≤ UNITS
  pub within : (j : ℕ) → j < groups → whole_on portions j ≤ total
  pub enough : (j : ℕ) → j < groups → total ≤ whole_on portions j + portions_on portions j
  pub none_rounded_up : (i : ℕ) → (portion_at portions i).rounded_up ≡ false

-- All of the total is given on the first groups, and none is rounded up of the others.
pub record AreRoundedUpBelow (old new : List Portion) (groups total : ℕ) : Type 0 where
  pub same : AreSamePortions old new
  pub first : RoundsUpFirst new
  pub given : (j : ℕ) → j < groups → whole_on new j + rounded_up_on new j ≡ total
  pub later : (i : ℕ) → groups ≤ (portion_at new i).group → (portion_at new i).rounded_up ≡ false

-- The units that a portion has.
abbrev pub portion_units : Portion → ℕ
portion_units portion = portion.whole + (if portion.rounded_up then 1 else 0)

-- The units of the first n portions.
abbrev pub ArePortionUnits : List Portion → ℕ → List ℕ → Type 0
ArePortionUnits portions n units =
    (length units ≡ n) × ((i : ℕ) → i < n → slice_index units i ≡ portion_units (portion_at portions i))

-- The total that is shared out: the unit that was asked for, or the least common multiple.
abbrev pub IsSharedTotal : GroupedCounts → Option ℕ → ℕ → Type 0
IsSharedTotal g None total = IsLeastCommonMultiple g g.groups total
IsSharedTotal g (Some unit) total = total ≡ unit
