-- Which patches were chosen, how many times, and the units that stand for it (patches after Kitamura and Stoye 2018).
use Rattle.std.specs.Prelude.{◌≡◌, ◌<◌, ◌≤◌, ◌+◌, ◌==◌, ◌&&◌, ℕ, zero, suc, Bool, ℤ, List, [], ◌∷◌, ◌++◌, map, length}
use Rattle.std.specs.Prelude.{slice_index_or, Option, None, if◌then◌else◌, nat_lt}
use Rattle.std.specs.Cmp.Lexicographic.{pointwise}
use Rattle.std.specs.Ordering.{int_eq}
use Rattle.rp_limits.specs.declared.patch.TheConstants.{PATCHES}
use Rattle.rp_patch.specs.declared.fault.PatchFault.{PatchFault}
use Rattle.rp_patch.specs.declared.fault.PatchFault.TheVariants.{TooManyPatches, NeedUnit, NoMemory}
use Rattle.rp_patch.specs.declared.chosen.Chosen.{Chosen}
use Rattle.rp_patch.specs.Apportionment.{GroupedCounts, HasShares, PassesTotalAt}
use Rattle.rp_patch.specs.Choices.{RandomInput}
use Rattle.rp_patch.specs.Patches.{PatchList, budget_at, patch_at, units_at}
use Rattle.rp_patch.specs.Signs.{signs_of}

-- So many more choices with these signs: they join the first entry that has the signs, or are a new last entry.
abbrev pub counted : List (List ℤ × ℕ) → List ℤ → ℕ → List (List ℤ × ℕ)
counted [] signs times = (signs, times) ∷ []
counted (entry ∷ entries) signs times =
    if pointwise int_eq signs entry.0 then (entry.0, entry.1 + times) ∷ entries
    else entry ∷ counted entries signs times

-- The patches that the first choices fall in of those that count, each with the number of times: in the order of the
-- first choice that falls in it.
abbrev pub tally_by : (ℕ → List ℤ) → (ℕ → Bool) → (ℕ → ℕ) → ℕ → List (List ℤ × ℕ)
tally_by signs counts times zero = []
tally_by signs counts times (suc i) =
    if counts i then counted (tally_by signs counts times i) (signs i) (times i) else tally_by signs counts times i

-- The patches on budget j, by the choices on it that were made at least once.
abbrev pub tally_on : RandomInput → ℕ → List (List ℤ × ℕ)
tally_on input j =
    tally_by (signs_of input) (λ i. (input.budget i == j) && nat_lt 0 (input.times i)) input.times input.choices

-- A patch with its budget.
abbrev pub chosen_as : ℕ → List ℤ × ℕ → Chosen
chosen_as j entry = record { budget = j; signs = entry.0; times = entry.1 }

-- All patches on the first budgets.
abbrev pub chosen_below : RandomInput → ℕ → List Chosen
chosen_below input zero = []
chosen_below input (suc j) = chosen_below input j ++ map (chosen_as j) (tally_on input j)

-- All patches: by budget, and on a budget by the first choice that falls in them.
abbrev pub all_chosen : RandomInput → List Chosen
all_chosen input = chosen_below input input.budgets

abbrev pub chosen_at : List Chosen → ℕ → Chosen
chosen_at chosen i = slice_index_or chosen i (record { budget = 0; signs = []; times = 0 })

-- What was chosen, as counts in groups: the places are the patches and the groups the budgets.
abbrev pub chosen_counts : RandomInput → GroupedCounts
chosen_counts input = record {
  groups = input.budgets;
  places = length (all_chosen input);
  group = λ i. (chosen_at (all_chosen input) i).budget;
  count = λ i. (chosen_at (all_chosen input) i).times;
}

-- Units of patches: those of these counts.
abbrev pub HasUnits : RandomInput → Option ℕ → PatchList → Type 0
HasUnits input asked p = HasShares (chosen_counts input) asked p.total (units_at p)

-- These are the patches that were chosen, with the units that stand for the choices.
pub record ArePatchesOf (input : RandomInput) (asked : Option ℕ) (p : PatchList) : Type 0 where
  pub budgets : p.budgets ≡ input.budgets
  pub asked_is : p.asked ≡ asked
  pub count : length p.patches ≡ length (all_chosen input)
  pub budget : (i : ℕ) → i < length p.patches → budget_at p i ≡ (chosen_at (all_chosen input) i).budget
  pub signs : (i : ℕ) → i < length p.patches → (patch_at p i).signs ≡ (chosen_at (all_chosen input) i).signs
  pub units : HasUnits input asked p

-- The number of patches passes what is the most first at budget j.
abbrev pub PassesPatchesAt : RandomInput → ℕ → ℕ → Type 0
PassesPatchesAt input most j =
    (j < input.budgets) × (length (chosen_below input j) ≤ most) × (most < length (chosen_below input (j + 1)))

-- The least common multiple of the numbers of choices passes its limit first at budget j.
abbrev pub PassesUnitsAt : RandomInput → ℕ → Type 0
PassesUnitsAt input j = PassesTotalAt (chosen_counts input) j

-- What each fault says where there may be so many patches at most. Want of memory says nothing.
abbrev pub SaysWhyWithin : RandomInput → Option ℕ → ℕ → PatchFault → Type 0
SaysWhyWithin input asked most (TooManyPatches j) = PassesPatchesAt input most j
SaysWhyWithin input asked most (NeedUnit j) =
    (length (all_chosen input) ≤ most) × (asked ≡ None) × PassesUnitsAt input j
SaysWhyWithin input asked most NoMemory = Unit {0}

-- What each fault says where all types are to be listed.
abbrev pub SaysWhy : RandomInput → Option ℕ → PatchFault → Type 0
SaysWhy input asked = SaysWhyWithin input asked PATCHES
