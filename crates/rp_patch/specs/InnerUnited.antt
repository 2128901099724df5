-- Words that only proofs need: how what was chosen and its units are made into patches.
use Rattle.std.specs.Prelude.{◌≡◌, ◌<◌, ℕ, List, Option, None, length, map, slice_index, slice_index_or}
use Rattle.rp_patch.specs.Apportionment.{GroupedCounts, PassesTotalAt, grouped}
use Rattle.rp_patch.specs.Patches.{no_patch}
use Rattle.rp_patch.specs.Units.{chosen_at}
use Rattle.rp_patch.specs.declared.chosen.Chosen.{Chosen}
use Rattle.rp_patch.specs.declared.fault.PatchFault.{PatchFault}
use Rattle.rp_patch.specs.declared.fault.PatchFault.TheVariants.{TooManyPatches, NeedUnit, NoMemory}
use Rattle.rp_patch.specs.declared.patch_list.Patch.{Patch}

-- The budgets of what was chosen, and the times.
abbrev pub budgets_of : List Chosen → List ℕ
budgets_of chosen = map (λ (one : Chosen). one.budget) chosen

abbrev pub times_of : List Chosen → List ℕ
times_of chosen = map (λ (one : Chosen). one.times) chosen

-- What was chosen as counts in groups.
abbrev pub counts_of : List Chosen → GroupedCounts
counts_of chosen = grouped (budgets_of chosen) (times_of chosen)

-- The first n of those chosen, as patches with their units.
abbrev pub AreUnited : List Chosen → List ℕ → ℕ → List Patch → Type 0
AreUnited chosen units n patches = (length patches ≡ n) × ((i : ℕ) → i < n → slice_index_or patches i no_patch
    ≡ record {
      budget = (chosen_at chosen i).budget;
      signs = (chosen_at chosen i).signs;
      units = slice_index units i;
    })

-- What a fault says of the units. Want of memory says nothing, and no other fault comes.
abbrev pub SaysWhyNotShared : GroupedCounts → Option ℕ → PatchFault → Type 0
SaysWhyNotShared g asked (TooManyPatches j) = ⊥
SaysWhyNotShared g asked (NeedUnit j) = (asked ≡ None) × PassesTotalAt g j
SaysWhyNotShared g asked NoMemory = Unit {0}
