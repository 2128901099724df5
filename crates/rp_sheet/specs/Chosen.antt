-- What was chosen from a budget.
use Rattle.std.specs.Prelude.{◌≡◌, ℕ, ◌<◌, length, slice_index}
use Rattle.rp_table.specs.ChoiceLists.{ChoiceList}

-- some choice on budget j, from 0, was made one or more times
abbrev pub IsChosenFrom : ChoiceList → ℕ → Type 0
IsChosenFrom choices j =
    (k : ℕ) × (k < length choices.budget) × (slice_index choices.budget k ≡ j) × (0 < slice_index choices.times k)
