-- Words that only proofs need: what a map from signs to a number of times holds.
use Rattle.std.specs.Prelude.{ℕ, ◌≤◌, ◌==◌, ◌&&◌, ℤ, List, [], map, slice_index, slice_index_or, nat_lt}
use Rattle.std.specs.Borrow.{Bor}
use Rattle.std.specs.List.{All}
use Rattle.rp_table.specs.ChoiceLists.{ChoiceList}
use Rattle.rp_patch.specs.Choices.{RandomInput}
use Rattle.rp_patch.specs.Units.{PassesPatchesAt, tally_by}
use Rattle.rp_patch.specs.declared.fault.PatchFault.{PatchFault}
use Rattle.rp_patch.specs.declared.fault.PatchFault.TheVariants.{TooManyPatches, NeedUnit, NoMemory}

-- The entries of a map, whatever memory its keys lie in.
abbrev pub tallied : List (Bor (List ℤ) × ℕ) → List (List ℤ × ℕ)
tallied entries = map (λ entry. (entry.0.now, entry.1)) entries

-- No patch was chosen more often than that.
abbrev pub AtMost : ℕ → List (List ℤ × ℕ) → Type 0
AtMost most entries = All (λ entry. entry.1 ≤ most) entries

-- The tally of the first choices on budget j, where their signs are listed.
abbrev pub tally_of : List (List ℤ) → ChoiceList → ℕ → ℕ → List (List ℤ × ℕ)
tally_of signs choices j n =
    tally_by (λ i. slice_index_or signs i [])
    (λ i. (slice_index choices.budget i == j) && nat_lt 0 (slice_index choices.times i))
    (slice_index choices.times) n

-- What a fault says of the number of patches, which may be so many. Want of memory says nothing, and no other fault
-- comes.
abbrev pub SaysWhyChosen : RandomInput → ℕ → PatchFault → Type 0
SaysWhyChosen input most (TooManyPatches j) = PassesPatchesAt input most j
SaysWhyChosen input most (NeedUnit j) = ⊥
SaysWhyChosen input most NoMemory = Unit {0}
