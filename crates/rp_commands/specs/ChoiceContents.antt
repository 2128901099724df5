-- What the files of budgets and of choices come to: patches with their units (Kitamura and Stoye 2018) and all
-- rational types (McFadden and Richter 1990) where these are few enough to be listed, or the first refusal. Which
-- choices are refused is by the limits of the edition of the program.
use Rattle.std.specs.Prelude.{◌≡◌, ◌≢◌, ◌⊎◌, ◌<◌, ◌≤◌, ℕ, Option, Some, None, List, length, Ok, Err}
use Rattle.rp_table.specs.BudgetLists.{BudgetList}
use Rattle.rp_table.specs.ChoiceLists.{ChoiceList}
use Rattle.rp_text.specs.Denotation.{budgets_in, choices_on}
use Rattle.rp_patch.specs.Choices.{RandomInput, random_input_of}
use Rattle.rp_patch.specs.Patches.{IsPatchList, PatchList}
use Rattle.rp_patch.specs.Types.{AreRationalTypes, combinations}
use Rattle.rp_patch.specs.Units.{ArePatchesOf, SaysWhyWithin}
use Rattle.rp_patch.specs.declared.fault.PatchFault.{PatchFault}
use Rattle.rp_patch.specs.declared.fault.PatchFault.TheVariants as patch_fault
use Rattle.rp_types.specs.Listed.{SaysWhy as SaysWhyNoTypes, types_of}
use Rattle.rp_limits.specs.declared.patch.TheConstants.{PATCHES}
use Rattle.rp_limits.specs.declared.types.TheConstants.{COMBINATIONS, TYPES}
use Rattle.rp_types.specs.declared.fault.TypesFault.{TypesFault}
use Rattle.rp_types.specs.declared.fault.TypesFault.TheVariants as types_fault
use Rattle.rp_types.specs.declared.types.Rational.{Rational}
use Rattle.rp_answers.specs.ChoiceLimits.{most_patches}
use Rattle.rp_answers.specs.declared.choice_limits.ChoiceLimits.{ChoiceLimits}
use Rattle.rp_answers.specs.declared.choice_limits.ChoiceLimits.TheVariants.{Listed, Unlisted}
use Rattle.rp_command_line.specs.CommandLine.{Arguments}
use Rattle.rp_commands.specs.FaultLines.{patch_line, types_line}
use Rattle.rp_commands.specs.Readings.{AndThen, FileIn, Just, NumbersIn, Reading}

-- budgets in the first file, and choices from them in the second
abbrev pub BudgetsIn : Arguments → (ℕ → Option (List ℕ)) → Reading BudgetList
BudgetsIn arguments known = FileIn arguments known 0 (λ name. NumbersIn name budgets_in)

abbrev pub ChoicesIn : BudgetList → Arguments → (ℕ → Option (List ℕ)) → Reading ChoiceList
ChoicesIn budgets arguments known = FileIn arguments known 1 (λ name. NumbersIn name (choices_on budgets))

-- the patches of choices, with their units, where they are no more than so many
abbrev pub PatchesOf : ℕ → RandomInput → Option ℕ → Reading PatchList
PatchesOf most input per (Ok p) = ArePatchesOf input per p × IsPatchList p × (length p.patches ≤ most)
PatchesOf most input per (Err line) = (fault : PatchFault) × (fault ≢ patch_fault.NoMemory)
    × SaysWhyWithin input per most fault × (line ≡ patch_line fault)

-- why types are not listed of few patches
abbrev pub HasNoList : PatchList → TypesFault → Type 0
HasNoList p fault = (fault ≢ types_fault.NoMemory) × SaysWhyNoTypes p fault

-- all rational types of patches, or none where they are not listed. Choices whose types are not listed are refused where
-- they have to be
abbrev pub TypesOf : ChoiceLimits → PatchList → Reading (Option (List Rational))
TypesOf limits p (Ok (Some types)) = AreRationalTypes p (types_of types) × (length types ≤ TYPES)
    × (combinations p p.budgets ≤ COMBINATIONS) × (length p.patches ≤ PATCHES)
TypesOf limits p (Ok None) = (limits ≡ Unlisted)
    × ((PATCHES < length p.patches) ⊎ ((fault : TypesFault) × HasNoList p fault))
TypesOf limits p (Err line) = (limits ≡ Listed)
    × ((fault : TypesFault) × HasNoList p fault × (line ≡ types_line fault))

-- both, of the choices in a list; with a unit asked for, or none
abbrev pub TypedPatchesOf : ChoiceLimits → BudgetList → ChoiceList → Option ℕ
    → Reading (PatchList × Option (List Rational))
TypedPatchesOf limits budgets choices per =
    AndThen (PatchesOf (most_patches limits) (random_input_of budgets choices) per)
    (λ p. AndThen (TypesOf limits p) (λ types. Just (Ok (p, types))))
