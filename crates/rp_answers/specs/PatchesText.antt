-- What `patches` prints: the patches that choices from budgets fall in (Kitamura and Stoye 2018), each with its budget,
-- its units and the side of every budget on which it lies (this program's own format).
use Rattle.std.specs.Prelude.{◌≡◌, ℕ, zero, suc, pos, List, [], ◌++◌, codes, length}
use Rattle.std.specs.Fmt.{decimal}
use Rattle.std.specs.Ordering.{int_cmp}
use Rattle.std.specs.declared.cmp.Ordering.{Ordering}
use Rattle.std.specs.declared.cmp.Ordering.TheVariants.{Less, Equal, Greater}
use Rattle.rp_patch.specs.Patches.{PatchList, budget_at, sign_at, units_at}
use Rattle.rp_print.specs.ListText.{line_of, ordinal_text}
use Rattle.rp_print.specs.MixtureText.{apportioned_text}

-- on which side of a budget a patch lies: what is chosen costs less there than the income, just that, or more
abbrev pub side_text : Ordering → List ℕ
side_text Less = codes " below"
side_text Equal = codes " on"
side_text Greater = codes " above"

-- the side of budget k on which patch i lies
abbrev pub side_of_patch : PatchList → ℕ → ℕ → List ℕ
side_of_patch p i k = side_text (int_cmp (sign_at p i k) (pos 0))

-- the sides of the first budgets, in order
abbrev pub sides_below : PatchList → ℕ → ℕ → List ℕ
sides_below p i zero = []
sides_below p i (suc k) = sides_below p i k ++ side_of_patch p i k

-- a patch, which is counted from 1, as its budget is
abbrev pub patch_text : PatchList → ℕ → List ℕ
patch_text p i =
    line_of (codes "patch " ++ ordinal_text i ++ codes " budget " ++ ordinal_text (budget_at p i) ++ codes " units "
    ++ decimal (units_at p i) ++ codes " sides" ++ sides_below p i p.budgets)

-- the first patches, in order
abbrev pub patches_below : PatchList → ℕ → List ℕ
patches_below p zero = []
patches_below p (suc i) = patches_below p i ++ patch_text p i

-- how many budgets and patches there are, and the units of each budget
abbrev pub all_counts_text : PatchList → List ℕ
all_counts_text p =
    line_of (codes "budgets " ++ decimal p.budgets ++ codes " patches " ++ decimal (length p.patches)
    ++ codes " total " ++ decimal p.total)

-- the text is that of all patches, with the unit that was asked for
abbrev pub IsPatchesText : PatchList → List ℕ → Type 0
IsPatchesText p text =
    text ≡ all_counts_text p ++ apportioned_text p.asked ++ patches_below p (length p.patches)
