-- The lines of the minimum cost of steps (this program's own format).
use Rattle.std.specs.Prelude.{ℕ, zero, suc, ◌+◌, ◌*◌, Bool, List, [], ◌∷◌, ◌++◌, codes, nat_lt, slice_index_or}
use Rattle.rp_fit.specs.Steps.{all_spent}
use Rattle.rp_fit.specs.WeightedWalks.{weight_of_all}
use Rattle.rp_fit.specs.declared.steps.StepsPart.{StepsPart}
use Rattle.rp_num.specs.Fraction.{Fraction}
use Rattle.rp_print.specs.ListText.{line_of, numbers_text, ordinal_text, ordinals_text}
use Rattle.rp_print.specs.LowestTerms.{lowest_terms}
use Rattle.rp_fit_report.specs.CyclesText.{cycles_text}
use Rattle.rp_fit_report.specs.LevelsText.{range_text}

-- the lower bound of the index: the weights of the walks over the denominator, as a part of all that was spent
abbrev pub lower : ℕ → (ℕ → ℕ → ℕ) → StepsPart → Fraction
lower n c part = lowest_terms (weight_of_all part.walks) (part.den * all_spent n c)

-- the upper bound: what the steps cost that are removed, as a part of all that was spent
abbrev pub upper : ℕ → (ℕ → ℕ → ℕ) → StepsPart → Fraction
upper n c part = lowest_terms part.cost (all_spent n c)

-- the weights leave less than one unit of costs, so that no choice of steps costs less
abbrev pub is_exact : StepsPart → Bool
is_exact part = nat_lt (part.den * part.cost) (weight_of_all part.walks + part.den)

-- the steps of s that are removed, where there are any
abbrev pub row_text : ℕ → List ℕ → List ℕ
row_text s [] = []
row_text s (t ∷ others) = line_of (codes "removed " ++ ordinal_text s ++ codes " to " ++ ordinals_text (t ∷ others))

-- those of the first n observations
abbrev pub removed_text : ℕ → List (List ℕ) → List ℕ
removed_text zero taken = []
removed_text (suc s) taken = removed_text s taken ++ row_text s (slice_index_or taken s [])

-- the bounds, the steps that are removed, a rank for each observation, and the walks
abbrev pub steps_text : ℕ → (ℕ → ℕ → ℕ) → StepsPart → List ℕ
steps_text n c part =
    range_text (codes "steps ") (lower n c part) (upper n c part) (is_exact part) ++ removed_text n part.taken
    ++ line_of (codes "ranks " ++ numbers_text part.ranks) ++ cycles_text part.den part.walks
