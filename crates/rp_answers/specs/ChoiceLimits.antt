-- Which choices from budgets are answered (this program's own limits).
use Rattle.std.specs.Prelude.{ℕ}
use Rattle.rp_limits.specs.declared.generated.TheConstants.{PATCHES as GENERATED_PATCHES}
use Rattle.rp_limits.specs.declared.patch.TheConstants.{PATCHES}
use Rattle.rp_answers.specs.declared.choice_limits.ChoiceLimits.{ChoiceLimits}
use Rattle.rp_answers.specs.declared.choice_limits.ChoiceLimits.TheVariants.{Listed, Unlisted}

-- the most patches of choices that are answered
abbrev pub most_patches : ChoiceLimits → ℕ
most_patches Listed = PATCHES
most_patches Unlisted = GENERATED_PATCHES
