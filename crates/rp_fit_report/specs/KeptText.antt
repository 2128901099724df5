-- The lines of the most observations that are consistent (this program's own format).
use Rattle.std.specs.Prelude.{ℕ, ◌==◌, if◌then◌else◌, List, [], ◌++◌, codes, length}
use Rattle.std.specs.List.{flat_map}
use Rattle.std.specs.Fmt.{decimal}
use Rattle.rp_fit.specs.declared.kept.Group.{Group}
use Rattle.rp_fit.specs.declared.kept.GroupKind.{GroupKind}
use Rattle.rp_fit.specs.declared.kept.GroupKind.TheVariants.{Pairs, Cycle}
use Rattle.rp_fit.specs.declared.kept.KeptPart.{KeptPart}
use Rattle.rp_print.specs.ListText.{line_of, numbers_text, ordinals_text}

-- how many could be kept, where that is not the number that is
abbrev pub most_text : ℕ → ℕ → List ℕ
most_text count most = if most == count then [] else codes " to " ++ decimal most

-- how many of n observations are kept, and how many could be
abbrev pub bounds_text : ℕ → ℕ → ℕ → List ℕ
bounds_text count most n =
    line_of (codes "kept " ++ decimal count ++ most_text count most ++ codes " of " ++ decimal n)

-- what kind of group it is
abbrev pub kind_text : GroupKind → List ℕ
kind_text Pairs = codes "pairs "
kind_text Cycle = codes "cycle "

-- a group and its weight
abbrev pub group_text : Group → List ℕ
group_text group = line_of (kind_text group.kind ++ ordinals_text group.members ++ codes " weight " ++ decimal group.weight)

-- the numbers, the observations with a rank each, and the groups
abbrev pub kept_text : ℕ → KeptPart → List ℕ
kept_text n part =
    bounds_text (length part.kept) part.most n ++ line_of (codes "observations " ++ ordinals_text part.kept)
    ++ line_of (codes "ranks " ++ numbers_text part.ranks) ++ line_of (codes "groups over " ++ decimal part.den)
    ++ flat_map group_text part.groups
