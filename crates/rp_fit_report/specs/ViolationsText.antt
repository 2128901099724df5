-- The lines of numbers of pairs that violate an axiom (this program's own format).
use Rattle.std.specs.Prelude.{ℕ, List, ◌++◌, codes}
use Rattle.std.specs.Fmt.{decimal}
use Rattle.rp_fit.specs.Violations.{all_pairs}
use Rattle.rp_fit.specs.declared.violations.ViolationsPart.{ViolationsPart}
use Rattle.rp_print.specs.ListText.{line_of}

-- the numbers of pairs, and how many pairs there are
abbrev pub pairs_text : ℕ → ViolationsPart → List ℕ
pairs_text pairs part =
    line_of (codes "violations garp " ++ decimal part.garp ++ codes " wgarp " ++ decimal part.weak_garp
    ++ codes " warp " ++ decimal part.warp ++ codes " sarp " ++ decimal part.sarp ++ codes " of " ++ decimal pairs)

-- the observations in some pair that violates GARP
abbrev pub observations_text : ℕ → ℕ → List ℕ
observations_text n observations =
    line_of (codes "violating observations " ++ decimal observations ++ codes " of " ++ decimal n)

-- both
abbrev pub violations_text : ℕ → ViolationsPart → List ℕ
violations_text n part = pairs_text (all_pairs n) part ++ observations_text n part.observations
