-- The lines of welfare bounds at new prices (this program's own format).
use Rattle.std.specs.Prelude.{ℕ, List, ◌++◌, codes}
use Rattle.rp_evidence.specs.declared.demand.WelfarePart.{WelfarePart}
use Rattle.rp_evidence.specs.declared.demand.WelfarePart.TheVariants.{Bounds, NoModel}
use Rattle.rp_print.specs.BoundText.{bounds_text, pair_line}
use Rattle.rp_print.specs.ListText.{line_of, numbers_text, ordinal_text, ordinals_text}

-- new prices and an observation
abbrev pub welfare_head : List ℕ → ℕ → List ℕ
welfare_head prices t = codes "welfare prices " ++ numbers_text prices ++ codes " observation " ++ ordinal_text t

-- the welfare bounds of an observation at new prices
abbrev pub welfare_text : List ℕ → ℕ → WelfarePart → List ℕ
welfare_text prices t (Bounds upper at lower) =
    line_of (welfare_head prices t ++ bounds_text lower upper at) ++ pair_line (codes "lower ") lower
welfare_text prices t (NoModel walk) =
    line_of (welfare_head prices t ++ codes " none") ++ line_of (codes "cycle " ++ ordinals_text walk)
