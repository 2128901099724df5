-- The lines of demand at new prices (this program's own format).
use Rattle.std.specs.Prelude.{ℕ, ◌+◌, List, [], ◌∷◌, ◌++◌, codes}
use Rattle.std.specs.Fmt.{decimal}
use Rattle.rp_evidence.specs.declared.demand.DemandPart.{DemandPart}
use Rattle.rp_evidence.specs.declared.demand.DemandPart.TheVariants.{Bounds, NoModel}
use Rattle.rp_evidence.specs.declared.demand.GoodBounds.{GoodBounds}
use Rattle.rp_evidence.specs.declared.demand.Point.{Point}
use Rattle.rp_print.specs.BoundText.{bound_text, pair_line}
use Rattle.rp_print.specs.ListText.{line_of, numbers_text, ordinal_text, ordinals_text, over_text}

-- the new budget
abbrev pub budget_line : List ℕ → ℕ → List ℕ
budget_line prices m = line_of (codes "demand prices " ++ numbers_text prices ++ codes " expenditure " ++ decimal m)

-- the demand that is always there
abbrev pub inner_line : Point → List ℕ
inner_line inner = line_of (codes "inner " ++ over_text inner.num inner.den)

-- the bounds of good g, and their pairs
abbrev pub good_text : ℕ → GoodBounds → List ℕ
good_text g bounds =
    line_of (codes "good " ++ ordinal_text g ++ codes " lower " ++ bound_text bounds.lower
    ++ codes " upper " ++ bound_text bounds.upper)
    ++ pair_line (codes "lower ") bounds.lower ++ pair_line (codes "upper ") bounds.upper

-- the bounds of the goods from g on
abbrev pub goods_text : ℕ → List GoodBounds → List ℕ
goods_text g [] = []
goods_text g (bounds ∷ others) = good_text g bounds ++ goods_text (g + 1) others

-- demand at new prices
abbrev pub demand_text : List ℕ → ℕ → DemandPart → List ℕ
demand_text prices m (Bounds below strict inner goods) =
    budget_line prices m ++ line_of (codes "below " ++ ordinals_text below)
    ++ line_of (codes "strict " ++ ordinals_text strict) ++ inner_line inner ++ goods_text 0 goods
demand_text prices m (NoModel walk) =
    budget_line prices m ++ line_of (codes "none") ++ line_of (codes "cycle " ++ ordinals_text walk)
