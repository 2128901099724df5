-- The lines of closed walks with weights (this program's own format).
use Rattle.std.specs.Prelude.{ℕ, List, ◌++◌, codes}
use Rattle.std.specs.List.{flat_map}
use Rattle.std.specs.Fmt.{decimal}
use Rattle.rp_fit.specs.declared.weighted.WeightedWalk.{WeightedWalk}
use Rattle.rp_print.specs.ListText.{line_of, ordinals_text}

-- a closed walk and its weight
abbrev pub cycle_text : WeightedWalk → List ℕ
cycle_text each = line_of (codes "cycle " ++ ordinals_text each.walk ++ codes " weight " ++ decimal each.weight)

-- the denominator of the weights, and each closed walk
abbrev pub cycles_text : ℕ → List WeightedWalk → List ℕ
cycles_text den walks = line_of (codes "cycles over " ++ decimal den) ++ flat_map cycle_text walks
