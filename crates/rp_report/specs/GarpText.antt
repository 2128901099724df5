-- The lines of a verdict on the generalized axiom of revealed preference (this program's own format).
use Rattle.std.specs.Prelude.{ℕ, List, ◌++◌, codes}
use Rattle.rp_evidence.specs.declared.garp.Garp.{Garp}
use Rattle.rp_evidence.specs.declared.garp.Garp.TheVariants.{Ranks, Cycle}
use Rattle.rp_print.specs.ListText.{line_of, numbers_text, ordinals_text}

-- a verdict on the generalized axiom of revealed preference
abbrev pub garp_text : Garp → List ℕ
garp_text (Ranks ranks) = line_of (codes "garp holds") ++ line_of (codes "ranks " ++ numbers_text ranks)
garp_text (Cycle cycle) = line_of (codes "garp violated") ++ line_of (codes "cycle " ++ ordinals_text cycle)
