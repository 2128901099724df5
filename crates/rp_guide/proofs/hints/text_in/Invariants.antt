use Rattle.std.proofs.Common.{◌≡◌, length, map}
use Rattle.rp_guide.specs.Hints.{text_in}
use Rattle.rp_guide.proofs.hints.text_in.Given as goal

abbrev pub invariant-loop-table : goal.invariant-loop-table
invariant-loop-table l = text_in (map (λ h. (h.0.now, h.1.now)) l.table) l.code ≡ text_in (map (λ h. (h.0.now, h.1.now)) l.initial.table) l.code

abbrev pub decreases-loop-table : goal.decreases-loop-table
decreases-loop-table l = length l.table
