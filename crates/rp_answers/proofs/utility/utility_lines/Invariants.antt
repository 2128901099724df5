use Rattle.rp_answers.specs.UtilityText.{AreUtilityLines}
use Rattle.rp_answers.proofs.utility.utility_lines.Given as goal

abbrev pub invariant-loop-k : goal.invariant-loop-k
invariant-loop-k l = AreUtilityLines l.table l.afriat l.bundles l.k l.text.items
