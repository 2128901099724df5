use Rattle.std.proofs.Common.{◌≡◌, ◌++◌}
use Rattle.rp_print.specs.MixtureText.{apportioned_text}
use Rattle.rp_answers.specs.PatchesText.{all_counts_text, patches_below}
use Rattle.rp_answers.proofs.patches.patches_text.Given as goal

abbrev pub invariant-loop-i : goal.invariant-loop-i
invariant-loop-i l = l.text.items ≡ all_counts_text l.patches ++ apportioned_text l.patches.asked ++ patches_below l.patches l.i
