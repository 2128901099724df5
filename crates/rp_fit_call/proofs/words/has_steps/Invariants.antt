use Rattle.std.proofs.Common.{◌≡◌, length}
use Rattle.rp_fit_call.specs.FitWords.{has_steps}
use Rattle.rp_fit_call.proofs.words.has_steps.Given as goal

abbrev pub invariant-loop-words : goal.invariant-loop-words
invariant-loop-words l = has_steps l.words ≡ has_steps l.initial.words

abbrev pub decreases-loop-words : goal.decreases-loop-words
decreases-loop-words l = length l.words
