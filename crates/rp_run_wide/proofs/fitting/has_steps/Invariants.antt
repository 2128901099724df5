use Rattle.std.proofs.Common.{◌≡◌, length, map}
use Rattle.std.specs.Prelude.{string_bytes}
use Rattle.rp_run_wide.specs.FitHelping.{has_steps}
use Rattle.rp_run_wide.proofs.fitting.has_steps.Given as goal

abbrev pub invariant-loop-words : goal.invariant-loop-words
invariant-loop-words l = has_steps (map string_bytes l.words) ≡ has_steps (map string_bytes l.initial.words)

abbrev pub decreases-loop-words : goal.decreases-loop-words
decreases-loop-words l = length l.words
