use Rattle.std.proofs.Common.{◌≡◌, length, map}
use Rattle.std.specs.Prelude.{string_bytes}
use Rattle.rp_fit_answers.specs.RandomWords.{all_taken, asking_of, nothing_read}
use Rattle.rp_fit_answers.proofs.random_words.random_asked.Given as goal

abbrev pub invariant-loop-left : goal.invariant-loop-left
invariant-loop-left l =
    all_taken (asking_of l.asked) (map string_bytes l.left) ≡ all_taken nothing_read (map string_bytes l.words)

abbrev pub decreases-loop-left : goal.decreases-loop-left
decreases-loop-left l = length l.left
