use Rattle.std.proofs.Common.{◌≡◌, ◌+◌, length}
use Rattle.rp_guide.specs.Codes.{first_word}
use Rattle.rp_guide.proofs.codes.word_length.Given as goal

abbrev pub invariant-loop-left : goal.invariant-loop-left
invariant-loop-left l = record {
  counted : l.count + length (first_word l.left) ≡ length (first_word l.text);
  within : l.count + length l.left ≡ length l.text;
}

abbrev pub decreases-loop-left : goal.decreases-loop-left
decreases-loop-left l = length l.left
