-- The whole number that two words of 128 bits stand for (positional notation; Knuth, The Art of Computer Programming,
-- volume 2, section 4.3.1).
use Rattle.std.specs.Prelude.{ℕ, ◌+◌, ◌*◌, ◌^◌}
use Rattle.rp_two_words.specs.declared.two_words.TwoWords.{TwoWords}

abbrev pub value_of : TwoWords → ℕ
value_of w = w.high * 2 ^ 128 + w.low
