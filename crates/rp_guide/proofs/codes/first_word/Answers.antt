use Rattle.rp_guide.proofs.WordLemmas.{word_in_front}
use Rattle.rp_guide.proofs.codes.first_word.Goals as goal

pub returns : goal.returns
returns c = rw c.word_length.ensures.value (word_in_front c.args.text.now)
