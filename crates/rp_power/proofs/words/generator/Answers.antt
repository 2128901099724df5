use Rattle.rp_power.specs.Words.{generator_of}
use Rattle.rp_power.proofs.words.generator.Goals as goal

pub returns : goal.returns
unfolding generator_of
returns c = c.new.ensures
