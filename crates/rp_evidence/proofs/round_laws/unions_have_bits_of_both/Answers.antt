use Rattle.rp_evidence.proofs.BitLemmas.{bit_of_or}
use Rattle.rp_evidence.proofs.round_laws.unions_have_bits_of_both.Goals as goal

pub returns : goal.returns
returns c = bit_of_or
