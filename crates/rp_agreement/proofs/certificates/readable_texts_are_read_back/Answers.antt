use Rattle.rp_agreement.proofs.SameValues.{text_read_back}
use Rattle.rp_agreement.proofs.certificates.readable_texts_are_read_back.Goals as goal

pub returns : goal.returns
returns c = text_read_back
