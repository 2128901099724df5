use Rattle.rp_json_fit.proofs.ItemListLemmas.{read_back, text_spells}
use Rattle.rp_json_fit.proofs.laws.what_is_written_of_fit_is_read.Goals as goal

pub returns-clause-text : goal.returns-clause-text
returns-clause-text c = λ items h. text_spells items h

pub returns-clause-back : goal.returns-clause-back
returns-clause-back c = λ items h result denoted. read_back items result h denoted
