use Rattle.rp_json.proofs.ItemListLemmas.{read_back, text_spells}
use Rattle.rp_json.proofs.laws.what_is_written_is_read.Goals as goal

pub returns-clause-text : goal.returns-clause-text
returns-clause-text c = text_spells

pub returns-clause-back : goal.returns-clause-back
returns-clause-back c = λ kind certificate h result denoted. read_back kind certificate result h denoted
