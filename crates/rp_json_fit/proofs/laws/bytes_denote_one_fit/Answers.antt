use Rattle.rp_json_fit.proofs.ItemListLemmas.{denoted_once}
use Rattle.rp_json_fit.proofs.laws.bytes_denote_one_fit.Goals as goal

pub returns : goal.returns
returns c = λ bytes items result one denoted. denoted_once bytes items result one denoted
