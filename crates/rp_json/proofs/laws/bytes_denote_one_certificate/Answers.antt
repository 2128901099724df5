use Rattle.rp_json.proofs.ItemListLemmas.{denoted_once}
use Rattle.rp_json.proofs.laws.bytes_denote_one_certificate.Goals as goal

pub returns : goal.returns
returns c = λ kind bytes certificate result one denoted. denoted_once kind bytes certificate result one denoted
