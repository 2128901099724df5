use Rattle.rp_long.proofs.EachOnceLemmas.{each_once}
use Rattle.rp_long.proofs.laws.each_record_stands_once.Goals as goal

pub returns : goal.returns
returns c = each_once
