use Rattle.rp_agreement.proofs.ItemsFit.{table_limited}
use Rattle.rp_agreement.proofs.laws.tables_are_limited.Goals as goal

pub returns : goal.returns
returns c = table_limited
