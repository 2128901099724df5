use Rattle.rp_whole_tableau.proofs.Entries.{opposite}
use Rattle.rp_whole_tableau.proofs.signed.difference.Goals as goal

pub returns-then-a-b : goal.returns-then-a-b
returns-then-a-b c = opposite c.args.a.negative c.args.b.negative _ _ _ c.if-a-b.true c.plus.ensures
