use Rattle.rp_rows.proofs.VerdictLemmas.{homothetic_told}
use Rattle.rp_rows.proofs.verdicts.homothetic_on.Goals as goal

pub returns : goal.returns
returns g c =
    let evidence = c.in_ok-evidence.evidence in
    rw c.of_homothetic.ensures (homothetic_told c.args.table.now c.n.ensures.valid g.T.HomotheticTest.given evidence c.in_ok-evidence.ensures.given c.in_ok-evidence.ensures.proves)
