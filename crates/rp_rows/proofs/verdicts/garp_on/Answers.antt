use Rattle.rp_rows.proofs.VerdictLemmas.{garp_there, garp_told}
use Rattle.rp_rows.proofs.verdicts.garp_on.Goals as goal

pub returns : goal.returns
returns c =
    let table = c.args.table.now in
    let evidence = c.in_ok-evidence.evidence in
    let proves = garp_there c.args.costs.now table c.requires evidence c.in_ok-evidence.ensures.proves in
    rw c.of_garp.ensures (garp_told table c.n.ensures.valid evidence proves)
