use Rattle.rp_evidence.specs.Input.{input_of_table}
use Rattle.rp_evidence.specs.Proves.{Proves}
use Rattle.rp_evidence.specs.declared.certificate.Item.TheVariants.{Quasi as QuasiItem}
use Rattle.rp_evidence.proofs.SameSums.{quasilinear_same}
use Rattle.rp_table.specs.Cost.{cost_at, cost_of}
use Rattle.rp_rows.proofs.VerdictLemmas.{quasilinear_told, same_costs}
use Rattle.rp_rows.proofs.verdicts.quasilinear_on.Goals as goal

pub returns : goal.returns
returns c =
    let is = c.requires in
    let costs = c.args.costs.now in
    let table = c.args.table.now in
    let evidence = c.in_ok-evidence.evidence in
    let proves : Proves (input_of_table table) (QuasiItem evidence) = rw (← is.size) (quasilinear_same costs.n (cost_at costs) (cost_of table) evidence (same_costs costs table is) c.in_ok-evidence.ensures.proves) in
    rw c.of_quasilinear.ensures (quasilinear_told table c.n.ensures.valid evidence proves)
