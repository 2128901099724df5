use Rattle.rp_evidence.specs.Input.{input_of_table}
use Rattle.rp_evidence.specs.Proves.{Proves}
use Rattle.rp_evidence.specs.declared.certificate.Item.TheVariants.{Efficiency as EfficiencyItem}
use Rattle.rp_evidence.proofs.SameIndex.{efficiency_same}
use Rattle.rp_table.specs.Cost.{cost_at, cost_of}
use Rattle.rp_rows.proofs.VerdictLemmas.{index_told, same_costs}
use Rattle.rp_rows.proofs.verdicts.index_on.Goals as goal

pub new-level-requires : goal.new-level-requires
new-level-requires c = c.in_ok-evidence.ensures.given.level.lowest.positive

pub returns : goal.returns
returns c =
    let is = c.requires in
    let costs = c.args.costs.now in
    let table = c.args.table.now in
    let evidence = c.in_ok-evidence.evidence in
    let proves : Proves (input_of_table table) (EfficiencyItem evidence) = rw (← is.size) (efficiency_same costs.n (cost_at costs) (cost_of table) evidence (same_costs costs table is) c.in_ok-evidence.ensures.proves) in
    rw (c.new-level.ensures, c.is_attained-attained.ensures) (index_told table c.n.ensures.valid evidence c.in_ok-evidence.ensures.given.level.lowest.coprime proves)
