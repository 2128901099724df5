use Rattle.rp_rows.proofs.VerdictLemmas.{may_have_power, may_have_pump}
use Rattle.rp_rows.proofs.verdicts.verdicts_on.Goals as goal

pub pump_asked-requires-clause-may_be_asked : goal.pump_asked-requires-clause-may_be_asked
pump_asked-requires-clause-may_be_asked g c = may_have_pump c.args.asked c.args.table.now c.requires

pub power_asked-requires-clause-may_be_asked : goal.power_asked-requires-clause-may_be_asked
power_asked-requires-clause-may_be_asked g c = may_have_power c.args.asked c.args.table.now c.requires

pub returns : goal.returns
returns g c = record {
  observations = c.n.ensures.count;
  goods = c.goods.ensures.count;
  garp = c.in_ok-garp.ensures;
  efficiency = c.in_ok-index.ensures;
  homothetic = c.in_ok-homothetic.ensures;
  quasilinear = c.in_ok-quasilinear.ensures;
  pump = c.in_ok-pump.ensures;
  power = c.in_ok-power.ensures;
}
