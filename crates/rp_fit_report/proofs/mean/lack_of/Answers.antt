use Rattle.std.proofs.Common.{◌≤◌, ◌-◌, arith}
use Rattle.std.proofs.Math.Nat.{one-le-pow, pow-le-pow_left}
use Rattle.rp_fit.specs.LevelsEvidence.{power_of}
use Rattle.rp_fit_report.proofs.mean.lack_of.Goals as goal

pub part_of-requires-clause-some : goal.part_of-requires-clause-some
part_of-requires-clause-some c =
    rw c.to_power-2.ensures.value (one-le-pow (power_of c.args.part.now.lack) c.cost-spent.result c.cost-spent.ensures.positive)

pub part_of-requires-clause-part : goal.part_of-requires-clause-part
part_of-requires-clause-part c =
    let less : c.cost-spent.result - c.level_cost.result ≤ c.cost-spent.result = omega arith in
    rw (c.to_power.ensures.value, c.to_power-2.ensures.value) (pow-le-pow_left less (power_of c.args.part.now.lack))
