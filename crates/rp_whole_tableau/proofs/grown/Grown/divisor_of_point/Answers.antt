use Rattle.rp_whole_tableau.proofs.ReadOffs.{divides_begun, divides_more}
use Rattle.rp_whole_tableau.proofs.grown.Grown.divisor_of_point.Goals as goal

pub loop-i-init : goal.loop-i-init
loop-i-init c = divides_begun c.args.self.now.tableau c.args.self.now.tableau.positive

pub loop-i-preserved : goal.loop-i-preserved
loop-i-preserved c =
    let with = c.divisor_with_amount-common.ensures in
    divides_more c.args.self.now.tableau c.loop-i.i c.loop-i.common c.divisor_with_amount-common.result c.loop-i.invariant with.some with.divides with.amount
