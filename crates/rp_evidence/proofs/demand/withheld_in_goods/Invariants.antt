use Rattle.std.proofs.Common.{◌≡◌, ◌-◌, ◌^◌, min, sum_by, take}
use Rattle.rp_evidence.specs.DemandEvidence.{withheld_good}
use Rattle.rp_evidence.proofs.demand.withheld_in_goods.Given as goal

abbrev pub invariant-loop-bounds : goal.invariant-loop-bounds
invariant-loop-bounds l = l.total ≡ min (sum_by withheld_good (take l.bounds-index l.goods)) (2 ^ 32 - 1)
