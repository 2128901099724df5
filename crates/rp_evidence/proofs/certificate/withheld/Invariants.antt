use Rattle.std.proofs.Common.{◌≡◌, ◌-◌, ◌^◌, min, sum_by, take}
use Rattle.rp_evidence.specs.Withheld.{withheld_in}
use Rattle.rp_evidence.proofs.certificate.withheld.Given as goal

abbrev pub invariant-loop-item : goal.invariant-loop-item
invariant-loop-item l = l.total ≡ min (sum_by withheld_in (take l.item-index l.c.items)) (2 ^ 32 - 1)
