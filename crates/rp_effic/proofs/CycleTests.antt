-- At which ratios a closed walk of weak steps exists: from some place on at all.
use Rattle.std.proofs.Common.{List, length, get_or}
use Rattle.rp_evidence.proofs.Index.{closed_rises}
use Rattle.rp_table.specs.Cost.{CostTable, cost_at}
use Rattle.rp_effic.specs.InnerCycles.{HasCycleFrom}
use Rattle.rp_effic.specs.Monotone.{IsMonotone}
use Rattle.rp_pref.proofs.LevelOrder.{level_den}
use Rattle.rp_effic.specs.InnerRatios.{Rise}
use Rattle.rp_effic.specs.declared.ratio.Ratio.{Ratio}

pub stays : (costs : CostTable) (ratios : List Ratio) → Rise ratios → IsMonotone (length ratios) (HasCycleFrom costs ratios)
stays costs ratios rise i j l within there = λ d.
    let a : Ratio = get_or ratios i d in
    let b : Ratio = get_or ratios j d in
    let less = rise i j d l within in
    let at = there d in (
      at.0,
      closed_rises costs.n a.num a.den b.num b.den (cost_at costs) at.0 (level_den a.num a.den a.level) less at.1,
    )
