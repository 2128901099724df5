use Rattle.rp_table.specs.Cost.{cost_at, own_of}
use Rattle.rp_evidence.proofs.OwnAfriat.{weak_by_own}
use Rattle.rp_pref.specs.Steps.{OwnWeak}
use Rattle.rp_afriat.specs.InnerFilling.{scaled_at}
use Rattle.rp_afriat.proofs.Fillings.{none_above}
use Rattle.rp_afriat.proofs.afriat_verdict.fill.Goals as goal

pub loop-done-init : goal.loop-done-init
loop-done-init c =
    let a = c.args in
    record {
      each = c.requires.each;
      filled = λ t b l. absurd (none_above a.costs.now.n (OwnWeak a.costs.now) (scaled_at a.costs.now) (own_of a.costs.now) (weak_by_own a.costs.now.n a.costs.now.levels (cost_at a.costs.now)) a.counts.now c.requires.counted t b l);
      fit = λ t b l. absurd (none_above a.costs.now.n (OwnWeak a.costs.now) (scaled_at a.costs.now) (own_of a.costs.now) (weak_by_own a.costs.now.n a.costs.now.levels (cost_at a.costs.now)) a.counts.now c.requires.counted t b l);
    }
