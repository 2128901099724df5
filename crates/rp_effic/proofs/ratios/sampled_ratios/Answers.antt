use Rattle.std.proofs.Common.{◌≡◌}
use Rattle.rp_effic.specs.declared.ratio.Ratio.{Ratio}
use Rattle.rp_effic.proofs.Collected.{any_moved, sorted_rise}
use Rattle.rp_effic.proofs.ratios.sampled_ratios.Goals as goal

pub returns-clause-one : goal.returns-clause-one
returns-clause-one c =
    any_moved (λ (r : Ratio). r.num ≡ r.den) c.in_ok-ratios.ratios.items c.sort_unstable.new.self.items c.sort_unstable.ensures.permutation c.in_ok-ratios.ensures.one

pub returns-clause-rise : goal.returns-clause-rise
returns-clause-rise c = sorted_rise c.sort_unstable.new.self.items c.sort_unstable.ensures.sorted
