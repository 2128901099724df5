use Rattle.std.proofs.Common.{◌-◌, sym, arith}
use Rattle.rp_effic.proofs.Indexed.{none_at_zero, none_before_place}
use Rattle.rp_effic.proofs.sampling.ratio_before.Goals as goal

pub returns-then-place-eq0-clause-none : goal.returns-then-place-eq0-clause-none
returns-then-place-eq0-clause-none c = none_at_zero c.args.costs.now c.n-n.ensures.valid

pub returns-clause-none : goal.returns-clause-none
returns-clause-none c =
    none_before_place c.args.costs.now c.n-n.ensures.valid c.args.ratios.now c.args.place c.requires.first (c.args.place - 1) c.index-ratios-place.result
    (omega (arith, c.if-place-eq0.false)) c.requires.place (sym c.index-ratios-place.is)
