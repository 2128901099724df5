use Rattle.std.proofs.Common.{List, ℕ, subst, sym, ◌∙◌}
use Rattle.rp_walk.specs.Outcome.{SettlesInCycle}
use Rattle.rp_walk.proofs.Traces.{SettlesInCycle-pair}
use Rattle.rp_walk.proofs.cycle.cycle_of_pair.Goals as goal

pub returns : goal.returns
returns g c =
    let w = g.T.Total.rule c.args.total.now in
    let h = SettlesInCycle-pair w (g.met.T.Total.keeps_order c.args.total.now) g.T.Total.fits
    (g.T.Total.exact c.start-start.result) c.args.s c.args.t c.requires c.start-start.ensures.value in
    subst (λ (xs : List ℕ). SettlesInCycle w g.T.Total.fits (g.T.Total.exact c.start-start.result) xs)
    (sym (c.from_vec.ensures ∙ c.in_ok-steps.ensures.items)) h
