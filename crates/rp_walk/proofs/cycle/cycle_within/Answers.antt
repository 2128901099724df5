use Rattle.std.proofs.Common.{List, ℕ, subst, ◌∙◌, arith, get_or, ap, length, take, drop, ◌+◌, ◌-◌}
use Rattle.rp_walk.specs.ExactTotal.{SameTotal}
use Rattle.rp_walk.specs.Walk.{prefix_total}
use Rattle.rp_walk.specs.RoundWalk.{IsFirstClosedPart}
use Rattle.rp_walk.proofs.Cycles.{IsFound-given, found_fits}
use Rattle.rp_walk.proofs.Traces.{SettlesInCycle-cut}
use Rattle.rp_walk.proofs.cycle.cycle_within.Goals as goal

pub total_at-start-requires-clause-fit : goal.total_at-start-requires-clause-fit
total_at-start-requires-clause-fit g c m below =
    let w = g.T.Total.rule c.args.total.now in
    rw c.as_slice-2.ensures.value
    (found_fits w g.T.Total.fits w.count (λ k. get_or c.in_ok-walk.walk.items k 0) (IsFound-given w c.in_ok-walk.walk.items c.in_ok-walk.ensures) (omega arith) c.requires.none_too_wide m
    (omega (arith, below, c.in_ok-first.ensures.in_order, c.in_ok-first.ensures.in_walk, c.in_ok-walk.ensures.one_more, ap length c.as_slice.ensures.value)))

pub returns : goal.returns
returns g c =
    let w = g.T.Total.rule c.args.total.now in
    let walk = c.in_ok-walk.walk.items in
    let first = c.in_ok-first.first in
    let last = c.in_ok-first.last in
    let start = subst (λ (xs : List ℕ). SameTotal (prefix_total w (λ m. get_or xs m 0) first) (g.T.Total.exact c.total_at-start.result))
    c.as_slice-2.ensures.value c.total_at-start.ensures in
    let part = subst (λ (xs : List ℕ). IsFirstClosedPart xs first last) c.as_slice.ensures.value c.in_ok-first.ensures in
    let steps = c.from_vec.ensures ∙ c.in_ok-steps.ensures.items ∙ ap (λ (xs : List ℕ). take (last + 1 - first) (drop first xs)) c.deref.ensures.value in
    SettlesInCycle-cut w (g.met.T.Total.keeps_order c.args.total.now) g.T.Total.fits g.met.T.Total.fits_alike (g.T.Total.exact c.total_at-start.result) walk
    c.from_vec.result first last c.in_ok-walk.ensures part start steps c.requires.no_pair c.requires.none_too_wide
