use Rattle.std.proofs.Common.{arith, ◌≡◌, ◌<◌, get_or, sym, subst, List, ℕ, ◌+◌, ◌++◌, ◌∙◌, ap, add-one}
use Rattle.rp_walk.specs.RoundWalk.{IsFirstLive}
use Rattle.rp_walk.specs.InnerRounds.{Remembers}
use Rattle.rp_walk.proofs.Runs.{IsRun-start, IsRun-next, SettlesInValues-run, SettlesInWide-run, NoneTooWide-run, IsFirstLive-run}
use Rattle.rp_walk.proofs.settling.settle_by_rounds.Goals as goal

pub loop-steps-init : goal.loop-steps-init
loop-steps-init g c =
    IsRun-start (g.T.Total.rule c.args.total.now) g.T.Total.fits g.T.Total.exact c.start.result c.n-n.result _ _ _
    c.n-n.ensures.value c.start.ensures.value c.in_ok-round.ensures.values c.in_ok-round.ensures.from c.new-history.ensures.items

pub returns-in-TooWide : goal.returns-in-TooWide
returns-in-TooWide g c =
    let stops = rw c.in-TooWide.is at c.in_ok-from.ensures in
    SettlesInWide-run (g.T.Total.rule c.args.total.now) (g.met.T.Total.keeps_order c.args.total.now) g.T.Total.fits g.met.T.Total.fits_alike
    g.T.Total.exact c.loop-steps.steps c.in-TooWide.from c.in-TooWide.to _ _ _
    (omega (arith, c.loop-steps-test.true, c.n-n.ensures.value)) c.loop-steps.invariant stops c.requires

pub returns-in-None : goal.returns-in-None
returns-in-None g c =
    let next = rw c.in-Next.is at c.in_ok-from.ensures in
    SettlesInValues-run (g.T.Total.rule c.args.total.now) (g.met.T.Total.keeps_order c.args.total.now) g.T.Total.fits g.met.T.Total.fits_alike
    g.T.Total.exact c.loop-steps.steps c.n-n.result _ _ _ _ _ _ c.n-n.ensures.value c.loop-steps.invariant next
    c.in-None.ensures.none c.from_vec.ensures c.requires

pub loop-steps-preserved : goal.loop-steps-preserved
loop-steps-preserved g c =
    let w = g.T.Total.rule c.args.total.now in
    let next = rw c.in-Next.is at c.in_ok-from.ensures in
    let s = c.in-Some.field-0 in
    let below : s < w.count = omega (arith, c.in-Some.ensures.within, c.n-n.ensures.value) in
    let better : get_or c.in-Next.next.from.items s 0 < w.count = omega (arith, c.in-Some.ensures.improved, c.n-n.ensures.value) in
    IsRun-next w (g.met.T.Total.keeps_order c.args.total.now) g.T.Total.fits g.met.T.Total.fits_alike g.T.Total.exact
    c.loop-steps.steps (c.loop-steps.steps + 1) _ _ _ _ c.loop-steps.history.items _ (add-one c.loop-steps.steps) c.loop-steps.invariant next
    (c.in_ok-extend_from_slice-in-Next.ensures.items ∙ ap (λ (xs : List ℕ). c.loop-steps.history.items ++ xs) c.as_slice.ensures.value) s below better

pub cycle_within-requires-clause-remembers : goal.cycle_within-requires-clause-remembers
cycle_within-requires-clause-remembers g c =
    let w = g.T.Total.rule c.args.total.now in
    let e : c.loop-steps.steps ≡ w.count = omega (arith, c.loop-steps-test.false, c.loop-steps.auto.steps-end, c.n-n.ensures.value) in
    let all = subst (λ k. Remembers w k c.loop-steps.history.items) e c.loop-steps.invariant.remembers in
    subst (λ (xs : List ℕ). Remembers w w.count xs) (sym c.as_slice-in-Some-first_improved.ensures.value) all

pub cycle_within-requires-clause-end_first : goal.cycle_within-requires-clause-end_first
cycle_within-requires-clause-end_first g c =
    let w = g.T.Total.rule c.args.total.now in
    let end = c.in-Some-first_improved.end in
    let e : c.loop-steps.steps ≡ w.count = omega (arith, c.loop-steps-test.false, c.loop-steps.auto.steps-end, c.n-n.ensures.value) in
    let below : end < w.count = omega (arith, c.in-Some-first_improved.ensures.within, c.n-n.ensures.value) in
    let better : get_or c.loop-steps.round.from.items end 0 < w.count = omega (arith, c.in-Some-first_improved.ensures.improved, c.n-n.ensures.value) in
    subst (λ k. IsFirstLive w k end) e
    (IsFirstLive-run w g.T.Total.fits g.T.Total.exact c.loop-steps.steps end _ _ _ c.loop-steps.invariant below better
    (λ i before. omega (arith, c.in-Some-first_improved.ensures.first i before, c.n-n.ensures.value)))

pub cycle_within-requires-clause-none_too_wide : goal.cycle_within-requires-clause-none_too_wide
cycle_within-requires-clause-none_too_wide g c =
    let w = g.T.Total.rule c.args.total.now in
    NoneTooWide-run w g.T.Total.fits g.T.Total.exact c.loop-steps.steps _ _ _
    (omega (arith, c.loop-steps-test.false, c.loop-steps.auto.steps-end, c.n-n.ensures.value)) c.loop-steps.invariant
