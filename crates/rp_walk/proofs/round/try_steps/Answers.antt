use Rattle.std.proofs.Common.{arith, ap, sym, ◌∙◌, ◌+◌, ◌<◌, length, get_or}
use Rattle.rp_walk.specs.InnerRounds.{IsTried}
use Rattle.rp_walk.proofs.Tries.{IsTried-kept_at, IsTried-none, IsTried-taken_at, IsTried-until, StepsFit-more, StepsFit-until}
use Rattle.rp_walk.proofs.round.try_steps.Goals as goal
use Rattle.rp_walk.proofs.round.try_steps.Goals.{then-less, else-less}

pub loop-to-init : goal.loop-to-init
loop-to-init g c =
    let w = g.T.Total.rule c.args.total.now in
    let look = c.first_to_try-to.ensures in
    let at_most = look.at_most in
    let old = c.args.next.now in
    record {
      tried = IsTried-until w g.T.Total.exact (g.T.Total.exact c.args.v) c.args.from old.values.items old.from.items 0 c.first_to_try-to.result old.values.items old.from.items c.args.v
          (IsTried-none w g.T.Total.exact (g.T.Total.exact c.args.v) c.args.from old.values.items old.from.items) (omega arith) (omega (arith, at_most, c.requires.values_len))
          (λ i b from below at. look.not_less i b from below (at ∙ ap (λ bs. get_or bs i b) (sym c.as_slice.ensures.value)));
      fit = StepsFit-until w g.T.Total.fits (g.T.Total.exact c.args.v) c.args.from 0 c.first_to_try-to.result (λ s below. absurd (omega (arith, below))) look.fits;
      within = omega (arith, at_most, c.n-n.ensures.value);
    }

pub loop-to-preserved : goal.loop-to-preserved
loop-to-preserved g c =
    let w = g.T.Total.rule c.args.total.now in
    let fits = g.T.Total.fits in
    let exact = g.T.Total.exact in
    let x = exact c.args.v in
    let inv = c.loop-to.invariant in
    let to = c.loop-to.to in
    let look = c.first_to_try-to-in-loop-to.ensures in
    let at_least = look.at_least in
    let at_most = look.at_most in
    let old = c.args.next.now in
    let new = c.if-less.next in
    let in_values : to < length c.loop-to.next.values.items = omega (arith, inv.tried.values_len, c.requires.values_len, c.n-n.ensures.value, c.loop-to-test.true) in
    let in_from : to < length c.loop-to.next.from.items = omega (arith, inv.tried.from_len, c.requires.from_len, c.n-n.ensures.value, c.loop-to-test.true) in
    let tried : IsTried w exact x c.args.from old.values.items old.from.items (to + 1) new.values.items new.from.items = elim c.if-less.branch [
      | then-less v ↦ rw v.next-is (IsTried-taken_at _ _ _ _ _ _ _ _ _ _ _ inv.tried in_values in_from c.index-best.ensures c.in-Ok.ensures.value (c.less.ensures.0 v.if-less.true))
      | else-less v ↦ rw v.next-is (IsTried-kept_at _ _ _ _ _ _ _ _ _ _ _ inv.tried in_values c.index-best.ensures c.in-Ok.ensures.value (λ p. let q = c.less.ensures.1 p in cc))
    ] in
    let fit = StepsFit-more w fits _ _ _ inv.fit (λ no_fit. let q = c.in-Ok.ensures.wide.1 no_fit in cc) in
    record {
      tried = IsTried-until w exact x c.args.from old.values.items old.from.items (to + 1) c.first_to_try-to-in-loop-to.result new.values.items new.from.items c.args.v
          tried at_least (omega (arith, at_most, tried.values_len, c.requires.values_len))
          (λ i b from below at. look.not_less i b from below (at ∙ ap (λ bs. get_or bs i b) (sym c.as_slice-in-loop-to.ensures.value)));
      fit = StepsFit-until w fits x c.args.from (to + 1) c.first_to_try-to-in-loop-to.result fit look.fits;
      within = omega (arith, at_most, c.n-n.ensures.value);
    }
