use Rattle.std.proofs.Common.{◌+◌, ◌<◌, ◌≡◌, length, get_or, arith}
use Rattle.std.proofs.lemmas.List.{get_or_read}
use Rattle.rp_table.specs.Cost.{cost_at}
use Rattle.rp_effic.proofs.Collected.{ends_at, seen_with, seen_without}
use Rattle.rp_effic.proofs.ratios.add_between.Goals as goal
use Rattle.rp_effic.proofs.ratios.add_between.Goals.{in-Some+in_ok-push, in_default}

pub loop-place-preserved : goal.loop-place-preserved
loop-place-preserved c =
    let a = c.args in
    let l = c.loop-place in
    let costs = cost_at a.costs.now in
    let to = a.steps.now.to.items in
    let t = c.index.result.now in
    let start = get_or a.steps.now.starts.items a.s 0 in
    let starts = a.steps.now.starts.items in
    let end : c.index-place-end.result.now ≡ get_or starts (a.s + 1) 0 =
    get_or_read starts (a.s + 1) c.index-place-end.result.now (omega (arith, c.requires.from, c.requires.steps.start_each)) c.index-place-end.ensures 0 in
    let last = c.requires.steps.within (a.s + 1) (omega (arith, c.requires.from)) in
    let within : l.place < length to = omega (arith, c.loop-place-test.true, end, last) in
    let there : t ≡ get_or to l.place 0 = get_or_read to l.place t within c.index.ensures 0 in
    elim c.match-ratio_between.branch [
      | in-Some+in_ok-push w ↦ rw (w.ratios-is, w.in_ok-push.ensures.items)
          (seen_with costs a.bracket.now to a.s start l.place a.ratios.now.items l.ratios.items l.invariant w.in-Some.ratio
          (rw there at w.in-Some.ensures.some.0) w.in-Some.ensures.some.1)
      | in_default w ↦ rw w.ratios-is
          (seen_without costs a.bracket.now to a.s start l.place a.ratios.now.items l.ratios.items l.invariant
          (rw there at w.in_default.ensures.none))
    ]

pub returns : goal.returns
returns c =
    let a = c.args in
    let l = c.loop-place in
    let starts = a.steps.now.starts.items in
    let first : c.index-place.result.now ≡ get_or starts a.s 0 =
    get_or_read starts a.s c.index-place.result.now (omega (arith, c.requires.from, c.requires.steps.start_each)) c.index-place.ensures 0 in
    let end : c.index-place-end.result.now ≡ get_or starts (a.s + 1) 0 =
    get_or_read starts (a.s + 1) c.index-place-end.result.now (omega (arith, c.requires.from, c.requires.steps.start_each)) c.index-place-end.ensures 0 in
    let rows = c.requires.steps.rows a.s c.requires.from in
    ends_at (cost_at a.costs.now) a.bracket.now a.steps.now.to.items a.s (get_or starts a.s 0) l.place (get_or starts (a.s + 1) 0) a.ratios.now.items l.ratios.items l.invariant
    (omega (arith, c.loop-place.auto.place-end, c.loop-place-test.false, first, end, rows))
