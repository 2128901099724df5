use Rattle.std.proofs.Common.{◌≡◌, ◌==◌, ◌&&◌, List, ℕ, ap, arith, length, slice_index, sym, ◌∙◌}
use Rattle.rp_orders.proofs.LoopLemmas.{off_first, off_second, on_both}
use Rattle.rp_orders.proofs.OrderLists.{first_at, none_with}
use Rattle.rp_orders.proofs.picks.cell_of.Goals as goal
use Rattle.rp_orders.proofs.picks.cell_of.Goals.{else-groups-cell-via-then-groups-cell+else-letter, else-groups-cell-via-else-groups-cell}

pub returns-then-letter-clause-exact : goal.returns-then-letter-clause-exact
returns-then-letter-clause-exact c =
    let list = c.args.seen.now in
    let n = c.loop-cell.cell in
    let group : slice_index list.groups n ≡ c.args.i = sym (ap (λ (gs : List ℕ). slice_index gs n) c.groups.ensures.exact) ∙ c.if-groups-cell.true in
    let letter : slice_index list.chosen n ≡ c.args.letter = sym c.letter.ensures.exact ∙ c.if-letter.true in
    sym (first_at n (length list.groups) (λ d. (slice_index list.groups d == c.args.i) && (slice_index list.chosen d == c.args.letter)) c.loop-cell.invariant
    (on_both (slice_index list.groups n) c.args.i (slice_index list.chosen n) c.args.letter group letter)
    (omega (arith, c.loop-cell-test.true, c.cells-cell-end.ensures.exact)))

pub loop-cell-preserved : goal.loop-cell-preserved
loop-cell-preserved c =
    let list = c.args.seen.now in
    let n = c.loop-cell.cell in
    let groups = ap (λ (gs : List ℕ). slice_index gs n) c.groups.ensures.exact in
    none_with n (λ d. (slice_index list.groups d == c.args.i) && (slice_index list.chosen d == c.args.letter)) c.loop-cell.invariant
    (elim c.else-groups-cell.branch [
      | else-groups-cell-via-then-groups-cell+else-letter w ↦
          off_second (slice_index list.groups n == c.args.i) (slice_index list.chosen n) c.args.letter (λ e. w.if-letter.false (w.letter.ensures.exact ∙ e))
      | else-groups-cell-via-else-groups-cell w ↦
          off_first (slice_index list.groups n) c.args.i (slice_index list.chosen n == c.args.letter) (λ e. w.if-groups-cell.false (groups ∙ e))
    ])
