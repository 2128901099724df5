use Rattle.std.proofs.Common.{◌≡◌, ℕ, ◌<◌, ◌≤◌, true, false, List, length, set, sym, ap, subst, ◌∙◌, arith}
use Rattle.std.proofs.lemmas.List.{get_or_read}
use Rattle.rp_menu.specs.Cells.{cell_at}
use Rattle.rp_menu.specs.InnerCells.{is_seat}
use Rattle.rp_menu.specs.declared.cells.Cell.{Cell}
use Rattle.rp_menu.proofs.CountedCells.{counted_apart, counted_with, seat_later, with_more}
use Rattle.rp_menu.proofs.cells.count_in.Goals as goal
use Rattle.rp_menu.proofs.cells.count_in.Goals.{else-seat-len-via-then-seat-len+else-index-new, else-seat-len-via-else-seat-len}

pub returns-then-index-new : goal.returns-then-index-new
returns-then-index-new c =
    let cells = c.args.cells.now.items in
    let new = c.args.new in
    let seat = c.seat_of-seat.result in
    let value = c.as_slice.ensures.value in
    let inside : seat < length cells = omega (arith, c.if-seat-len.true, c.len.ensures) in
    let read = get_or_read cells seat c.index.result.now inside c.index.ensures (record { group = 0; letter = 0; count = 0 }) in
    let held = get_or_read cells seat c.index_mut.result.now inside c.index_mut.ensures.value (record { group = 0; letter = 0; count = 0 }) in
    let same : (cell_at cells seat).group ≡ new.group = ap (λ (cell : Cell). cell.group) (sym read) ∙ c.if-index-new.true in
    let before = subst (λ (xs : List Cell). (k : ℕ) → k < seat → is_seat (cell_at xs k) new ≡ false) value c.seat_of-seat.ensures.first in
    let here = subst (λ (xs : List Cell). seat < length xs → is_seat (cell_at xs seat) new ≡ true) value c.seat_of-seat.ensures.there in
    ap (λ (cell : Cell). set cells seat (with_more cell new)) held ∙ sym (counted_with cells new seat inside before same (here inside))

pub returns-in_ok-insert : goal.returns-in_ok-insert
returns-in_ok-insert c =
    let cells = c.args.cells.now.items in
    let new = c.args.new in
    let seat = c.seat_of-seat.result in
    let value = c.as_slice.ensures.value in
    let within = subst (λ (xs : List Cell). seat ≤ length xs) value c.seat_of-seat.ensures.within in
    let before = subst (λ (xs : List Cell). (k : ℕ) → k < seat → is_seat (cell_at xs k) new ≡ false) value c.seat_of-seat.ensures.first in
    let here = subst (λ (xs : List Cell). seat < length xs → is_seat (cell_at xs seat) new ≡ true) value c.seat_of-seat.ensures.there in
    let later : seat < length cells → new.group < (cell_at cells seat).group = λ inside. elim c.else-seat-len.branch [
      | else-seat-len-via-then-seat-len+else-index-new w ↦
          let read = get_or_read cells seat w.index.result.now inside w.index.ensures (record { group = 0; letter = 0; count = 0 }) in
          seat_later (cell_at cells seat) new (here inside) (λ same. w.if-index-new.false (ap (λ (cell : Cell). cell.group) read ∙ same))
      | else-seat-len-via-else-seat-len w ↦ absurd (omega (arith, inside, w.if-seat-len.false, c.len.ensures))
    ] in
    c.in_ok-insert.ensures.items ∙ sym (counted_apart cells new seat within before later)
