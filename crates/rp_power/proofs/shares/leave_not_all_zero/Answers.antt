use Rattle.std.proofs.Common.{◌≡◌, length, get_or, set, refl, sym, ◌∙◌}
use Rattle.rp_table.specs.Sums.{sum_below}
use Rattle.rp_power.proofs.DrawnLemmas.{other_row, zero_row}
use Rattle.rp_power.proofs.shares.leave_not_all_zero.Goals as goal

pub returns-then-total-eq0 : goal.returns-then-total-eq0
returns-then-total-eq0 c =
    let row = c.args.numbers.now.items in
    let sum : c.total.result ≡ sum_below (length row) (λ k. get_or row k 0) = rw c.as_slice.ensures.value at c.total.ensures.exact in
    zero_row row (set row 0 1) refl (sym sum ∙ c.if-total-eq0.true) c.requires.some

pub returns-else-total-eq0 : goal.returns-else-total-eq0
returns-else-total-eq0 c =
    let row = c.args.numbers.now.items in
    let sum : c.total.result ≡ sum_below (length row) (λ k. get_or row k 0) = rw c.as_slice.ensures.value at c.total.ensures.exact in
    other_row row (λ none. c.if-total-eq0.false (sum ∙ none))
