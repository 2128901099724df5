use Rattle.std.proofs.Common.{◌≡◌, ◌%◌, ◌≤◌, refl, sym, subst, arith, lit≤}
use Rattle.std.proofs.lemmas.Nat.{mod_below}
use Rattle.std.specs.List.{All}
use Rattle.rp_power.specs.Words.{word_after}
use Rattle.rp_power.proofs.WordLemmas.{one_word_more, none_yet}
use Rattle.rp_power.proofs.DrawnLemmas.{count_of, left}
use Rattle.rp_num.proofs.RowsBelow.{all_listed}
use Rattle.rp_answers.proofs.TrialLemmas.{quantities_more, quantity_at}
use Rattle.rp_answers.proofs.trial.table.draw_quantities.Goals as goal

pub loop-init : goal.loop-init
loop-init c = record { drawn = c.new-row.ensures.items; moved = none_yet c.args.generator.now }

pub loop-preserved : goal.loop-preserved
loop-preserved c =
    let g = c.args.generator.now in
    let here = c.loop.generator in
    let i = c.loop.invariant in
    record {
      drawn = quantities_more g here c.loop.counter c.draw.result (c.draw.result % 100) c.loop.row.items c.push.new.self.items i.drawn i.moved c.draw.ensures.word refl c.in_ok-push.ensures.items;
      moved = one_word_more g here c.draw.new.generator c.loop.counter i.moved c.draw.ensures.moved;
    }

pub leave_not_all_zero-requires-clause-some : goal.leave_not_all_zero-requires-clause-some
leave_not_all_zero-requires-clause-some c =
    let count = count_of (quantity_at c.args.generator.now) c.loop.counter c.loop.row.items c.loop.invariant.drawn in
    omega (arith, count)

pub leave_not_all_zero-requires-clause-few : goal.leave_not_all_zero-requires-clause-few
leave_not_all_zero-requires-clause-few c =
    let count = count_of (quantity_at c.args.generator.now) c.loop.counter c.loop.row.items c.loop.invariant.drawn in
    omega (arith, count)

pub leave_not_all_zero-requires-clause-within : goal.leave_not_all_zero-requires-clause-within
leave_not_all_zero-requires-clause-within c =
    let g = c.args.generator.now in
    subst (All (λ q. q ≤ 9999999)) (sym c.loop.invariant.drawn)
    (all_listed (λ q. q ≤ 9999999) c.loop.counter (quantity_at g) (λ k within. omega (arith, mod_below (word_after g k) 100 (lit≤ tt))))

pub returns-clause-drawn : goal.returns-clause-drawn
returns-clause-drawn c =
    let all : c.loop.counter ≡ c.args.goods = omega arith in
    left c.args.goods (quantity_at c.args.generator.now) c.loop.row.items c.leave_not_all_zero.new.numbers.items (rw all at c.loop.invariant.drawn) c.leave_not_all_zero.ensures
