use Rattle.std.proofs.Common.{◌≡◌, ℕ, ◌+◌, ◌<◌, ◌==◌, ◌&&◌, nat_lt, true, false, [], length, get_or, refl, sym, ap, ◌∙◌, subst, arith}
use Rattle.std.specs.Prelude.{codes, unwrap_or}
use Rattle.std.proofs.lemmas.Bool.Decides.{nat_tests, Decides-eqb}
use Rattle.std.proofs.lemmas.List.{get_or_default}
use Rattle.rp_num.specs.Below.{any_below}
use Rattle.rp_sheet.specs.Fields.{nothing}
use Rattle.rp_sheet.specs.Sizes.{figure_at}
use Rattle.rp_sheet.specs.ChoiceCounts.{column_named, is_chosen}
use Rattle.rp_num.proofs.BelowLemmas.{one_holds}
use Rattle.rp_sheet.proofs.sheet.is_chosen.Goals as goal

over_zero : (n : ℕ) → 0 < n → nat_lt 0 n ≡ true
over_zero n more = grind (arith, nat_tests)

pub returns-then-units_at-gt0 : goal.returns-then-units_at-gt0
unfolding is_chosen
returns-then-units_at-gt0 c =
    let t = c.loop-row.row-index in
    let row = c.row-item.is ∙ get_or_default c.args.figures.now t c.row-item.result [] c.loop-row-test.true in
    let budget = c.unwrap_or-budget.ensures ∙ ap (λ o. unwrap_or o 0) c.find.ensures in
    let times = c.unwrap_or-times.ensures ∙ ap (λ o. unwrap_or o 0) c.find-2.ensures in
    let first = c.units_at.ensures ∙ ap (λ xs. (get_or xs c.unwrap_or-budget.result nothing).units) (c.as_slice.ensures ∙ row) ∙ ap (λ k. (figure_at c.args.figures.now t k).units) budget in
    let second = c.units_at-then-units_at-from.ensures ∙ ap (λ xs. (get_or xs c.unwrap_or-times.result nothing).units) (c.as_slice-then-units_at-from.ensures ∙ row) ∙ ap (λ k. (figure_at c.args.figures.now t k).units) times in
    let at_budget : (figure_at c.args.figures.now t (column_named (codes "budget") c.args.columns.now.headers)).units ≡ c.args.j + 1 = sym first ∙ c.if-units_at-from.true ∙ ap (λ (n : ℕ). n + 1) c.from.ensures in
    let some : 0 < (figure_at c.args.figures.now t (column_named (codes "n") c.args.columns.now.headers)).units = subst (λ (n : ℕ). 0 < n) second c.if-units_at-gt0.true in
    let here = (Decides-eqb (figure_at c.args.figures.now t (column_named (codes "budget") c.args.columns.now.headers)).units (c.args.j + 1)).1 at_budget in
    sym (one_holds (λ s. ((figure_at c.args.figures.now s (column_named (codes "budget") c.args.columns.now.headers)).units == c.args.j + 1) && nat_lt 0 (figure_at c.args.figures.now s (column_named (codes "n") c.args.columns.now.headers)).units)
    t (length c.args.figures.now) c.loop-row-test.true (rw (here, over_zero (figure_at c.args.figures.now t (column_named (codes "n") c.args.columns.now.headers)).units some) refl))

pub returns : goal.returns
unfolding is_chosen
returns c =
    let all : c.loop-row.row-index ≡ length c.args.figures.now = omega arith in
    sym (subst (λ (n : ℕ). any_below n (λ s. ((figure_at c.args.figures.now s (column_named (codes "budget") c.args.columns.now.headers)).units == c.args.j + 1) && nat_lt 0 (figure_at c.args.figures.now s (column_named (codes "n") c.args.columns.now.headers)).units) ≡ false) all c.loop-row.invariant)
