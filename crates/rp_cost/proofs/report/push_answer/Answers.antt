use Rattle.std.proofs.Common.{◌≡◌, ◌++◌, ℕ, List, Option, Some, None, append_assoc, length, refl, slice_get, slice_index}
use Rattle.std.proofs.lemmas.Option.{slice_get_past, slice_get_read}
use Rattle.std.proofs.lemmas.Result.{IfOk-equal}
use Rattle.rp_table.specs.Rows.{row_of}
use Rattle.rp_cost.specs.AskedOutputs.{AskedOutputs}
use Rattle.rp_cost.specs.Report.{answer_text, asked_text, found_text}
use Rattle.rp_cost.specs.declared.bounds.CostBounds.{CostBounds}
use Rattle.rp_cost.proofs.report.push_answer.Goals as goal

-- what is asked, and then what was found
in_two : (asked : AskedOutputs) (bounds : List CostBounds) (i : ℕ) (found : Option CostBounds) (old middle row : List ℕ) (y : ℕ) → slice_get bounds i ≡ found
    → row ≡ row_of asked.prices.prices asked.prices.goods i → y ≡ slice_index asked.y i → middle ≡ old ++ asked_text row y
    → middle ++ found_text found ≡ old ++ answer_text asked bounds i
in_two asked bounds i found old middle row y at same made begun = rw (begun, same, made, ← at) (append_assoc old _ _)

pub returns-in-Some : goal.returns-in-Some
returns-in-Some c =
    let a = c.args in
    let there = rw c.in-Some.is at c.get.ensures.lookup in
    let at : slice_get a.bounds.now a.i ≡ Some c.in-Some.found.now = slice_get_read a.bounds.now (length a.bounds.now) a.i c.in-Some.found.now refl there.3.0 there.1 in
    IfOk-equal c.push_found.result c.push_found.new.out.items _ _ c.push_found.ensures
    (in_two a.asked.now a.bounds.now a.i (Some c.in-Some.found.now) a.out.now.items c.push_asked.new.out.items c.row.result.now c.y.result at c.row.ensures.exact c.y.ensures.exact c.in_ok-push_asked.ensures)

pub returns-in-None : goal.returns-in-None
returns-in-None c =
    let a = c.args in
    let there = rw c.in-None.is at c.get.ensures.lookup in
    let at : slice_get a.bounds.now a.i ≡ None = slice_get_past a.bounds.now a.i there.3 in
    IfOk-equal c.push_line.result c.push_line.new.out.items _ _ c.push_line.ensures
    (in_two a.asked.now a.bounds.now a.i None a.out.now.items c.push_asked.new.out.items c.row.result.now c.y.result at c.row.ensures.exact c.y.ensures.exact c.in_ok-push_asked.ensures)
