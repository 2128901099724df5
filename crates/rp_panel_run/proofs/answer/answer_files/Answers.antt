use Rattle.std.proofs.Common.{◌≤◌, ◌+◌, List, ℕ, Option, length, sym, subst}
use Rattle.rp_front.specs.Turns.{AsksForFirst}
use Rattle.rp_limits.specs.declared.long.TheConstants.{BYTES}
use Rattle.rp_panel_run.specs.Front.{panels}
use Rattle.rp_panel_run.specs.Turns.{calls_of_new}
use Rattle.rp_panel_run.proofs.CauseLemmas.{cause_of_files, file_cause, long_held, text_of_files}
use Rattle.rp_panel_run.proofs.TurnLemmas.{both_asked, both_asks, both_turn, long_asked, long_asks, long_turn}
use Rattle.rp_panel_run.proofs.answer.answer_files.Goals as goal

pub returns-in-Ok-clause-written : goal.returns-in-Ok-clause-written
returns-in-Ok-clause-written g c =
    let bytes = g.D.Desk.bytes in
    let faults = g.D.Desk.faults in
    text_of_files c.args.question.now (bytes c.args.desk.now) (bytes c.load_file.new.desk) (faults c.args.desk.now) (faults c.answer_long.new.desk) (faults c.load_file.new.desk)
    _ _ c.in-Ok.long.items c.file.ensures c.as_slice.ensures.value c.in-Ok.ensures.whole c.in-Ok.ensures.bytes_stay c.in-Ok.ensures.counted
    c.answer_long.result c.answer_long.ensures.written

pub returns-in-Ok-clause-caused : goal.returns-in-Ok-clause-caused
returns-in-Ok-clause-caused g c =
    let bytes = g.D.Desk.bytes in
    let faults = g.D.Desk.faults in
    cause_of_files c.args.question.now (bytes c.args.desk.now) (bytes c.load_file.new.desk) (faults c.args.desk.now) (faults c.answer_long.new.desk) (faults c.load_file.new.desk)
    _ _ c.in-Ok.long.items c.file.ensures c.as_slice.ensures.value c.in-Ok.ensures.whole c.in-Ok.ensures.bytes_stay c.in-Ok.ensures.counted
    (AsksForFirst panels (bytes c.args.desk.now) (g.D.Desk.calls c.args.desk.now) (g.D.Desk.calls c.answer_long.new.desk) c.args.question.now)
    c.answer_long.result
    (both_asks c.args.question.now (bytes c.args.desk.now) _ c.file.ensures _ _ _ c.in-Ok.ensures.read_through
    (subst (λ (known : Option (List ℕ)). g.D.Desk.calls c.answer_long.new.desk ≤ g.D.Desk.calls c.load_file.new.desk + calls_of_new c.args.question.now.bounds known)
    (c.in-Ok.ensures.bytes_stay c.args.question.now.new_prices) c.answer_long.ensures.asks.calls))
    c.answer_long.ensures.caused

pub returns-in-Ok-clause-turns : goal.returns-in-Ok-clause-turns
returns-in-Ok-clause-turns g c =
    let a = c.args.question.now in
    let bytes = g.D.Desk.bytes in
    let faults = g.D.Desk.faults in
    let held = long_held a (bytes c.args.desk.now) (bytes c.load_file.new.desk) (faults c.args.desk.now) (faults c.answer_long.new.desk) (faults c.load_file.new.desk)
    _ _ c.in-Ok.long.items c.file.ensures c.as_slice.ensures.value c.in-Ok.ensures.whole c.in-Ok.ensures.bytes_stay c.in-Ok.ensures.counted in
    let few = subst (λ (bs : List ℕ). length bs ≤ BYTES) (sym c.as_slice.ensures.value) c.in-Ok.ensures.few in
    both_turn a (bytes c.args.desk.now) _ c.file.ensures (bytes c.load_file.new.desk) _ held few (c.in-Ok.ensures.bytes_stay a.new_prices)
    _ _ _ _ _ c.in-Ok.ensures.read_through c.answer_long.ensures.asks c.answer_long.ensures.stops

pub returns-in-Ok-clause-names : goal.returns-in-Ok-clause-names
returns-in-Ok-clause-names g c =
    let a = c.args.question.now in
    let bytes = g.D.Desk.bytes in
    let faults = g.D.Desk.faults in
    let held = long_held a (bytes c.args.desk.now) (bytes c.load_file.new.desk) (faults c.args.desk.now) (faults c.answer_long.new.desk) (faults c.load_file.new.desk)
    _ _ c.in-Ok.long.items c.file.ensures c.as_slice.ensures.value c.in-Ok.ensures.whole c.in-Ok.ensures.bytes_stay c.in-Ok.ensures.counted in
    let few = subst (λ (bs : List ℕ). length bs ≤ BYTES) (sym c.as_slice.ensures.value) c.in-Ok.ensures.few in
    both_asked a (bytes c.args.desk.now) _ c.file.ensures (bytes c.load_file.new.desk) _ held few (c.in-Ok.ensures.bytes_stay a.new_prices)
    _ _ _ _ _ c.in-Ok.ensures.asks_once c.answer_long.ensures.asks c.answer_long.ensures.stops

pub returns-in-Err-clause-caused : goal.returns-in-Err-clause-caused
returns-in-Err-clause-caused g c =
    file_cause c.args.question.now (g.D.Desk.bytes c.args.desk.now) (g.D.Desk.faults c.args.desk.now) (g.D.Desk.faults c.load_file.new.desk)
    (AsksForFirst panels (g.D.Desk.bytes c.args.desk.now) (g.D.Desk.calls c.args.desk.now) (g.D.Desk.calls c.load_file.new.desk) c.args.question.now)
    _ c.in-Err.cause c.file.ensures (long_asks c.args.question.now (g.D.Desk.bytes c.args.desk.now) _ c.file.ensures _ _ c.in-Err.ensures.read_through) c.in-Err.ensures.caused

pub returns-in-Err-clause-turns : goal.returns-in-Err-clause-turns
returns-in-Err-clause-turns g c =
    long_turn c.args.question.now (g.D.Desk.bytes c.args.desk.now) _ c.file.ensures _ _ c.in-Err.ensures.read_through

pub returns-in-Err-clause-names : goal.returns-in-Err-clause-names
returns-in-Err-clause-names g c =
    long_asked c.args.question.now (g.D.Desk.bytes c.args.desk.now) _ c.file.ensures _ _ c.in-Err.ensures.asks_at_most_once
