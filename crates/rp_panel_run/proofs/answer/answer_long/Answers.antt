use Rattle.std.proofs.Common.{refl}
use Rattle.rp_outside.specs.Faults.{HasRisen}
use Rattle.rp_panel_run.proofs.CauseLemmas.{cause_of_bytes, cause_of_new, not_faulty, text_of_bytes}
use Rattle.rp_panel_run.proofs.TurnLemmas.{none_for_new}
use Rattle.rp_panel_run.proofs.answer.answer_long.Goals as goal

pub returns-in_err-records-clause-asks : goal.returns-in_err-records-clause-asks
returns-in_err-records-clause-asks g c = none_for_new _ _ _ _ _

pub returns-in_err-records-clause-stops : goal.returns-in_err-records-clause-stops
returns-in_err-records-clause-stops g c = λ _. record { calls = refl; names = λ reads is. is }

pub returns-in-Ok-clause-written : goal.returns-in-Ok-clause-written
returns-in-Ok-clause-written g c =
    let a = c.args.question.now in
    text_of_bytes a c.args.long.now c.in_ok-records.records c.requires c.in_ok-records.ensures (g.D.Desk.bytes c.args.desk.now a.new_prices) c.in-Ok.panel c.answer_beside.result
    c.in-Ok.ensures.denoted c.answer_beside.ensures.written

pub returns-in-Ok-clause-caused : goal.returns-in-Ok-clause-caused
returns-in-Ok-clause-caused g c =
    let a = c.args.question.now in
    let rose = HasRisen (g.D.Desk.faults c.args.desk.now a.new_prices) (g.D.Desk.faults c.answer_beside.new.desk a.new_prices) in
    cause_of_new a c.args.long.now c.in_ok-records.records c.requires c.in_ok-records.ensures (g.D.Desk.bytes c.args.desk.now a.new_prices) rose c.in-Ok.panel c.answer_beside.result
    c.in-Ok.ensures.denoted c.answer_beside.ensures.caused

pub returns-in-Ok-clause-stops : goal.returns-in-Ok-clause-stops
returns-in-Ok-clause-stops g c = λ faulty.
    absurd (not_faulty c.args.question.now c.args.long.now c.in_ok-records.records c.requires c.in_ok-records.ensures c.in-Ok.panel faulty.0 c.in-Ok.ensures.denoted faulty.1)

pub returns-clause-caused : goal.returns-clause-caused
returns-clause-caused g c =
    let a = c.args.question.now in
    let rose = HasRisen (g.D.Desk.faults c.args.desk.now a.new_prices) (g.D.Desk.faults c.args.desk.now a.new_prices) in
    cause_of_bytes a c.args.long.now c.in_ok-records.records c.requires c.in_ok-records.ensures (g.D.Desk.bytes c.args.desk.now a.new_prices) rose c.in-Err.cause c.in-Err.ensures.refused

pub returns-clause-asks : goal.returns-clause-asks
returns-clause-asks g c = none_for_new _ _ _ _ _

pub returns-clause-stops : goal.returns-clause-stops
returns-clause-stops g c = λ _. record { calls = refl; names = λ reads is. is }
