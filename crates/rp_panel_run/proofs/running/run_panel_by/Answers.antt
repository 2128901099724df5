use Rattle.rp_panel_run.proofs.FrontLemmas.{accepted_front, asked_own, cut_own, end_own, memory_own, names_asked, no_rejection, read_own, refusal_own, refused_front, refused_own, silent_own, turns_asked, usage_own, written_own}
use Rattle.rp_panel_run.proofs.running.run_panel_by.Goals as goal

pub returns-clause-usage : goal.returns-clause-usage
returns-clause-usage g c = usage_own _ _ _ _ _ _ _ _ _ c.own_status.ensures c.run_program.ensures.words c.run_program.ensures.written c.run_program.ensures.why

pub returns-clause-asked : goal.returns-clause-asked
returns-clause-asked g c = asked_own _ _ _ _ _ _ _ _ _ c.own_status.ensures c.run_program.ensures.words c.run_program.ensures.written c.run_program.ensures.why

pub returns-clause-written : goal.returns-clause-written
returns-clause-written g c = written_own _ _ _ _ _ _ _ _ _ c.own_status.ensures c.run_program.ensures.words c.run_program.ensures.written c.run_program.ensures.why

pub returns-clause-cut_short : goal.returns-clause-cut_short
returns-clause-cut_short g c = cut_own _ _ _ _ _ _ _ _ _ c.own_status.ensures c.run_program.ensures.words c.run_program.ensures.written c.run_program.ensures.why

pub returns-clause-silent : goal.returns-clause-silent
returns-clause-silent g c = silent_own _ _ _ _ _ _ _ _ _ c.own_status.ensures c.run_program.ensures.words c.run_program.ensures.written c.run_program.ensures.why

pub returns-clause-refused : goal.returns-clause-refused
returns-clause-refused g c = refused_own _ _ _ _ _ _ _ _ _ c.own_status.ensures c.run_program.ensures.words c.run_program.ensures.written c.run_program.ensures.why

pub returns-clause-no_memory : goal.returns-clause-no_memory
returns-clause-no_memory g c = memory_own _ _ _ _ _ _ _ _ _ c.own_status.ensures c.run_program.ensures.words c.run_program.ensures.written c.run_program.ensures.why

pub returns-clause-read_fault : goal.returns-clause-read_fault
returns-clause-read_fault g c = read_own _ _ _ _ _ _ _ _ _ c.own_status.ensures c.run_program.ensures.why

pub returns-clause-complete : goal.returns-clause-complete
returns-clause-complete g c = λ a is accepted calm none.
    end_own _ _ _ _ _ _ _ _ _ c.own_status.ensures c.run_program.ensures.words c.run_program.ensures.written c.run_program.ensures.why
    (c.run_program.ensures.complete a is (accepted_front a (g.D.Desk.bytes c.args.desk.now) accepted) calm none)

pub returns-clause-refuses : goal.returns-clause-refuses
returns-clause-refuses g c = λ a is refused calm.
    refusal_own _ _ _ _ _ _ _ _ _ c.own_status.ensures c.run_program.ensures.words c.run_program.ensures.written c.run_program.ensures.why
    (c.run_program.ensures.refused a is (refused_front a (g.D.Desk.bytes c.args.desk.now) refused) calm)

pub returns-clause-turns : goal.returns-clause-turns
returns-clause-turns g c = turns_asked c.args.hints _ _ _ _ c.run_program.ensures.turns

pub returns-clause-names : goal.returns-clause-names
returns-clause-names g c = names_asked c.args.hints _ _ _ _ c.run_program.ensures.names

pub own_status-requires : goal.own_status-requires
own_status-requires g c = no_rejection _ _ _ _ _ _ c.run_program.ensures.written
