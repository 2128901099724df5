use Rattle.std.proofs.Common.{Some, map, string_bytes}
use Rattle.rp_panel_run.specs.Questions.{asking_in}
use Rattle.rp_panel_call.proofs.FrontFacts.{unread_risen, why_front, words_front, written_front}
use Rattle.rp_panel_call.proofs.calling.PanelsCalledProgram.run.Goals as goal

pub returns-clause-words : goal.returns-clause-words
returns-clause-words c =
    rw (c.front_status.ensures) (words_front (asking_in (map string_bytes c.args.words.now.items)) c.run_panel.result (λ is. (c.run_panel.ensures.usage is).0) c.run_panel.ensures.asked)

pub returns-clause-written : goal.returns-clause-written
returns-clause-written c =
    rw (c.front_status.ensures) (written_front _ (asking_in (map string_bytes c.args.words.now.items)) _ _ c.run_panel.result c.run_panel.ensures.written c.run_panel.ensures.cut_short c.run_panel.ensures.silent)

pub returns-clause-why : goal.returns-clause-why
returns-clause-why c =
    rw (c.front_status.ensures) (why_front _ (asking_in (map string_bytes c.args.words.now.items)) (record {
      old = Some c.args.err.now.written;
      new = Some c.run_panel.new.err.written;
      before = c.args.err.now.faults;
      after = c.run_panel.new.err.faults;
    }) _ c.run_panel.result c.run_panel.ensures.usage c.run_panel.ensures.refused
    (λ is. (let why = c.run_panel.ensures.read_fault is in unread_risen why.0 _ why.1 why.3)) c.run_panel.ensures.no_memory)
