use Rattle.rp_frame.specs.Frames.{frame_of}
use Rattle.rp_front_call.proofs.DecidedFacts.{decided}
use Rattle.rp_front_call.proofs.calling.answer_call.Goals as goal

pub returns-in-Ok-clause-decided : goal.returns-in-Ok-clause-decided
returns-in-Ok-clause-decided g c =
    decided g.P.CalledProgram.meaning g.met.P.CalledProgram.answers_accepted g.met.P.CalledProgram.never_both (frame_of c.args.words.now c.args.names.now c.args.sizes.now c.args.bytes.now) c.in-Ok.texts.ending
    c.in-Ok.texts.output.items c.in-Ok.texts.told.items c.in-Ok.ensures
