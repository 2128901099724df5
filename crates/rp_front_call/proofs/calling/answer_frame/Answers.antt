use Rattle.rp_frame.specs.Frames.{frame_of}
use Rattle.rp_front_call.proofs.GivenFacts.{frame_ends}
use Rattle.rp_front_call.proofs.calling.answer_frame.Goals as goal

pub returns-in-Ok : goal.returns-in-Ok
returns-in-Ok g c =
    frame_ends g.P.CalledProgram.meaning (frame_of c.args.words.now c.args.names.now c.args.sizes.now c.args.bytes.now) c.in-Ok.handed c.answer_handed.result
    c.in-Ok.ensures.held c.answer_handed.ensures
