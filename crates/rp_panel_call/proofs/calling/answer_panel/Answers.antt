use Rattle.rp_frame.specs.Frames.{frame_of}
use Rattle.rp_panel_call.proofs.FrontFacts.{never_rejected}
use Rattle.rp_panel_call.proofs.calling.answer_panel.Goals as goal

pub returns-clause-never_rejected : goal.returns-clause-never_rejected
returns-clause-never_rejected c =
    never_rejected (frame_of c.args.words.now c.args.names.now c.args.sizes.now c.args.bytes.now) c.answer_call.result _ _ _ _ _ _ c.answer_call.ensures.ends
