use Rattle.std.proofs.Common.{◌∙◌}
use Rattle.std.proofs.lemmas.Int.{to_z-of_z}
use mir.Syntax.{w32}
use Rattle.rp_c.proofs.rp_panel.Goals as goal

pub returns : goal.returns
returns c =
    let read = to_z-of_z w32 c.number.result (record { sfits = c.number.type_inv }) in
    (c.answer_panel.result, read ∙ c.number.ensures, c.answer_panel.ensures.ends, c.answer_panel.ensures.decided, c.answer_panel.ensures.never_rejected)
