use Rattle.std.proofs.Common.{◌∙◌}
use Rattle.std.proofs.lemmas.Int.{to_z-of_z}
use mir.Syntax.{w32}
use Rattle.rp_c.proofs.rp_files.Goals as goal

pub returns-then-asks_fit-clause-names_on_fit : goal.returns-then-asks_fit-clause-names_on_fit
returns-then-asks_fit-clause-names_on_fit c = λ _.
    let read = to_z-of_z w32 c.number.result (record { sfits = c.number.type_inv }) in
    (c.name_fit_files.result, read ∙ c.number.ensures, c.name_fit_files.ensures)
