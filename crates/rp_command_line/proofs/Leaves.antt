-- The commands of a program as `clap` builds them, for any forms.
use Rattle.std.proofs.Common.{List, [], ◌∷◌}
use Rattle.clap.specs.Simple.{Shape, built, built_leaf, inherited, marked_built, with_leaf_noted}
use Rattle.rp_command_line.specs.Commands.{command_of, program_of}
use Rattle.rp_command_line.specs.CommandForms.{CommandForm}

-- the command of a form
abbrev pub leaf : CommandForm → Shape
leaf form = built_leaf (inherited (with_leaf_noted (marked_built (program_of (form ∷ [])).top)) (command_of form))

abbrev pub leaves : List CommandForm → List Shape
leaves forms = (built (program_of forms)).subs
