use Rattle.std.proofs.Common.{ℕ, ◌∙◌, ap}
use Rattle.std.specs.Prelude.{option_and_then}
use Rattle.clap.specs.Matches.{found_of, one_text}
use Rattle.clap.proofs.WalkLemmas.{one_text-rows}
use Rattle.rp_command_line.specs.Named.{named_number}
use Rattle.rp_command_line.specs.Words.{number_in}
use Rattle.rp_command_line.proofs.WordLemmas.{number_given, number_refused}
use Rattle.rp_command_line.proofs.arguments.number_of.Goals as goal

pub returns-in-Some-clause-exact : goal.returns-in-Some-clause-exact
returns-in-Some-clause-exact c =
    let found = found_of c.args.matches.now in
    let read = c.in-Some.ensures in
    c.in_range.ensures
    ∙ number_given ℕ (named_number c.args.number.now) (one_text found c.args.number.now.name.now) c.in-Some.value read.none (λ t is. (read.value t is).0)
    ∙ ap (option_and_then (number_in (named_number c.args.number.now))) (one_text-rows found c.args.number.now.name.now)

pub returns-in-None-clause-exact : goal.returns-in-None-clause-exact
returns-in-None-clause-exact c =
    let found = found_of c.args.matches.now in
    let read = c.in-None.ensures in
    number_refused _ (named_number c.args.number.now) (one_text found c.args.number.now.name.now) (λ t is. let failed = read.value t is in (failed.0, failed.1.0))
    ∙ ap (option_and_then (number_in (named_number c.args.number.now))) (one_text-rows found c.args.number.now.name.now)
