use Rattle.std.proofs.Common.{◌≡◌, None, map, string_bytes, subst, sym, ◌∙◌, ap}
use Rattle.std.specs.Option.{option_map}
use Rattle.std.specs.Prelude.{IfOk}
use Rattle.clap.specs.Simple.{app_of}
use Rattle.clap.specs.Values.{kind_of}
use Rattle.clap.specs.Words.{subcommand_rows_of}
use Rattle.clap.specs.declared.error.kind.ErrorKind.TheVariants.{OutOfMemory}
use Rattle.rp_command_line.specs.Named.{named_line}
use Rattle.rp_command_line.specs.Words.{line_named, denoted_line}
use Rattle.rp_command_line.proofs.MatchesNameALine.{refused_where_no_line}
use Rattle.rp_command_line.proofs.ShapeLemmas.{shape_given}
use Rattle.rp_command_line.proofs.WordLemmas.{ok_then, words_taken, words_refused}
use Rattle.rp_command_line.proofs.line.read_line.Goals as goal

pub returns-in_err-program-clause-shapes : goal.returns-in_err-program-clause-shapes
returns-in_err-program-clause-shapes c = shape_given (map string_bytes c.args.words.now)

pub returns-in-Err-clause-shapes : goal.returns-in-Err-clause-shapes
returns-in-Err-clause-shapes c = shape_given (map string_bytes c.args.words.now)

pub returns-in-Ok-clause-shapes : goal.returns-in-Ok-clause-shapes
returns-in-Ok-clause-shapes c = shape_given (map string_bytes c.args.words.now)

pub returns-in-Ok-clause-exact : goal.returns-in-Ok-clause-exact
returns-in-Ok-clause-exact c =
    let taken = c.in-Ok in
    let words = map string_bytes c.args.words.now in
    ok_then (λ line. option_map named_line line ≡ line_named (subcommand_rows_of taken.matches)) (λ line. option_map named_line line ≡ denoted_line words)
    (λ line is. sym (words_taken (app_of c.in_ok-program.program) words taken.matches (option_map named_line line) c.in_ok-program.ensures taken.ensures.kinds taken.ensures.matches is))
    c.line_named.result c.line_named.ensures.exact

pub returns-in-Ok-clause-refused_by_clap : goal.returns-in-Ok-clause-refused_by_clap
returns-in-Ok-clause-refused_by_clap c = λ is.
    let words = map string_bytes c.args.words.now in
    let none : None ≡ denoted_line words = subst (λ r. IfOk r (λ line. option_map named_line line ≡ denoted_line words)) is (returns-in-Ok-clause-exact c) in
    refused_where_no_line words (sym none)

pub returns-in-Err-clause-exact : goal.returns-in-Err-clause-exact
returns-in-Err-clause-exact c =
    let words = map string_bytes c.args.words.now in
    ok_then (λ line. (line ≡ None) × (kind_of c.in-Err.error ≡ OutOfMemory → ⊥)) (λ line. option_map named_line line ≡ denoted_line words)
    (λ line none. ap (option_map named_line) none.0 ∙ sym (words_refused (app_of c.in_ok-program.program) words c.in-Err.error c.in_ok-program.ensures c.in-Err.ensures.kinds none.1))
    c.no_line.result c.no_line.ensures.none

pub returns-in-Err-clause-refused_by_clap : goal.returns-in-Err-clause-refused_by_clap
returns-in-Err-clause-refused_by_clap c = λ is.
    let words = map string_bytes c.args.words.now in
    let none : None ≡ denoted_line words = subst (λ r. IfOk r (λ line. option_map named_line line ≡ denoted_line words)) is (returns-in-Err-clause-exact c) in
    refused_where_no_line words (sym none)
