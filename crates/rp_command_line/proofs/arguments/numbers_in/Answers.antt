use Rattle.std.proofs.Common.{◌∙◌, ℕ, List, Some, ap, sym, []}
use Rattle.clap.specs.Words.{found_of, rows_of}
use Rattle.rp_command_line.specs.Named.{named_number}
use Rattle.rp_command_line.specs.Words.{number_of}
use Rattle.rp_command_line.proofs.WordLoops.{missing_at, read_at}
use Rattle.rp_command_line.proofs.arguments.numbers_in.Goals as goal

pub returns-in-None : goal.returns-in-None
returns-in-None c =
    sym (missing_at number_of (rows_of (found_of c.args.matches.now)) named_number c.args.numbers.now c.loop-number.number-index (record { name = record { ref_ptr = (0, 0); now = [] }; least = 0; most = 0 }) c.loop-number-test.true (sym c.in-None.ensures.exact))

pub loop-number-preserved : goal.loop-number-preserved
loop-number-preserved c =
    read_at number_of (rows_of (found_of c.args.matches.now)) named_number c.args.numbers.now c.loop-number.number-index (record { name = record { ref_ptr = (0, 0); now = [] }; least = 0; most = 0 }) c.loop-number-test.true
    c.loop-number.all.items c.in-Some.value c.loop-number.invariant (sym c.in-Some.ensures.exact) ∙ ap (λ (all : List ℕ). Some all) (sym c.in_ok-push-in-Some.ensures.items)
