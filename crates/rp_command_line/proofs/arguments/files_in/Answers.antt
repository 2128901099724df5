use Rattle.std.proofs.Common.{◌∙◌, ◌∷◌, List, Some, ap, map, sym, []}
use Rattle.std.proofs.lemmas.List.{map-append}
use Rattle.std.specs.Borrow.{Bor}
use Rattle.clap.specs.Walk.{Text, first_of}
use Rattle.clap.specs.Words.{found_of, rows_of}
use Rattle.rp_command_line.proofs.WordLoops.{missing_at, read_at}
use Rattle.rp_command_line.proofs.arguments.files_in.Goals as goal

pub returns-in-None : goal.returns-in-None
returns-in-None c =
    sym (missing_at first_of (rows_of (found_of c.args.matches.now)) (λ (id : Bor Text). id.now) c.args.ids.now c.loop-id.id-index (record { ref_ptr = (0, 0); now = [] }) c.loop-id-test.true (sym c.in-None.ensures))

pub loop-id-preserved : goal.loop-id-preserved
loop-id-preserved c =
    let v = c.in-Some.file.now in
    let read = read_at first_of (rows_of (found_of c.args.matches.now)) (λ (id : Bor Text). id.now) c.args.ids.now c.loop-id.id-index (record { ref_ptr = (0, 0); now = [] }) c.loop-id-test.true
    (map (λ (file : Bor Text). file.now) c.loop-id.files.items) v c.loop-id.invariant (sym c.in-Some.ensures) in
    read ∙ ap (λ (all : List Text). Some all) (sym (ap (map (λ (file : Bor Text). file.now)) c.in_ok-push-in-Some.ensures.items ∙ map-append (λ (file : Bor Text). file.now) c.loop-id.files.items (c.in-Some.file ∷ [])))
