use Rattle.std.proofs.Common.{◌≡◌, List, ℕ, Some, map, string_bytes, subst}
use Rattle.rp_guide.specs.Pages.{panel_page}
use Rattle.rp_panel_run.specs.Endings.{GivesPage}
use Rattle.rp_panel_run.proofs.helping.run_panel_with_help.Goals as goal

pub returns-in-Some-clause-page : goal.returns-in-Some-clause-page
returns-in-Some-clause-page g c = λ text is.
    let asked : Some c.in-Some.text.now ≡ panel_page (map string_bytes c.args.words.now.items) = rw c.as_slice.ensures.value at c.in-Some.ensures in
    let same : c.in-Some.text.now ≡ text = cc in
    subst (λ (t : List ℕ). GivesPage t c.answer_page.result
    (record {
      old = g.O.Sink.written c.args.out.now;
      new = g.O.Sink.written c.answer_page.new.out;
      before = g.O.Sink.faults c.args.out.now;
      after = g.O.Sink.faults c.answer_page.new.out;
    })
    (record {
      old = g.E.Sink.written c.args.err.now;
      new = g.E.Sink.written c.answer_page.new.err;
      before = g.E.Sink.faults c.args.err.now;
      after = g.E.Sink.faults c.answer_page.new.err;
    })) same c.answer_page.ensures

pub returns-in-Some-clause-usage : goal.returns-in-Some-clause-usage
returns-in-Some-clause-usage g c = λ none.
    let asked : Some c.in-Some.text.now ≡ panel_page (map string_bytes c.args.words.now.items) = rw c.as_slice.ensures.value at c.in-Some.ensures in
    absurd cc

pub returns-in-Some-clause-asked : goal.returns-in-Some-clause-asked
returns-in-Some-clause-asked g c = λ none.
    let asked : Some c.in-Some.text.now ≡ panel_page (map string_bytes c.args.words.now.items) = rw c.as_slice.ensures.value at c.in-Some.ensures in
    absurd cc

pub returns-in-Some-clause-written : goal.returns-in-Some-clause-written
returns-in-Some-clause-written g c = λ none.
    let asked : Some c.in-Some.text.now ≡ panel_page (map string_bytes c.args.words.now.items) = rw c.as_slice.ensures.value at c.in-Some.ensures in
    absurd cc

pub returns-in-Some-clause-cut_short : goal.returns-in-Some-clause-cut_short
returns-in-Some-clause-cut_short g c = λ none.
    let asked : Some c.in-Some.text.now ≡ panel_page (map string_bytes c.args.words.now.items) = rw c.as_slice.ensures.value at c.in-Some.ensures in
    absurd cc

pub returns-in-Some-clause-silent : goal.returns-in-Some-clause-silent
returns-in-Some-clause-silent g c = λ none.
    let asked : Some c.in-Some.text.now ≡ panel_page (map string_bytes c.args.words.now.items) = rw c.as_slice.ensures.value at c.in-Some.ensures in
    absurd cc

pub returns-in-Some-clause-refused : goal.returns-in-Some-clause-refused
returns-in-Some-clause-refused g c = λ none.
    let asked : Some c.in-Some.text.now ≡ panel_page (map string_bytes c.args.words.now.items) = rw c.as_slice.ensures.value at c.in-Some.ensures in
    absurd cc

pub returns-in-Some-clause-read_fault : goal.returns-in-Some-clause-read_fault
returns-in-Some-clause-read_fault g c = λ none.
    let asked : Some c.in-Some.text.now ≡ panel_page (map string_bytes c.args.words.now.items) = rw c.as_slice.ensures.value at c.in-Some.ensures in
    absurd cc

pub returns-in-Some-clause-no_memory : goal.returns-in-Some-clause-no_memory
returns-in-Some-clause-no_memory g c = λ none.
    let asked : Some c.in-Some.text.now ≡ panel_page (map string_bytes c.args.words.now.items) = rw c.as_slice.ensures.value at c.in-Some.ensures in
    absurd cc

pub returns-in-Some-clause-complete : goal.returns-in-Some-clause-complete
returns-in-Some-clause-complete g c = λ none.
    let asked : Some c.in-Some.text.now ≡ panel_page (map string_bytes c.args.words.now.items) = rw c.as_slice.ensures.value at c.in-Some.ensures in
    absurd cc

pub returns-in-Some-clause-refuses : goal.returns-in-Some-clause-refuses
returns-in-Some-clause-refuses g c = λ none.
    let asked : Some c.in-Some.text.now ≡ panel_page (map string_bytes c.args.words.now.items) = rw c.as_slice.ensures.value at c.in-Some.ensures in
    absurd cc

pub returns-in-Some-clause-turns : goal.returns-in-Some-clause-turns
returns-in-Some-clause-turns g c = λ none.
    let asked : Some c.in-Some.text.now ≡ panel_page (map string_bytes c.args.words.now.items) = rw c.as_slice.ensures.value at c.in-Some.ensures in
    absurd cc

pub returns-in-Some-clause-names : goal.returns-in-Some-clause-names
returns-in-Some-clause-names g c = λ none.
    let asked : Some c.in-Some.text.now ≡ panel_page (map string_bytes c.args.words.now.items) = rw c.as_slice.ensures.value at c.in-Some.ensures in
    absurd cc

pub returns-in-Some-clause-bytes_stay : goal.returns-in-Some-clause-bytes_stay
returns-in-Some-clause-bytes_stay g c = λ none.
    let asked : Some c.in-Some.text.now ≡ panel_page (map string_bytes c.args.words.now.items) = rw c.as_slice.ensures.value at c.in-Some.ensures in
    absurd cc

pub returns-in-Some-clause-files_counts : goal.returns-in-Some-clause-files_counts
returns-in-Some-clause-files_counts g c = λ none.
    let asked : Some c.in-Some.text.now ≡ panel_page (map string_bytes c.args.words.now.items) = rw c.as_slice.ensures.value at c.in-Some.ensures in
    absurd cc

pub returns-in-Some-clause-out_counts : goal.returns-in-Some-clause-out_counts
returns-in-Some-clause-out_counts g c = λ none.
    let asked : Some c.in-Some.text.now ≡ panel_page (map string_bytes c.args.words.now.items) = rw c.as_slice.ensures.value at c.in-Some.ensures in
    absurd cc

pub returns-in-Some-clause-err_counts : goal.returns-in-Some-clause-err_counts
returns-in-Some-clause-err_counts g c = λ none.
    let asked : Some c.in-Some.text.now ≡ panel_page (map string_bytes c.args.words.now.items) = rw c.as_slice.ensures.value at c.in-Some.ensures in
    absurd cc
