use Rattle.std.proofs.Common.{◌≡◌, List, ℕ, None, Some, map, string_bytes, subst}
use Rattle.rp_guide.specs.Pages.{wide_page}
use Rattle.rp_run_wide.specs.Helping.{GivesPage}
use Rattle.rp_run_wide.proofs.helping.run_wide_with_help.Goals as goal

pub returns-in-Some-clause-page : goal.returns-in-Some-clause-page
returns-in-Some-clause-page g c = λ text is.
    let asked : Some c.in-Some.text.now ≡ wide_page (map string_bytes c.args.words.now.items) = rw c.as_slice.ensures.value at c.in-Some.ensures in
    let same : c.in-Some.text.now ≡ text = cc in
    subst (λ (t : List ℕ). GivesPage t c.answer_page.result
    (record {
      old = g.O.Sink.written c.args.out.now;
      new = g.O.Sink.written c.answer_page.new.out;
      before = g.O.Sink.faults c.args.out.now;
      after = g.O.Sink.faults c.answer_page.new.out;
    })
    (record {
      old = g.E.Sink.written c.args.err.now;
      new = g.E.Sink.written c.answer_page.new.err;
      before = g.E.Sink.faults c.args.err.now;
      after = g.E.Sink.faults c.answer_page.new.err;
    })) same c.answer_page.ensures

pub returns-in-Some-clause-answers : goal.returns-in-Some-clause-answers
returns-in-Some-clause-answers g c = λ none.
    let asked : Some c.in-Some.text.now ≡ wide_page (map string_bytes c.args.words.now.items) = rw c.as_slice.ensures.value at c.in-Some.ensures in
    absurd cc
