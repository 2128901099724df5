use Rattle.std.proofs.Common.{◌≡◌, ◌∙◌, Some, None, map, string_bytes, refl, sym, subst, inl, inr}
use Rattle.rp_command_line.specs.Words.{line_in}
use Rattle.rp_command_line.specs.Named.{named_line}
use Rattle.rp_commands.specs.Endings.{IsEnd, IsFaultLineBy, Rose}
use Rattle.rp_commands.specs.FaultLines.{write_line}
use Rattle.rp_commands.specs.AskedInTurn.{AreAskedInTurn}
use Rattle.rp_commands.specs.Turns.{AreReadInTurn, AsksForFirst}
use Rattle.rp_commands.proofs.AskedLemmas.{unasked}
use Rattle.rp_commands.proofs.TurnLemmas.{unread}
use Rattle.rp_command_line.proofs.MatchesNameALine.{refused_where_no_line}
use Rattle.rp_commands.proofs.RunLemmas.{answer_written, answered_words, cause_of_accepted, cause_of_calm, done_line_apart, line_ends, line_rejected, no_usage, not_both, rejected_line_apart}
use Rattle.rp_command_line.proofs.ShapeLemmas.{shape_given}
use Rattle.rp_commands.proofs.running.run_edition.Goals as goal

pub returns-in_default-clause-shapes : goal.returns-in_default-clause-shapes
returns-in_default-clause-shapes g c = λ line name has is. shape_given (map string_bytes c.args.words.now.items) line name has is

pub returns-in_default-asked-clause-shapes : goal.returns-in_default-asked-clause-shapes
returns-in_default-asked-clause-shapes g c = λ line name has is. shape_given (map string_bytes c.args.words.now.items) line name has is

pub returns-in_default-asked-clause-refused_by_clap : goal.returns-in_default-asked-clause-refused_by_clap
returns-in_default-asked-clause-refused_by_clap g c = λ _.
    let none : line_in c.args.words.now.items ≡ None = rw (c.in_default-asked.is, c.as_slice.ensures.value) at (sym c.in-Ok.ensures.exact) in
    refused_where_no_line (map string_bytes c.args.words.now.items) none

pub returns-in-Ok-answer_line-clause-shapes : goal.returns-in-Ok-answer_line-clause-shapes
returns-in-Ok-answer_line-clause-shapes g c = λ line name has is. shape_given (map string_bytes c.args.words.now.items) line name has is

pub returns-in-Ok-answer_line-clause-refused : goal.returns-in-Ok-answer_line-clause-refused
returns-in-Ok-answer_line-clause-refused g c = λ line is refused calm.
    let answer = c.in-Ok-answer_line in
    let asked : line_in c.args.words.now.items ≡ Some (named_line c.in-Some.line) = rw (c.in-Some.is, c.as_slice.ensures.value) at (sym c.in-Ok.ensures.exact) in
    elim (not_both g.P.Edition.printed (g.D.Desk.bytes c.args.desk.now) (line_in c.args.words.now.items) (named_line c.in-Some.line) line answer.answer.status answer.answer.text.items asked is answer.ensures.held refused) [ ]

pub returns-clause-shapes : goal.returns-clause-shapes
returns-clause-shapes g c = λ line name has is. shape_given (map string_bytes c.args.words.now.items) line name has is

pub returns-clause-complete : goal.returns-clause-complete
returns-clause-complete g c = λ line is accepted calm _.
    let asked : line_in c.args.words.now.items ≡ Some (named_line c.in-Some.line) = rw (c.in-Some.is, c.as_slice.ensures.value) at (sym c.in-Ok.ensures.exact) in
    let before = g.D.Desk.faults c.args.desk.now in
    let after = g.D.Desk.faults c.answer_line.new.desk in
    let asks = AsksForFirst (g.D.Desk.bytes c.args.desk.now) (g.D.Desk.calls c.args.desk.now) (g.D.Desk.calls c.answer_line.new.desk) in
    inr (rw c.refuse-in-Err.ensures.status (cause_of_accepted g.P.Edition.printed.limits (g.D.Desk.bytes c.args.desk.now) before after asks (line_in c.args.words.now.items) (named_line c.in-Some.line) line c.in-Err.cause asked is accepted calm c.in-Err.ensures.caused))

pub returns-clause-refused : goal.returns-clause-refused
returns-clause-refused g c = λ line is _ calm.
    let asked : line_in c.args.words.now.items ≡ Some (named_line c.in-Some.line) = rw (c.in-Some.is, c.as_slice.ensures.value) at (sym c.in-Ok.ensures.exact) in
    let before = g.D.Desk.faults c.args.desk.now in
    let after = g.D.Desk.faults c.answer_line.new.desk in
    let asks = AsksForFirst (g.D.Desk.bytes c.args.desk.now) (g.D.Desk.calls c.args.desk.now) (g.D.Desk.calls c.answer_line.new.desk) in
    rw c.refuse-in-Err.ensures.status (cause_of_calm g.P.Edition.printed.limits (g.D.Desk.bytes c.args.desk.now) before after asks (line_in c.args.words.now.items) (named_line c.in-Some.line) line c.in-Err.cause asked is calm c.in-Err.ensures.caused)

pub returns-in-Ok-answer_line-clause-written : goal.returns-in-Ok-answer_line-clause-written
returns-in-Ok-answer_line-clause-written g c =
    let answer = c.in-Ok-answer_line in
    let asked : line_in c.args.words.now.items ≡ Some (named_line c.in-Some.line) = rw (c.in-Some.is, c.as_slice.ensures.value) at (sym c.in-Ok.ensures.exact) in
    answer_written g.P.Edition.printed (g.D.Desk.bytes c.args.desk.now) (line_in c.args.words.now.items) (named_line c.in-Some.line) answer.answer.status c.finish.result answer.answer.text.items
    (g.O.Sink.written c.args.out.now) (g.O.Sink.written c.finish.new.out) (g.O.Sink.faults c.args.out.now) (g.O.Sink.faults c.finish.new.out)
    asked answer.ensures.held c.finish.ensures.either (λ ends. (c.finish.ensures.whole ends).0) c.finish.ensures.part

pub returns-in-Ok-answer_line-clause-words : goal.returns-in-Ok-answer_line-clause-words
returns-in-Ok-answer_line-clause-words g c =
    let answer = c.in-Ok-answer_line in
    let asked : line_in c.args.words.now.items ≡ Some (named_line c.in-Some.line) = rw (c.in-Some.is, c.as_slice.ensures.value) at (sym c.in-Ok.ensures.exact) in
    let ends : IsEnd answer.answer.status = line_ends g.P.Edition.printed (g.D.Desk.bytes c.args.desk.now) (named_line c.in-Some.line) answer.answer.status answer.answer.text.items answer.ensures.held in
    answered_words (line_in c.args.words.now.items) (named_line c.in-Some.line) answer.answer.status c.finish.result asked ends c.finish.ensures.either

pub returns-in-Ok-answer_line-clause-refused_by_clap : goal.returns-in-Ok-answer_line-clause-refused_by_clap
returns-in-Ok-answer_line-clause-refused_by_clap g c = λ used none.
    let answer = c.in-Ok-answer_line in
    let ends : IsEnd answer.answer.status = line_ends g.P.Edition.printed (g.D.Desk.bytes c.args.desk.now) (named_line c.in-Some.line) answer.answer.status answer.answer.text.items answer.ensures.held in
    no_usage answer.answer.status c.finish.result ends c.finish.ensures.either used

pub returns-in-Ok-answer_line-clause-verdict : goal.returns-in-Ok-answer_line-clause-verdict
returns-in-Ok-answer_line-clause-verdict g c =
    let answer = c.in-Ok-answer_line in
    let files = g.D.Desk.bytes c.args.desk.now in
    let asked : line_in c.args.words.now.items ≡ Some (named_line c.in-Some.line) = rw (c.in-Some.is, c.as_slice.ensures.value) at (sym c.in-Ok.ensures.exact) in
    record {
      rejected = λ rejected. elim c.finish.ensures.either [
        | inl same ↦ line_rejected g.P.Edition.printed files (line_in c.args.words.now.items) (named_line c.in-Some.line) answer.answer.status answer.answer.text.items asked answer.ensures.held (sym same ∙ rejected)
        | inr fault ↦ (let wrong = sym fault ∙ rejected in absurd cc)
      ];
      never_done = λ line is must done. elim c.finish.ensures.either [
        | inl same ↦ done_line_apart g.P.Edition.printed files (line_in c.args.words.now.items) (named_line c.in-Some.line) line answer.answer.status answer.answer.text.items asked is answer.ensures.held must (sym same ∙ done)
        | inr fault ↦ (let wrong = sym fault ∙ done in cc)
      ];
      never_rejected = λ line is must rejected. elim c.finish.ensures.either [
        | inl same ↦ rejected_line_apart g.P.Edition.printed files (line_in c.args.words.now.items) (named_line c.in-Some.line) line answer.answer.status answer.answer.text.items asked is answer.ensures.held must (sym same ∙ rejected)
        | inr fault ↦ (let wrong = sym fault ∙ rejected in cc)
      ];
    }

pub returns-in-Ok-answer_line-clause-why : goal.returns-in-Ok-answer_line-clause-why
returns-in-Ok-answer_line-clause-why g c =
    let answer = c.in-Ok-answer_line in
    let files = g.D.Desk.bytes c.args.desk.now in
    let ends : IsEnd answer.answer.status = line_ends g.P.Edition.printed files (named_line c.in-Some.line) answer.answer.status answer.answer.text.items answer.ensures.held in
    let rose = Rose (g.D.Desk.faults c.args.desk.now) (g.D.Desk.faults c.answer_line.new.desk) in
    let asks = AsksForFirst files (g.D.Desk.calls c.args.desk.now) (g.D.Desk.calls c.answer_line.new.desk) in
    record {
      quiet = λ ended. (c.finish.ensures.whole ended).1;
      told = λ no_end. elim c.finish.ensures.either [
        | inl same ↦ absurd (no_end (subst IsEnd (sym same) ends))
        | inr fault ↦ (write_line, subst (λ s. IsFaultLineBy g.P.Edition.printed files rose asks (line_in c.args.words.now.items) s write_line) (sym fault) refl, c.finish.ensures.told fault)
      ];
    }

pub returns-in-Ok-answer_line-clause-complete : goal.returns-in-Ok-answer_line-clause-complete
returns-in-Ok-answer_line-clause-complete g c = λ line is accepted calm not_risen.
    let answer = c.in-Ok-answer_line in
    let files = g.D.Desk.bytes c.args.desk.now in
    let ends : IsEnd answer.answer.status = line_ends g.P.Edition.printed files (named_line c.in-Some.line) answer.answer.status answer.answer.text.items answer.ensures.held in
    elim c.finish.ensures.either [
      | inl same ↦ inl (subst IsEnd (sym same) ends)
      | inr fault ↦ absurd (not_risen (c.finish.ensures.part fault).1)
    ]

pub returns-in_default-clause-turns : goal.returns-in_default-clause-turns
returns-in_default-clause-turns g c = record { in_turn = λ line is. unread (g.D.Desk.bytes c.args.desk.now) (g.D.Desk.calls c.args.desk.now) line; none_asked = λ none. refl }

pub returns-in_default-asked-clause-turns : goal.returns-in_default-asked-clause-turns
returns-in_default-asked-clause-turns g c = record { in_turn = λ line is. unread (g.D.Desk.bytes c.args.desk.now) (g.D.Desk.calls c.args.desk.now) line; none_asked = λ none. refl }

pub returns-in-Ok-answer_line-clause-turns : goal.returns-in-Ok-answer_line-clause-turns
returns-in-Ok-answer_line-clause-turns g c =
    let asked : line_in c.args.words.now.items ≡ Some (named_line c.in-Some.line) = rw (c.in-Some.is, c.as_slice.ensures.value) at (sym c.in-Ok.ensures.exact) in
    record {
      in_turn = λ line is. (let same : named_line c.in-Some.line ≡ line = cc in
          subst (λ l. AreReadInTurn (g.D.Desk.bytes c.args.desk.now) (g.D.Desk.calls c.args.desk.now) (g.D.Desk.calls c.answer_line.new.desk) l) same c.in-Ok-answer_line.ensures.reads.in_turn);
      none_asked = λ none. cc;
    }

pub returns-clause-turns : goal.returns-clause-turns
returns-clause-turns g c =
    let asked : line_in c.args.words.now.items ≡ Some (named_line c.in-Some.line) = rw (c.in-Some.is, c.as_slice.ensures.value) at (sym c.in-Ok.ensures.exact) in
    record {
      in_turn = λ line is. (let same : named_line c.in-Some.line ≡ line = cc in
          subst (λ l. AreReadInTurn (g.D.Desk.bytes c.args.desk.now) (g.D.Desk.calls c.args.desk.now) (g.D.Desk.calls c.answer_line.new.desk) l) same c.in-Err.ensures.reads.in_turn);
      none_asked = λ none. cc;
    }

pub returns-in_default-clause-names : goal.returns-in_default-clause-names
returns-in_default-clause-names g c = record { by_name = λ line is. unasked (g.D.Desk.bytes c.args.desk.now) (g.D.Desk.asked c.args.desk.now) line; no_name = λ none reads is. is }

pub returns-in_default-asked-clause-names : goal.returns-in_default-asked-clause-names
returns-in_default-asked-clause-names g c = record { by_name = λ line is. unasked (g.D.Desk.bytes c.args.desk.now) (g.D.Desk.asked c.args.desk.now) line; no_name = λ none reads is. is }

pub returns-in-Ok-answer_line-clause-names : goal.returns-in-Ok-answer_line-clause-names
returns-in-Ok-answer_line-clause-names g c =
    let asked : line_in c.args.words.now.items ≡ Some (named_line c.in-Some.line) = rw (c.in-Some.is, c.as_slice.ensures.value) at (sym c.in-Ok.ensures.exact) in
    record {
      by_name = λ line is. (let same : named_line c.in-Some.line ≡ line = cc in
          subst (λ l. AreAskedInTurn (g.D.Desk.bytes c.args.desk.now) (g.D.Desk.asked c.args.desk.now) (g.D.Desk.asked c.answer_line.new.desk) l) same c.in-Ok-answer_line.ensures.reads.by_name);
      no_name = λ none reads is. cc;
    }

pub returns-clause-names : goal.returns-clause-names
returns-clause-names g c =
    let asked : line_in c.args.words.now.items ≡ Some (named_line c.in-Some.line) = rw (c.in-Some.is, c.as_slice.ensures.value) at (sym c.in-Ok.ensures.exact) in
    record {
      by_name = λ line is. (let same : named_line c.in-Some.line ≡ line = cc in
          subst (λ l. AreAskedInTurn (g.D.Desk.bytes c.args.desk.now) (g.D.Desk.asked c.args.desk.now) (g.D.Desk.asked c.answer_line.new.desk) l) same c.in-Err.ensures.reads.by_name);
      no_name = λ none reads is. cc;
    }

pub finish-requires : goal.finish-requires
finish-requires g c =
    let answer = c.in-Ok-answer_line in
    line_ends g.P.Edition.printed (g.D.Desk.bytes c.args.desk.now) (named_line c.in-Some.line) answer.answer.status answer.answer.text.items answer.ensures.held
