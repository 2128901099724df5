use Rattle.std.proofs.Common.{◌<◌, ◌≤◌, [], length, map, string_bytes, sym, ap, ◌∙◌, arith}
use Rattle.std.specs.Prelude.{option_and_then}
use Rattle.std.proofs.lemmas.List.{get_or-map, length-map}
use Rattle.rp_panel_run.specs.Questions.{asking_in, where_whole}
use Rattle.rp_panel_run.proofs.WordLemmas.{no_more, no_word, not_taken, not_whole, was_taken, whole, word_more}
use Rattle.rp_panel_run.proofs.words.read_words.Goals as goal

pub returns-then-not-taken : goal.returns-then-not-taken
unfolding asking_in
returns-then-not-taken c =
    let words = map string_bytes c.args.words.now in
    let within : c.loop-i.i < length words = omega (arith, length-map c.args.words.now string_bytes, c.loop-i-test.true) in
    let text = c.as_str.ensures.value ∙ ap string_bytes c.index-words-i.is ∙ sym (get_or-map string_bytes c.args.words.now c.loop-i.i c.index-words-i.result [] c.loop-i-test.true) in
    let none = no_word c.loop-i.question c.as_str.result.now c.loop-i.i words within text (not_taken c.in_ok-taken.taken _ c.take.new.self c.in_ok-taken.ensures c.if-not-taken.true) in
    sym (ap (option_and_then where_whole) (sym c.loop-i.invariant ∙ none))

pub loop-i-preserved : goal.loop-i-preserved
loop-i-preserved c =
    let words = map string_bytes c.args.words.now in
    let within : c.loop-i.i < length words = omega (arith, length-map c.args.words.now string_bytes, c.loop-i-test.true) in
    let text = c.as_str.ensures.value ∙ ap string_bytes c.index-words-i.is ∙ sym (get_or-map string_bytes c.args.words.now c.loop-i.i c.index-words-i.result [] c.loop-i-test.true) in
    word_more c.loop-i.question c.take.new.self c.as_str.result.now c.loop-i.i words within text (was_taken c.in_ok-taken.taken _ c.take.new.self c.in_ok-taken.ensures c.if-not-taken.false) ∙ c.loop-i.invariant

pub returns-then-is_whole : goal.returns-then-is_whole
unfolding asking_in
returns-then-is_whole c =
    let words = map string_bytes c.args.words.now in
    let past : length words ≤ c.loop-i.i = omega (arith, length-map c.args.words.now string_bytes, c.loop-i-test.false) in
    sym (ap (option_and_then where_whole) (sym c.loop-i.invariant ∙ no_more c.loop-i.question c.loop-i.i words past) ∙ whole c.loop-i.question (sym c.is_whole.ensures ∙ c.if-is_whole.true))

pub returns : goal.returns
unfolding asking_in
returns c =
    let words = map string_bytes c.args.words.now in
    let past : length words ≤ c.loop-i.i = omega (arith, length-map c.args.words.now string_bytes, c.loop-i-test.false) in
    sym (ap (option_and_then where_whole) (sym c.loop-i.invariant ∙ no_more c.loop-i.question c.loop-i.i words past) ∙ not_whole c.loop-i.question (sym c.is_whole.ensures ∙ c.if-is_whole.false))
