use Rattle.std.proofs.Common.{ℕ, ◌∙◌, List, [], ◌∷◌, ◌++◌, map, string_bytes, ap, arith}
use Rattle.std.proofs.lemmas.List.{map-append}
use Rattle.rp_frame.proofs.TextLemmas.{no_text, text_all, text_more, words_more}
use Rattle.rp_frame.proofs.texts.words_of.Goals as goal

pub returns-in_default-clause-none : goal.returns-in_default-clause-none
returns-in_default-clause-none c =
    no_text c.args.pieces.now c.loop-piece.piece-index c.loop-piece-test.true c.in_default.ensures.cases.0

pub loop-piece-preserved : goal.loop-piece-preserved
loop-piece-preserved c =
    let pieces = c.args.pieces.now in
    let i = c.loop-piece.piece-index in
    let before = c.loop-piece-test.true in
    let texts = map string_bytes c.loop-piece.words.items in
    let string = c.in_ok-from_str-2.field-0 in (
      ap (map string_bytes) c.in_ok-push-2.ensures.items ∙ map-append string_bytes c.loop-piece.words.items (string ∷ [])
          ∙ ap (λ (text : List ℕ). texts ++ text ∷ []) (c.in_ok-from_str-2.ensures.ok ∙ c.in-Ok.ensures.cases.0)
          ∙ words_more texts pieces i before c.loop-piece.invariant.0,
      text_more pieces i before c.loop-piece.invariant.1 c.in-Ok.ensures.cases.1,
    )

pub returns-clause-all : goal.returns-clause-all
returns-clause-all c =
    text_all c.args.pieces.now c.loop-piece.piece-index (omega (arith, c.loop-piece-test.false)) c.loop-piece.invariant.1
