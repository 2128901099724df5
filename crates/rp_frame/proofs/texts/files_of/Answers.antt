use Rattle.std.proofs.Common.{ℕ, ◌≡◌, ◌∙◌, ◌+◌, ◌<◌, List, [], ◌∷◌, ◌++◌, IsUtf8, length, get_or, map, sym, subst, ap, arith}
use Rattle.std.proofs.lemmas.List.{map-append, length-map}
use Rattle.rp_outside.specs.NamedFile.{named_bytes}
use Rattle.rp_frame.proofs.FileLemmas.{IsNamedTo, at_end, one_more}
use Rattle.rp_frame.proofs.TextLemmas.{no_bytes, no_text, shown, shown_at, text_all, text_more}
use Rattle.rp_frame.proofs.texts.files_of.Goals as goal

pub returns-clause-all : goal.returns-clause-all
returns-clause-all c =
    text_all c.args.names.now c.loop-place.place (omega (arith, c.loop-place-test.false)) c.loop-place.invariant.1

pub returns-clause-files : goal.returns-clause-files
returns-clause-files c =
    let names = c.args.names.now in
    let parts = c.args.parts.now in
    let past = c.loop-place-test.false in
    at_end (shown names) (shown parts) c.loop-place.place (map named_bytes c.loop-place.files.items) c.loop-place.invariant.0
    (omega (arith, past, length-map names (λ name. name.now)))
    (omega (arith, past, c.requires, length-map parts (λ part. part.now)))

pub returns-in_default-clause-none : goal.returns-in_default-clause-none
returns-in_default-clause-none c =
    no_text c.args.names.now c.loop-place.place c.loop-place-test.true (rw c.in_default.is at c.in_ok-file.ensures.none)

pub loop-place-preserved : goal.loop-place-preserved
loop-place-preserved c =
    let names = c.args.names.now in
    let parts = c.args.parts.now in
    let i = c.loop-place.place in
    let before : i < length names = c.loop-place-test.true in
    let before' : i < length parts = omega (arith, before, c.requires) in
    let name = (get_or names i no_bytes).now in
    let part = (get_or parts i no_bytes).now in
    let files = map named_bytes c.loop-place.files.items in
    let named : named_bytes c.in-Some.file ≡ (name, part) = rw c.in-Some.is at c.in_ok-file.ensures.file in
    let text : IsUtf8 name = rw c.in-Some.is at c.in_ok-file.ensures.text in
    let pushed : map named_bytes c.push.new.self.items ≡ files ++ (name, part) ∷ [] =
    ap (map named_bytes) c.in_ok-push.ensures.items ∙ map-append named_bytes c.loop-place.files.items (c.in-Some.file ∷ [])
    ∙ ap (λ (file : List ℕ × List ℕ). files ++ file ∷ []) named in (
      subst (IsNamedTo (shown names) (shown parts) (i + 1)) (sym pushed) (one_more (shown names) (shown parts) i files name part c.loop-place.invariant.0
          (omega (arith, before, length-map names (λ piece. piece.now))) (omega (arith, before', length-map parts (λ piece. piece.now)))
          (shown_at names i before) (shown_at parts i before')),
      text_more names i before c.loop-place.invariant.1 text,
    )
