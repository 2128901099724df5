use Rattle.std.proofs.Common.{◌≡◌, ◌≢◌, ◌∙◌, ℕ, List, [], Some, None, map, slice_index_or, below_more, sym, ap, arith}
use Rattle.std.proofs.lemmas.List.{get_or-map, length-map}
use Rattle.std.specs.Borrow.{Bor}
use Rattle.rp_outside.specs.Files.{bytes_under}
use Rattle.rp_outside.specs.NamedFile.{named_bytes}
use Rattle.rp_frame.proofs.files.first_missing.Goals as goal

-- the name past the last one
abbrev no_name : Bor (List ℕ)
no_name = record { ref_ptr = (0, 0); now = [] }

found_at : (files : List (List ℕ × List ℕ)) (name other bytes : List ℕ) → Some bytes ≡ bytes_under files name → other ≡ name
    → bytes_under files other ≢ None
found_at files name other bytes is same none = let wrong = is ∙ sym (ap (bytes_under files) same) ∙ none in cc

pub loop-place-preserved : goal.loop-place-preserved
loop-place-preserved c =
    let names = c.args.names.now in
    let files = map named_bytes c.args.files.now in
    let shown = map (λ (name : Bor (List ℕ)). name.now) names in
    let same = get_or-map (λ (name : Bor (List ℕ)). name.now) names c.loop-place.place no_name [] c.loop-place-test.true in
    below_more (λ j. bytes_under files (slice_index_or shown j []) ≢ None) c.loop-place.place c.loop-place.invariant
    (found_at files _ (slice_index_or shown c.loop-place.place []) _ c.in-Some.ensures same)

pub returns-clause-given : goal.returns-clause-given
returns-clause-given c = λ k within.
    c.loop-place.invariant k (omega (arith, within, c.loop-place-test.false, length-map c.args.names.now (λ name. name.now)))
