use Rattle.std.proofs.Common.{◌≡◌, length, map, refl, sym, arith}
use Rattle.std.proofs.lemmas.List.{length-map}
use Rattle.rp_outside.specs.NamedFile.{named_bytes}
use Rattle.rp_frame.specs.Frames.{frame_of}
use Rattle.rp_frame.proofs.HandedLemmas.{IsCut, is_text, made, no_text, request_of, uneven}
use Rattle.rp_frame.proofs.TextLemmas.{shown}
use Rattle.rp_frame.proofs.handed.read_frame.Goals as goal

pub returns-then-len-clause-malformed : goal.returns-then-len-clause-malformed
returns-then-len-clause-malformed c =
    let parted = c.in-Some-Some-Some in
    let cut : IsCut (frame_of c.args.words.now c.args.names.now c.args.sizes.now c.args.bytes.now) (shown parted.pieces.items) (shown parted.named.items) (shown parted.parts.items) = record {
      words = sym (rw parted.is-0 at c.in_ok-pieces.ensures);
      names = sym (rw parted.is-1 at c.in_ok-named.ensures);
      parts = sym (rw parted.is-2 at c.in_ok-parts.ensures);
    } in
    λ _. uneven _ _ _ _ cut
    (λ same. c.if-len.true (omega (arith, same, c.len.ensures, c.len-2.ensures, parted.named.ok.0, parted.parts.ok.0, length-map parted.named.items (λ piece. piece.now), length-map parted.parts.items (λ piece. piece.now))))

pub returns-in_default-2-clause-no_text : goal.returns-in_default-2-clause-no_text
returns-in_default-2-clause-no_text c =
    let parted = c.in-Some-Some-Some in
    let cut : IsCut (frame_of c.args.words.now c.args.names.now c.args.sizes.now c.args.bytes.now) (shown parted.pieces.items) (shown parted.named.items) (shown parted.parts.items) = record {
      words = sym (rw parted.is-0 at c.in_ok-pieces.ensures);
      names = sym (rw parted.is-1 at c.in_ok-named.ensures);
      parts = sym (rw parted.is-2 at c.in_ok-parts.ensures);
    } in
    let even : length (shown parted.named.items) ≡ length (shown parted.parts.items) =
    omega (arith, c.if-len.false, c.len.ensures, c.len-2.ensures, parted.named.ok.0, parted.parts.ok.0, length-map parted.named.items (λ piece. piece.now), length-map parted.parts.items (λ piece. piece.now)) in
    λ _. no_text _ _ _ _ cut even (λ all _. (rw (c.in_default-2.is, c.as_slice.ensures.value) at c.in_ok-words.ensures.none) all)

pub returns-in_default-3-clause-no_text : goal.returns-in_default-3-clause-no_text
returns-in_default-3-clause-no_text c =
    let parted = c.in-Some-Some-Some in
    let cut : IsCut (frame_of c.args.words.now c.args.names.now c.args.sizes.now c.args.bytes.now) (shown parted.pieces.items) (shown parted.named.items) (shown parted.parts.items) = record {
      words = sym (rw parted.is-0 at c.in_ok-pieces.ensures);
      names = sym (rw parted.is-1 at c.in_ok-named.ensures);
      parts = sym (rw parted.is-2 at c.in_ok-parts.ensures);
    } in
    let even : length (shown parted.named.items) ≡ length (shown parted.parts.items) =
    omega (arith, c.if-len.false, c.len.ensures, c.len-2.ensures, parted.named.ok.0, parted.parts.ok.0, length-map parted.named.items (λ piece. piece.now), length-map parted.parts.items (λ piece. piece.now)) in
    λ _. no_text _ _ _ _ cut even (λ _ all. (rw (c.in_default-3.is, c.as_slice-2.ensures.value) at c.in_ok-files.ensures.none) all)

pub returns-clause-held : goal.returns-clause-held
returns-clause-held c =
    let parted = c.in-Some-Some-Some in
    let words = shown parted.pieces.items in
    let names = shown parted.named.items in
    let parts = shown parted.parts.items in
    let files = map named_bytes c.in-Some-2.files.items in
    let cut : IsCut (frame_of c.args.words.now c.args.names.now c.args.sizes.now c.args.bytes.now) words names parts = record {
      words = sym (rw parted.is-0 at c.in_ok-pieces.ensures);
      names = sym (rw parted.is-1 at c.in_ok-named.ensures);
      parts = sym (rw parted.is-2 at c.in_ok-parts.ensures);
    } in
    let named = rw (c.in-Some-2.is, c.as_slice-2.ensures.value, c.as_slice-3.ensures.value) at c.in_ok-files.ensures.files in (
      request_of words files,
      record { words = rw (c.in-Some.is, c.as_slice.ensures.value) at c.in_ok-words.ensures.texts; files = refl },
      is_text words names parts files named (rw (c.in-Some.is, c.as_slice.ensures.value) at c.in_ok-words.ensures.all)
          (rw (c.in-Some-2.is, c.as_slice-2.ensures.value) at c.in_ok-files.ensures.all),
      made _ words names parts files cut named,
    )
