use Rattle.std.proofs.Common.{ℕ, ◌≡◌, ◌∙◌, ◌+◌, List, [], ◌∷◌, ◌++◌, length, sym, subst, ap, arith}
use Rattle.std.proofs.lemmas.List.{map-append, take_rest}
use Rattle.std.specs.Borrow.{Bor}
use Rattle.rp_frame.proofs.PieceLemmas.{IsReadTo, at_end, not_ended, one_more}
use Rattle.rp_frame.proofs.TextLemmas.{shown}
use Rattle.rp_frame.proofs.pieces.read_pieces.Goals as goal

pub returns-in_default : goal.returns-in_default
returns-in_default c =
    not_ended c.args.bytes.now c.loop-at.at (shown c.loop-at.pieces.items) c.loop-at.invariant c.loop-at-test.true
    (rw (take_rest c.args.bytes.now c.loop-at.at) at c.in_default.ensures.none)

pub loop-at-preserved : goal.loop-at-preserved
loop-at-preserved c =
    let piece = c.in-Some.piece in
    let bytes = c.args.bytes.now in
    let pushed : shown c.push.new.self.items ≡ shown c.loop-at.pieces.items ++ piece.now ∷ [] =
    ap shown c.in_ok-push.ensures.items ∙ map-append (λ (p : Bor (List ℕ)). p.now) c.loop-at.pieces.items (piece ∷ []) in
    subst (IsReadTo bytes (c.loop-at.at + (length piece.now + 1))) (sym pushed)
    (one_more bytes c.loop-at.at (shown c.loop-at.pieces.items) piece.now c.loop-at.invariant
    (rw (take_rest bytes c.loop-at.at) at c.in-Some.ensures.ended) c.in-Some.ensures.none_in_it)

pub returns : goal.returns
returns c = at_end c.args.bytes.now c.loop-at.at (shown c.loop-at.pieces.items) c.loop-at.invariant (omega (arith, c.loop-at-test.false))
