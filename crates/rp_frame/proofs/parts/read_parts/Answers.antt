use Rattle.std.proofs.Common.{ℕ, ◌≡◌, ◌∙◌, ◌+◌, ◌-◌, List, [], ◌∷◌, ◌++◌, take, drop, slice_index_or, sym, subst, ap, arith}
use Rattle.std.proofs.lemmas.List.{map-append}
use Rattle.std.specs.Borrow.{Bor}
use Rattle.rp_frame.proofs.PartLemmas.{IsCutTo, at_end, left_over, one_more, too_long}
use Rattle.rp_frame.proofs.TextLemmas.{shown}
use Rattle.rp_frame.proofs.parts.read_parts.Goals as goal

pub returns-then-size-bytes : goal.returns-then-size-bytes
returns-then-size-bytes c =
    too_long c.args.sizes.now c.args.bytes.now c.loop-size.size-index c.loop-size.at (shown c.loop-size.parts.items) c.loop-size.invariant
    c.loop-size-test.true (omega (arith, c.if-size-bytes.true, c.loop-size.invariant.within))

pub loop-size-preserved : goal.loop-size-preserved
loop-size-preserved c =
    let sizes = c.args.sizes.now in
    let bytes = c.args.bytes.now in
    let i = c.loop-size.size-index in
    let at = c.loop-size.at in
    let size = slice_index_or sizes i 0 in
    let pushed : shown c.push.new.self.items ≡ shown c.loop-size.parts.items ++ take (at + size - at) (drop at bytes) ∷ [] =
    ap shown c.in_ok-push.ensures.items ∙ map-append (λ (p : Bor (List ℕ)). p.now) c.loop-size.parts.items _ in
    subst (IsCutTo sizes bytes (i + 1) (at + size)) (sym pushed)
    (one_more sizes bytes i at (shown c.loop-size.parts.items) c.loop-size.invariant c.loop-size-test.true
    (omega (arith, c.if-size-bytes.false, c.loop-size.invariant.within)))

pub returns-then-at-bytes : goal.returns-then-at-bytes
returns-then-at-bytes c =
    left_over c.args.sizes.now c.args.bytes.now c.loop-size.size-index c.loop-size.at (shown c.loop-size.parts.items) c.loop-size.invariant
    (omega (arith, c.loop-size-test.false)) c.if-at-bytes.true

pub returns : goal.returns
returns c =
    at_end c.args.sizes.now c.args.bytes.now c.loop-size.size-index c.loop-size.at (shown c.loop-size.parts.items) c.loop-size.invariant
    (omega (arith, c.loop-size-test.false)) (omega (arith, c.if-at-bytes.false))
