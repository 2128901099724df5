-- Bytes that are read piece by piece: each piece makes the front longer, and the calls are no more than its bytes and
-- one.
use Rattle.std.proofs.Common.{◌≡◌, ℕ, ◌+◌, ◌≤◌, List, ◌++◌, Option, Some, None, length, take, drop, sym, ap, ◌∙◌, arith, length-append, length-drop, refl}
use Rattle.std.proofs.lemmas.List.{length-take-le, take_all}
use Rattle.std.proofs.Math.Seq.{take-add}
use Rattle.rp_outside.specs.Faults.{next_count}
use Rattle.rp_outside.specs.Reads.{calls_through}
use Rattle.rp_outside.specs.InnerFronts.{BeginsWith}

-- a front and the n bytes that stand after it are a longer front
pub longer_front : (bs front piece : List ℕ) (n : ℕ) → (length front ≤ length bs) × (take (length front) bs ≡ front) → (piece ≡ take n (drop (length front) bs)) × (n ≤ length (drop (length front) bs)) → (length (front ++ piece) ≤ length bs) × (take (length (front ++ piece)) bs ≡ front ++ piece)
longer_front bs front piece n f p =
    let size : length piece ≡ n = ap length p.0 ∙ length-take-le n (drop (length front) bs) p.1 in
    let both : length (front ++ piece) ≡ length front + n = length-append front piece ∙ ap (λ k. length front + k) size in
    (omega (arith, length-drop (length front) bs, p.1, f.0), ap (λ k. take k bs) both ∙ take-add (length front) n bs ∙ ap (λ xs. xs ++ take n (drop (length front) bs)) f.1 ∙ ap (λ xs. front ++ xs) (sym p.0))

-- a front that is as long as the whole is the whole
pub whole_front : (bs front : List ℕ) → (length front ≤ length bs) × (take (length front) bs ≡ front) → length bs ≤ length front → front ≡ bs
whole_front bs front f h = sym f.1 ∙ take_all (length front) bs h

-- a front that came in no more calls than it has bytes, and one call more, are no more calls than it takes to read it all
pub calls_so_far : (known : Option (List ℕ)) (front : List ℕ) (limit before calls : ℕ) → BeginsWith known front → length front ≤ limit → calls ≤ before + length front → next_count calls ≤ before + calls_through limit known
calls_so_far None front limit before calls begins few counted = omega (arith, few, counted)
calls_so_far (Some bytes) front limit before calls begins few counted = omega (arith, (begins bytes refl).0, few, counted)
