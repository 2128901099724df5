-- Output that grows by fronts of the bytes that are written: two such steps are one, and a short front is not the
-- whole.
use Rattle.std.proofs.Common.{◌≡◌, ℕ, ◌+◌, ◌<◌, List, ◌++◌, Option, Some, length, take, drop, sym, ap, ◌∙◌, append_assoc, arith, length-append}
use Rattle.std.proofs.lemmas.List.{length-take-le}
use Rattle.std.proofs.Math.Seq.{take-add}
use Rattle.rp_outside.specs.Known.{FallsShort, Grows}

-- growth by a front, and then by n bytes of the rest, is growth by a longer front
pub Grows-more : (old mid new : Option (List ℕ)) (bs : List ℕ) (at n : ℕ) → Grows old mid (take at bs) → Grows mid new (take n (drop at bs)) → Grows old new (take (at + n) bs)
Grows-more old mid new bs at n first next w known =
    next (w ++ take at bs) (first w known) ∙ ap Some (append_assoc w (take at bs) (take n (drop at bs)) ∙ ap (λ xs. w ++ xs) (sym (take-add at n bs)))

-- two texts that begin alike and are one are as long
same_rest : (w xs ys : List ℕ) → w ++ xs ≡ w ++ ys → length xs ≡ length ys
same_rest w xs ys e = omega (arith, ap length e, length-append w xs, length-append w ys)

-- growth by a front that ends before the end falls short of the whole
pub FallsShort-front : (old new : Option (List ℕ)) (bs : List ℕ) (at : ℕ) → at < length bs → Grows old new (take at bs) → FallsShort old new bs
FallsShort-front old new bs at less grown w known all =
    let same : Some (w ++ take at bs) ≡ Some (w ++ bs) = sym (grown w known) ∙ all in
    let alike : w ++ take at bs ≡ w ++ bs = cc in
    absurd (omega (arith, same_rest w (take at bs) bs alike, length-take-le at bs (omega arith)))
