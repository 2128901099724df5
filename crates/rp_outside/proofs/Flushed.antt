-- What a sink counts as written where a flush failed: nothing of the piece that the writer had taken.
use Rattle.std.proofs.Common.{◌≡◌, ℕ, ◌-◌, ◌≤◌, List, ◌++◌, Option, Some, None, length, take, ap, ◌∙◌, sym, refl, arith, length-append}
use Rattle.std.proofs.lemmas.List.{length-take-le}
use Rattle.std.proofs.Math.Seq.{take-append_seam, take-length}
use Rattle.rp_outside.specs.Known.{Grows, Stays}
use Rattle.rp_outside.specs.SystemSink.{flushed_of}

-- where nothing was held back before, a writer that took a front of a piece and did not flush it tells as much as before
pub flushed-stays : (old new : Option (List ℕ)) (piece : List ℕ) (before n : ℕ) → before ≤ 0 → n ≤ length piece → Grows old new (take n piece) → Stays (flushed_of old before) (flushed_of new n)
flushed-stays None new piece before n none fits grown x is = cc
flushed-stays (Some w) new piece before n none fits grown x is =
    let size : length (w ++ take n piece) - n ≡ length w = omega (arith, length-append w (take n piece), length-take-le n piece fits) in
    let whole : length w ≡ length w - before = omega (arith, none) in
    ap (λ known. flushed_of known n) (grown w refl)
    ∙ ap Some (ap (λ k. take k (w ++ take n piece)) size ∙ take-append_seam w (take n piece) ∙ sym (take-length w))
    ∙ ap (λ k. Some (take k w)) whole ∙ is
