-- One more row of chosen numbers.
use Rattle.std.proofs.Common.{◌≡◌, ℕ, zero, suc, ◌+◌, List, ◌++◌, length, slice_index, get_or, refl, ap, ◌∙◌, arith, add-one}
use Rattle.rp_num.specs.Below.{listed, rows_below}
use Rattle.rp_num.proofs.BelowLemmas.{length-listed, listed-same, get-listed}

pub rows-more : (rows : ℕ → List ℕ) (column : ℕ → ℕ) (width t : ℕ) (numbers chosen row places : List ℕ)
    → numbers ≡ rows_below t width (λ s g. slice_index (rows s) (column g)) → row ≡ rows t → places ≡ listed width column → chosen ≡ listed (length places) (λ g. slice_index row (slice_index places g))
    → numbers ++ chosen ≡ rows_below (t + 1) width (λ s g. slice_index (rows s) (column g))
rows-more rows column width t numbers chosen row places before is at_columns chose =
    let all : length places ≡ width = ap length at_columns ∙ length-listed column width in
    let same = listed-same (λ g. slice_index row (slice_index places g)) (λ g. slice_index (rows t) (column g)) width
    (λ k below. let here : slice_index places k ≡ column k = ap (λ xs. get_or xs k 0) at_columns ∙ get-listed column width k 0 below in rw (is, here) refl) in
    let last : chosen ≡ listed width (λ g. slice_index (rows t) (column g)) = chose ∙ ap (λ n. listed n (λ g. slice_index row (slice_index places g))) all ∙ same in
    rw (add-one, before, last) refl
