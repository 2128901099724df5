-- Laws of rows of numbers in one list.
use Rattle.std.proofs.Common.{◌≡◌, ℕ, ◌+◌, ◌*◌, ◌<◌, List, drop, get_or, ◌∙◌, refl}
use Rattle.std.proofs.lemmas.List.{get_or-take, get_or-drop}
use Rattle.rp_table.proofs.SumsBelow.{sum_below-same}
use Rattle.rp_table.specs.Rows.{row_of}
use Rattle.rp_table.specs.Sums.{sum_below}

pub row_place : (numbers : List ℕ) (width row g : ℕ) → g < width → get_or (row_of numbers width row) g 0 ≡ get_or numbers (row * width + g) 0
row_place numbers width row g within =
    get_or-take width (drop (row * width) numbers) g 0 within ∙ get_or-drop (row * width) numbers g 0

-- the sum over two rows
pub row_sum : (prices quantities : List ℕ) (n width other k i : ℕ) → n ≡ width → other ≡ width
    → sum_below n (λ g. get_or (row_of prices width k) g 0 * get_or (row_of quantities other i) g 0)
    ≡ sum_below width (λ g. get_or prices (k * width + g) 0 * get_or quantities (i * other + g) 0)
row_sum prices quantities n width other k i is_n is_other =
    rw is_n (sum_below-same _ _ width (λ g within.
    rw (row_place prices width k g within, row_place quantities other i g (rw is_other within)) refl))
