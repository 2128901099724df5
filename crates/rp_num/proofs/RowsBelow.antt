-- Rows of numbers in one list.
use Rattle.std.proofs.Common.{◌≡◌, ℕ, zero, suc, ◌+◌, ◌*◌, ◌<◌, ◌++◌, length, get_or, ◌∙◌, subst, arith, below_more, length-append}
use Rattle.std.specs.List.{All}
use Rattle.std.proofs.lemmas.List.{get_or_append_left, get_or-append-add}
use Rattle.std.proofs.lemmas.List.Elements.{All-nil, All-append, All-push}
use Rattle.std.proofs.lemmas.Nat.{mul-add-lt}
use Rattle.std.proofs.Math.Nat.{mul_comm}
use Rattle.rp_num.specs.Below.{listed, rows_below}
use Rattle.rp_num.proofs.BelowLemmas.{length-listed, get-listed}

pub length-rows : (n width : ℕ) (f : ℕ → ℕ → ℕ) → length (rows_below n width f) ≡ n * width
length-rows zero width f = omega arith
length-rows (suc n) width f = omega (arith, length-append (rows_below n width f) (listed width (f n)), length-rows n width f, length-listed (f n) width)

-- the number at a row and a place
pub row_number : (n width : ℕ) (f : ℕ → ℕ → ℕ) (t g : ℕ) → t < n → g < width → get_or (rows_below n width f) (t * width + g) 0 ≡ f t g
row_number zero width f t g row place = absurd (omega arith)
row_number (suc n) width f t g row place =
    below_more (λ (s : ℕ). get_or (rows_below n width f ++ listed width (f n)) (s * width + g) 0 ≡ f s g) n
    (λ s earlier.
    let inside : s * width + g < length (rows_below n width f) = omega (arith, length-rows n width f, mul-add-lt s width g n earlier place, mul_comm width n) in
    get_or_append_left (rows_below n width f) (listed width (f n)) 0 (s * width + g) inside ∙ row_number n width f s g earlier place)
    (subst (λ (k : ℕ). get_or (rows_below n width f ++ listed width (f n)) (k + g) 0 ≡ f n g) (length-rows n width f)
    (get_or-append-add (rows_below n width f) (listed width (f n)) g 0 ∙ get-listed (f n) width g 0 place))
    t (omega arith)

-- what holds of each number holds of the list
pub all_listed : (P : ℕ → Type 0) (n : ℕ) (f : ℕ → ℕ) → ((k : ℕ) → k < n → P (f k)) → All P (listed n f)
all_listed P zero f each = All-nil P
all_listed P (suc n) f each = All-push P (listed n f) (f n) (all_listed P n f (λ k below. each k (omega arith))) (each n (omega arith))

-- what holds of each number holds of the rows
pub all_rows : (P : ℕ → Type 0) (n width : ℕ) (f : ℕ → ℕ → ℕ) → ((t g : ℕ) → t < n → g < width → P (f t g)) → All P (rows_below n width f)
all_rows P zero width f each = All-nil P
all_rows P (suc n) width f each =
    All-append P (rows_below n width f) (listed width (f n)) (all_rows P n width f (λ t g row place. each t g (omega arith) place)) (all_listed P width (f n) (λ g place. each n g (omega arith) place))

-- what holds of the rows holds of each number
pub each_row : (P : ℕ → Type 0) (n width : ℕ) (f : ℕ → ℕ → ℕ) → All P (rows_below n width f) → (t g : ℕ) → t < n → g < width → P (f t g)
each_row P n width f all t g row place =
    let below = mul-add-lt t width g n row place in
    let turned = mul_comm width n in
    subst P (row_number n width f t g row place) (all (t * width + g) 0 (omega (arith, length-rows n width f, below, turned)))
