-- Columns that are written out: sums of the entries of slacks.
use Rattle.std.proofs.Common.{◌≡◌, ◌+◌, ◌<◌, ◌∙◌, ℕ, ℤ, pos, ◌+ℤ◌, List, length, slice_index, refl, ap, subst, arith, add-one}
use Rattle.rp_farkas.specs.Total.{total}
use Rattle.rp_whole_tableau.specs.Pivots.{entry_in}
use Rattle.rp_whole_tableau.specs.Programs.{IsPast, SumPasses, slacks_in}
use Rattle.rp_whole_tableau.specs.declared.tableau.Tableau.{Tableau}

pub sum_begun : (t : Tableau) (i : ℕ) (taken : List ℕ) → pos 0 ≡ slacks_in t i taken 0
unfolding total
sum_begun t i taken = refl

next_sum : (t : Tableau) (i : ℕ) (taken : List ℕ) (k : ℕ) → slacks_in t i taken k +ℤ entry_in t.rows.items i (1 + slice_index taken k) ≡ slacks_in t i taken (k + 1)
unfolding total
next_sum t i taken k = rw add-one refl

pub sum_more : (t : Tableau) (i : ℕ) (taken : List ℕ) (k : ℕ) (so_far entry sum : ℤ) (row : ℕ) → so_far ≡ slacks_in t i taken k → row ≡ slice_index taken k → entry ≡ entry_in t.rows.items i (1 + row) → sum ≡ so_far +ℤ entry
    → sum ≡ slacks_in t i taken (k + 1)
sum_more t i taken k so_far entry sum row before read at is =
    is ∙ (λ j. before j +ℤ (at ∙ ap (λ r. entry_in t.rows.items i (1 + r)) read) j) ∙ next_sum t i taken k

pub sum_passes : (t : Tableau) (i : ℕ) (taken : List ℕ) (k : ℕ) (so_far entry : ℤ) → IsPast (so_far +ℤ entry) → k < length taken → so_far ≡ slacks_in t i taken k → entry ≡ entry_in t.rows.items i (1 + slice_index taken k)
    → SumPasses t i taken
sum_passes t i taken k so_far entry past inside before at =
    (k + 1, omega (arith, inside), subst IsPast (sum_more t i taken k so_far entry (so_far +ℤ entry) (slice_index taken k) before refl at refl) past)
