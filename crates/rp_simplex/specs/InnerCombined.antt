-- For the proofs alone: rows of a tableau as combinations of the rows of tableau 0 (the revised simplex, Dantzig and
-- Orchard-Hays 1954). No public clause cites these words.
use Rattle.std.specs.Prelude.{ℕ, suc, ◌≡◌, ◌<◌, ◌≤◌, ℤ, pos, ◌*ℤ◌, List, length, get_or, if◌then◌else◌, ◌==◌}
use Rattle.std.specs.Int.RustNames.{unsigned_abs}
use Rattle.rp_farkas.specs.Limits.{FitsEvidence}
use Rattle.rp_farkas.specs.Total.{total}
use Rattle.rp_grid.specs.Rows.{Rows, row_of}

-- 1 at the place k, and 0 elsewhere.
abbrev pub delta : ℕ → ℕ → ℤ
delta i k = if i == k then pos 1 else pos 0

-- The sum of the products of the first n elements of two lists.
abbrev pub dot : ℕ → List ℤ → List ℤ → ℤ
dot n xs ys = total n (λ s. get_or xs s (pos 0) *ℤ get_or ys s (pos 0))

-- The elements are within the width.
abbrev pub ElementsFit : List ℤ → Type 0
ElementsFit xs = (s : ℕ) → s < length xs → FitsEvidence (unsigned_abs (get_or xs s (pos 0)))

-- No element passes n in absolute value.
abbrev pub AreSmall : ℕ → List ℤ → Type 0
AreSmall n xs = (s : ℕ) → s < length xs → unsigned_abs (get_or xs s (pos 0)) ≤ n

-- The count first places of the list are those below n where the elements xs are not 0, or more: a sum of products with
-- the first n elements is the sum over these places.
pub record IsGathered (n : ℕ) (xs : List ℤ) (places : List ℕ) (count : ℕ) : Type 0 where
  pub few : count ≤ n
  pub room : count ≤ length places
  pub inside : (q : ℕ) → q < count → get_or places q 0 < n
  pub same : (f : ℕ → ℤ) → total n (λ s. get_or xs s (pos 0) *ℤ f s)
      ≡ total count (λ q. get_or xs (get_or places q 0) (pos 0) *ℤ f (get_or places q 0))

-- The entry in row i and column j: row i of the multipliers times column j of tableau 0, which is stored column by
-- column. The last of the rows + 1 multipliers is that of the objective row.
abbrev pub combination : ℕ → Rows ℤ → Rows ℤ → ℕ → ℕ → ℤ
combination rows multipliers columns i j = dot (suc rows) (row_of multipliers i) (row_of columns j)
