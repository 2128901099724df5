-- The first observation of a kind, and the first two that stand in a relation (this program's own order: by the first
-- of the two and then by the second).
use Rattle.std.specs.Prelude.{ℕ, ◌<◌, Option, MatchOption}

-- Of n observations the first of which P holds, or none where it holds of none.
abbrev pub IsFirstOf : ℕ → (ℕ → Type 0) → Option ℕ → Type 0
IsFirstOf n P found =
    MatchOption found ((t : ℕ) → t < n → ¬ P t) (λ t. (t < n) × P t × ((j : ℕ) → j < t → ¬ P j))

-- No two of n observations stand in the relation.
abbrev pub NoneRelated : ℕ → (ℕ → ℕ → Type 0) → Type 0
NoneRelated n relation = (s t : ℕ) → s < n → t < n → ¬ relation s t

-- Of n observations s and t are the first two that stand in the relation.
pub record IsFirstRelated (n : ℕ) (relation : ℕ → ℕ → Type 0) (s t : ℕ) : Type 0 where
  pub first : s < n
  pub second : t < n
  pub related : relation s t
  pub no_earlier_first : (i j : ℕ) → i < s → j < n → ¬ relation i j
  pub no_earlier_second : (j : ℕ) → j < t → ¬ relation s j

-- The first two that stand in the relation, or none where none do.
abbrev pub AreFirstRelated : ℕ → (ℕ → ℕ → Type 0) → Option (ℕ × ℕ) → Type 0
AreFirstRelated n relation found =
    MatchOption found (NoneRelated n relation) (λ p. IsFirstRelated n relation p.0 p.1)
