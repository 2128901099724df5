-- Points that are listed by their positive entries (this project's own form).
use Rattle.std.specs.Prelude.{ℕ, ◌<◌, List, [], ◌∷◌, map, All, if◌then◌else◌, ◌==◌}
use Rattle.std.specs.List.Sorted.{IsStrictlyIncreasing}
use Rattle.rp_farkas.specs.Limits.{FitsEvidence}
use Rattle.rp_farkas.specs.declared.entry.Entry.{Entry}

-- The numerator at column j: the value that is listed there, and 0 where none is.
abbrev pub numerator_at : List Entry → ℕ → ℕ
numerator_at [] j = 0
numerator_at (e ∷ es) j = if e.at == j then e.value else numerator_at es j

-- The entries stand in rising order of their columns, each column is one of the program's,
-- and each value is 1 to 2^63 - 1.
pub record IsListing (cols : ℕ) (entries : List Entry) : Type 0 where
  pub rising : IsStrictlyIncreasing (map (λ e. e.at) entries)
  pub columns : All (λ e. e.at < cols) entries
  pub positive : All (λ e. 0 < e.value) entries
  pub fitting : All (λ e. FitsEvidence e.value) entries
