-- A set of budgets as a word: bit k is set where budget k is in it.
use Rattle.std.specs.Prelude.{◌≡◌, ℕ}
use Rattle.std.specs.Int.{bit_at}

abbrev pub Has : ℕ → ℕ → Type 0
Has set k = bit_at set k ≡ 1
