-- The first of the cheapest observations so far. No definition and no public clause rests on these words.
use Rattle.std.specs.Prelude.{◌≡◌, ℕ, ◌<◌, ◌≤◌, Option, Some, None, if◌then◌else◌, nat_le}
use Rattle.rp_evidence.specs.Demand.{spending}
use Rattle.rp_evidence.specs.Input.{TableInput}
use Rattle.rp_cost.specs.declared.upper.Upper.{Upper}

-- The later one only where it costs less.
abbrev pub cheaper_of : Option Upper → Upper → Upper
cheaper_of None later = later
cheaper_of (Some best) later = if nat_le best.cost later.cost then best else later

-- Of the first observations that made y0 or more, s is the first of least cost.
pub record IsBestBelow (input : TableInput) (y : ℕ → ℕ) (y0 : ℕ) (prices : ℕ → ℕ) (end : ℕ)
    (best : Upper) : Type 0 where
  pub observed : best.at < end
  pub enough : y0 ≤ y best.at
  pub costs : spending input.goods prices (input.quantity best.at) ≡ best.cost
  pub least : (r : ℕ) → r < end → y0 ≤ y r → best.cost ≤ spending input.goods prices (input.quantity r)
  pub first : (r : ℕ) → r < best.at → y0 ≤ y r → best.cost < spending input.goods prices (input.quantity r)

-- That one, or none of them made so much.
abbrev pub BestBelow : TableInput → (ℕ → ℕ) → ℕ → (ℕ → ℕ) → ℕ → Option Upper → Type 0
BestBelow input y y0 prices end None = (s : ℕ) → s < end → y s < y0
BestBelow input y y0 prices end (Some best) = IsBestBelow input y y0 prices end best

-- No observation that made y0 or more costs less than that.
abbrev pub NoneCheaper : TableInput → (ℕ → ℕ) → ℕ → (ℕ → ℕ) → ℕ → Type 0
NoneCheaper input y y0 prices cost =
    (r : ℕ) → r < input.n → y0 ≤ y r → cost ≤ spending input.goods prices (input.quantity r)
