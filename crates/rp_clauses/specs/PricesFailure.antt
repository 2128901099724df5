-- When new prices, and what is spent at them, fail (this program's own order of clauses).
use Rattle.std.specs.Prelude.{◌≡◌, ℕ, List, [], ◌∷◌, length, slice_index}
use Rattle.rp_evidence.specs.Clauses.{Finding, Unless, InOrder, FirstUnless}
use Rattle.rp_evidence.specs.declared.failure.Reason.TheVariants.{Shape, Number}
use Rattle.rp_table.specs.Limits.{IsExpenditure, IsPrice}

-- The price of good g is within its limit.
abbrev pub PriceFits : List ℕ → ℕ → Type 0
PriceFits prices g = IsPrice (slice_index prices g)

-- One price for each good, and each within its limit.
abbrev pub PricesFail : ℕ → List ℕ → Finding
PricesFail goods prices = InOrder (
    Unless (length prices ≡ goods) Shape 0 ∷ FirstUnless goods (PriceFits prices) Number ∷ [])

-- An expenditure within its limit.
abbrev pub ExpenditureFails : ℕ → Finding
ExpenditureFails m = Unless (IsExpenditure m) Number 0
