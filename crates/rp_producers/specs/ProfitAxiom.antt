-- The weak axiom of profit maximisation (Varian 1984): no observation's inputs and output would have made another more
-- profit at its own prices.
use Rattle.std.specs.Prelude.{ℕ, ◌*◌, ◌<◌, ℤ, pos, ◌-ℤ◌, ◌≤ℤ◌, ◌<ℤ◌}

-- the profit of the inputs and the output of s at the prices of t, which may be negative; `p t` is the output's price
-- at t
abbrev pub profit : (ℕ → ℕ → ℕ) → (ℕ → ℕ) → (ℕ → ℕ) → ℕ → ℕ → ℤ
profit cost y p t s = pos (p t * y s) -ℤ pos (cost t s)

-- of n observations
abbrev pub MeetsProfitAxiom : ℕ → (ℕ → ℕ → ℕ) → (ℕ → ℕ) → (ℕ → ℕ) → Type 0
MeetsProfitAxiom n cost y p = (t s : ℕ) → t < n → s < n → profit cost y p t s ≤ℤ profit cost y p t t

-- s would have made t more profit
abbrev pub BreaksProfitAxiom : (ℕ → ℕ → ℕ) → (ℕ → ℕ) → (ℕ → ℕ) → ℕ → ℕ → Type 0
BreaksProfitAxiom cost y p t s = profit cost y p t t <ℤ profit cost y p t s
