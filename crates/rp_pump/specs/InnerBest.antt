-- For the proofs alone: the walk in hand while the rounds are made. No public clause cites this word.
use Rattle.std.specs.Prelude.{ℕ, ◌+◌, ◌^◌, ◌≤◌, List, length}
use Rattle.rp_num.specs.Fraction.{IsCoprime}
use Rattle.rp_evidence.specs.Preference.{IsWeak}
use Rattle.rp_evidence.specs.Walk.{IsClosedWalk}
use Rattle.rp_fit.specs.MoneyPump.{HasPumpRatio}

-- A closed walk of weak steps and its ratio in lowest terms.
pub record IsBest (n : ℕ) (c : ℕ → ℕ → ℕ) (num den : ℕ) (walk : List ℕ) : Type 0 where
  pub few : length walk ≤ n + 1
  pub closed : IsClosedWalk n (IsWeak c) walk
  pub ratio : HasPumpRatio c num den walk
  pub positive : 1 ≤ den
  pub at_most_one : num ≤ den
  pub den_fits : den ≤ 2 ^ 60
  pub coprime : IsCoprime num den
