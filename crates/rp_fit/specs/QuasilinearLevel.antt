-- How far choices are from a utility that is linear in money: the greatest part of what was spent at which the test of
-- cyclical monotonicity holds (the test: Rockafellar 1970, section 24; Brown and Calsamiglia 2007; the level after
-- Afriat 1973).
use Rattle.std.specs.Prelude.{◌≡◌, ◌≤◌, ◌*◌, ℕ, List}
use Rattle.rp_evidence.specs.Walk.{AnyStep, IsClosedWalk}
use Rattle.rp_fit.specs.WalkSums.{next_sum, spent_sum}

-- On every closed walk, however long, the next bundles cost at least the part num/den of what was spent.
abbrev pub CostsPartOnWalks : ℕ → (ℕ → ℕ → ℕ) → ℕ → ℕ → Type 0
CostsPartOnWalks n c num den =
    (walk : List ℕ) → IsClosedWalk n AnyStep walk → num * spent_sum c walk ≤ den * next_sum c walk

-- The level is num/den: the least quotient of these two sums over all closed walks of any steps. A step from an
-- observation to itself has the quotient 1, so the level is at most 1.
pub record IsQuasilinearLevel (n : ℕ) (c : ℕ → ℕ → ℕ) (num den : ℕ) : Type 0 where
  pub positive : 1 ≤ den
  pub reached : (walk : List ℕ) × IsClosedWalk n AnyStep walk × (num * spent_sum c walk ≡ den * next_sum c walk)
  pub least : CostsPartOnWalks n c num den
