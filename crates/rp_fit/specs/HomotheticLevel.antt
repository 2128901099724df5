-- How far choices are from a homothetic preference: the greatest part of what was spent at which the homothetic test
-- holds (Heufer 2013; Heufer and Hjertstrand 2019; the test: Varian 1983).
use Rattle.std.specs.Prelude.{◌≤◌, ◌*◌, ◌^◌, ◌-◌, ℕ, List, length}
use Rattle.rp_evidence.specs.Homothetic.{next_product, spent_product}
use Rattle.rp_evidence.specs.Walk.{AnyStep, IsClosedWalk}
use Rattle.rp_fit.specs.declared.homothetic_level.HomotheticLevelPart.{HomotheticLevelPart}

-- How many steps a walk has.
abbrev pub step_count : List ℕ → ℕ
step_count walk = length walk - 1

-- The level is the least geometric mean of c(s,t)/c(s,s) over the steps of closed walks, a root in general. It is at
-- least low/den: on every closed walk, however long, the product of c(s,t)/c(s,s) is at least low/den to the number of
-- its steps.
abbrev pub HomotheticLevelIsAtLeast : ℕ → (ℕ → ℕ → ℕ) → ℕ → ℕ → Type 0
HomotheticLevelIsAtLeast n c low den = (walk : List ℕ) → IsClosedWalk n AnyStep walk
    → low ^ step_count walk * spent_product c walk ≤ den ^ step_count walk * next_product c walk

-- It is at most high/den: some closed walk has a product of at most high/den to the number of its steps.
abbrev pub HomotheticLevelIsAtMost : ℕ → (ℕ → ℕ → ℕ) → ℕ → ℕ → Type 0
HomotheticLevelIsAtMost n c high den = (walk : List ℕ) × IsClosedWalk n AnyStep walk
    × (den ^ step_count walk * next_product c walk ≤ high ^ step_count walk * spent_product c walk)

-- What accepted evidence on the level proves: it is at least the lower bound and at most the upper one, both over 2^40.
pub record ProvesHomotheticLevel (n : ℕ) (c : ℕ → ℕ → ℕ) (part : HomotheticLevelPart) : Type 0 where
  pub at_least : HomotheticLevelIsAtLeast n c part.low (2 ^ 40)
  pub at_most : HomotheticLevelIsAtMost n c part.high (2 ^ 40)
