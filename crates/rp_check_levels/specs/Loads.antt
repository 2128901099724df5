-- What the weights of walks may load: each strict step, or each level, up to what it costs (duality of linear
-- programming as in Gale, Kuhn and Tucker 1951).
use Rattle.std.specs.Prelude.{◌≤◌, ◌<◌, ◌-◌, ◌*◌, ◌/◌, ◌^◌, ◌==◌, ◌&&◌, ℕ, Bool, List, nat_le}
use Rattle.rp_check_levels.specs.declared.measure.Measure.{Measure}
use Rattle.rp_check_levels.specs.declared.measure.Measure.TheVariants.{Steps, Levels, SquaredLevels}
use Rattle.rp_evidence.specs.Preference.{IsStrict}
use Rattle.rp_fit.specs.WeightedWalks.{weight_by}
use Rattle.rp_fit.specs.declared.weighted.WeightedWalk.{WeightedWalk}

-- The step from a to b goes from s to t.
abbrev pub goes_to : ℕ → ℕ → ℕ → ℕ → Bool
goes_to s t a b = (a == s) && (b == t)

-- The step from a to b goes from s to a bundle that costs at least as much there as that of t.
abbrev pub goes_as_dear : (ℕ → ℕ → ℕ) → ℕ → ℕ → ℕ → ℕ → Bool
goes_as_dear c s t a b = (a == s) && nat_le (c s t) (c s b)

-- Which steps load the step from s to t, or the level of s by the bundle of t.
abbrev pub loads : Measure → (ℕ → ℕ → ℕ) → ℕ → ℕ → ℕ → ℕ → Bool
loads Steps c = goes_to
loads Levels c = goes_as_dear c
loads SquaredLevels c = goes_as_dear c

-- What a level lacks of 1 that is the part of what was spent at s that the bundle of t costs there, to a power, in
-- units of 2^-40, rounded down.
abbrev pub lack_floor : ℕ → (ℕ → ℕ → ℕ) → ℕ → ℕ → ℕ
lack_floor power c s t = (2 ^ 40 * (c s s - c s t) ^ power) / c s s ^ power

-- What may be loaded, times the denominator.
abbrev pub limit : Measure → (ℕ → ℕ → ℕ) → ℕ → ℕ → ℕ
limit Steps c s t = c s s - c s t
limit Levels c s t = lack_floor 1 c s t
limit SquaredLevels c s t = lack_floor 2 c s t

-- No strict step from s carries more.
abbrev pub IsWithinLimits : ℕ → (ℕ → ℕ → ℕ) → Measure → ℕ → List WeightedWalk → ℕ → Type 0
IsWithinLimits n c measure den walks s = (t : ℕ) → t < n → IsStrict c s t
    → weight_by (loads measure c s t) walks ≤ den * limit measure c s t
