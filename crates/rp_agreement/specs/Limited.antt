-- The limits of a table (this program's own).
use Rattle.std.specs.Prelude.{ℕ, ◌<◌, ◌≤◌}
use Rattle.rp_evidence.specs.Input.{TableInput}
use Rattle.rp_table.specs.OwnLevels.{AreOwnLevels}
use Rattle.rp_limits.specs.declared.table.TheConstants.{GOODS, LARGEST, RECORDS}

-- So many observations and goods at most, no quantity above the largest, and levels of all observations or of none.
pub record IsLimited (input : TableInput) : Type 0 where
  pub few_observations : input.n ≤ RECORDS
  pub few_goods : input.goods ≤ GOODS
  pub quantities : (s g : ℕ) → s < input.n → g < input.goods → input.quantity s g ≤ LARGEST
  pub own_levels : AreOwnLevels input.n input.levels
