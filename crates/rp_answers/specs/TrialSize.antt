-- How large a trial table may be.
use Rattle.std.specs.Prelude.{◌≤◌, ℕ}
use Rattle.rp_limits.specs.declared.command_line.TheConstants.{MOST_ROWS}
use Rattle.rp_limits.specs.declared.table.TheConstants.{GOODS}

-- so many observations and goods make a table
pub record IsTrialSize (count kinds : ℕ) : Type 0 where
  pub some_rows : 1 ≤ count
  pub few_rows : count ≤ MOST_ROWS
  pub some_goods : 1 ≤ kinds
  pub few_goods : kinds ≤ GOODS
