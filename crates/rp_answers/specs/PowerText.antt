-- What `power` prints: the report of how many random behaviours on a table's budgets fail the generalized axiom of
-- revealed preference (after Bronars 1987). The number is true and has no evidence.
use Rattle.std.specs.Prelude.{◌≡◌, ℕ, List}
use Rattle.rp_power.specs.PowerCount.{IsPowerCount}
use Rattle.rp_power.specs.PowerText.{power_report}
use Rattle.rp_table.specs.Tables.{Observations}

abbrev pub IsPowerText : Observations → ℕ → ℕ → List ℕ → Type 0
IsPowerText table seed draws text =
    (violations : ℕ) × IsPowerCount table seed draws violations × (text ≡ power_report table seed draws violations)
