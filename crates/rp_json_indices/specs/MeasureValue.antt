-- The JSON value of the measure of what levels lack of 1 (this program's own format).
use Rattle.std.specs.Prelude.{codes}
use Rattle.rp_fit.specs.declared.levels.Lack.{Lack}
use Rattle.rp_fit.specs.declared.levels.Lack.TheVariants.{Mean, Squares}
use Rattle.serde_json.specs.Data.{Data, string}

-- the mean, or the mean of the squares
abbrev pub measure_value : Lack → Data
measure_value Mean = string (codes "mean")
measure_value Squares = string (codes "squares")
