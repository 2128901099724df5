-- What a bound is on, of the price side of a program (this project's own form).
use Rattle.std.specs.Prelude.{ℕ, ◌<◌}
use Rattle.std.specs.Int.RustNames.{unsigned_abs}
use Rattle.rp_farkas.specs.LinearProgram.{LinearProgram}
use Rattle.rp_farkas.specs.Prices.{value_of_prices}
use Rattle.rp_farkas.specs.declared.measure.Measure.{Measure}
use Rattle.rp_farkas.specs.declared.measure.Measure.TheVariants.{Cost, Price}

-- The measure of the prices x: what they cost, which is never negative where no right side is; or the price of one row.
abbrev pub measured : LinearProgram → Measure → (ℕ → ℕ) → ℕ
measured p Cost = λ x. unsigned_abs (value_of_prices p x)
measured p (Price row) = λ x. x row

-- The program has the row that the measure is of.
abbrev pub HasMeasure : LinearProgram → Measure → Type 0
HasMeasure p Cost = Unit {0}
HasMeasure p (Price row) = row < p.rows
