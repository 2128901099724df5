-- What `pump` prints: the report of the greatest money pump ratio (Echenique, Lee and Shum 2011), with its evidence.
use Rattle.std.specs.Prelude.{◌≡◌, ◌↔◌, ◌<◌, ℕ, List, [], ◌∷◌}
use Rattle.rp_evidence.specs.Efficiency.{FailsGarp}
use Rattle.rp_num.specs.Fraction.{IsCoprime}
use Rattle.rp_fit.specs.MoneyPump.{IsPumpIndex}
use Rattle.rp_fit.specs.PumpEvidence.{HasLeastPumpTotals, PumpHolds}
use Rattle.rp_pump.specs.Report.{pump_report}
use Rattle.rp_fit.specs.declared.pump.PumpPart.{PumpPart}
use Rattle.rp_table.specs.Cost.{cost_of}
use Rattle.rp_table.specs.Tables.{Observations, records_of}

-- what is found by the costs of n observations: a fraction in lowest terms, and no closed walk gives away a greater
-- share; the walk beside it gives away just that, the values are least totals at it, and the check accepts all of it;
-- where nothing is given away the walk is the first observation and itself again; something is given away just where
-- the generalized axiom fails
pub record IsPumpAnswer (n : ℕ) (c : ℕ → ℕ → ℕ) (part : PumpPart) : Type 0 where
  pub index : IsPumpIndex n c part.num part.den
  pub lowest_terms : IsCoprime part.num part.den
  pub least : HasLeastPumpTotals n c part
  pub accepted : PumpHolds n c part
  pub resting : part.num ≡ 0 → part.cycle ≡ 0 ∷ 0 ∷ []
  pub garp : (0 < part.num) ↔ FailsGarp n c

-- the text is the report of that
abbrev pub IsPumpText : Observations → List ℕ → Type 0
IsPumpText table text =
    (part : PumpPart) × IsPumpAnswer (records_of table) (cost_of table) part × (text ≡ pump_report table part)
