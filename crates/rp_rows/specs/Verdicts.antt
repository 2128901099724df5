-- The verdicts of a household without their evidence, by the textbook definitions of the tests, and what they say of the
-- people who choose the bundles of its table at its prices (sources at each test).
use Rattle.std.specs.Prelude.{◌≡◌, ℕ, Bool, true, false, List, Option, Some, None}
use Rattle.rp_evidence.specs.Efficiency.{FailsGarpAt, IsEfficiencyIndex}
use Rattle.rp_evidence.specs.Garp.{HasNoViolation, HasSomeViolation, MeetsGarpAt}
use Rattle.rp_evidence.specs.Homothetic.{IsFallingCycle, MeetsHomotheticTest}
use Rattle.rp_evidence.specs.Input.{input_of_table}
use Rattle.rp_evidence.specs.Preference.{StrictByLevels, WeakByLevels}
use Rattle.rp_evidence.specs.Quasilinear.{IsNegativeCycle, MeetsQuasilinearTest}
use Rattle.rp_evidence.specs.declared.homothetic.Homothetic.{Homothetic}
use Rattle.rp_homo.specs.HomotheticVerdict.{IsHomotheticVerdict}
use Rattle.rp_num.specs.Fraction.{Fraction, IsCoprime}
use Rattle.rp_people.specs.DividedLevels.{DividesLevels}
use Rattle.rp_people.specs.Money.{HasConcaveWorth, HasWorth}
use Rattle.rp_people.specs.Rationalizing.{HasConcaveUtility, HasHomogeneousUtility}
use Rattle.rp_people.specs.Rationalizing.{HasNonsatiatedHomotheticPreference, HasNonsatiatedPreference}
use Rattle.rp_people.specs.TableChoices.{choices_at, choices_of}
use Rattle.rp_power.specs.PowerCount.{IsPowerCount}
use Rattle.rp_fit.specs.MoneyPump.{IsPumpIndex}
use Rattle.rp_table.specs.Cost.{cost_of}
use Rattle.rp_table.specs.Tables.{Observations, goods_of, records_of}
use Rattle.rp_rows.specs.Words.{homothetic_verdict}
use Rattle.rp_rows.specs.declared.asked.Asked.{Asked}
use Rattle.rp_rows.specs.declared.asked.Draws.{Draws}
use Rattle.rp_rows.specs.declared.verdict.Verdict.{Verdict}
use Rattle.rp_rows.specs.declared.verdict.Verdict.TheVariants.{Holds, Violated, Withheld}
use Rattle.rp_rows.specs.declared.verdicts.Power.{Power}
use Rattle.rp_rows.specs.declared.verdicts.Verdicts.{Verdicts}

-- a verdict tells which of two is so, and nothing where it is withheld
abbrev pub Tells : Verdict → Type 0 → Type 0 → Type 0
Tells Holds met failed = met
Tells Violated met failed = failed
Tells Withheld met failed = Unit {0}

-- the same of a verdict that is never withheld
abbrev pub Decides : Verdict → Type 0 → Type 0 → Type 0
Decides Holds met failed = met
Decides Violated met failed = failed
Decides Withheld met failed = ⊥

-- yes or no tells which of two is so
abbrev pub Answers : Bool → Type 0 → Type 0 → Type 0
Answers true met failed = met
Answers false met failed = failed

-- the observations have no violation of the generalized axiom, each held to its own level, or to all that it spent
-- where the table has no levels
abbrev pub MeetsAxiom : Observations → Type 0
MeetsAxiom table =
    HasNoViolation (records_of table) (WeakByLevels table.levels (cost_of table)) (StrictByLevels table.levels (cost_of table))

-- some walk over the observations, however long, is a violation
abbrev pub HasViolation : Observations → Type 0
HasViolation table =
    HasSomeViolation (records_of table) (WeakByLevels table.levels (cost_of table)) (StrictByLevels table.levels (cost_of table))

-- the verdict on the axiom: of the observations; and that some strictly monotone and concave utility rationalizes the
-- choices, or no locally nonsatiated preference does
pub record IsAxiomVerdict (table : Observations) (verdict : Verdict) : Type 0 where
  pub of_table : Decides verdict (MeetsAxiom table) (HasViolation table)
  pub of_people : Decides verdict (HasConcaveUtility (choices_of (input_of_table table)))
      (¬ HasNonsatiatedPreference (choices_of (input_of_table table)))

-- the efficiency index in lowest terms, which divides the levels at which some preference rationalizes the choices
-- from those at which none does; and whether it is one of the former
pub record IsIndex (table : Observations) (num den : ℕ) (attained : Bool) : Type 0 where
  pub index : IsEfficiencyIndex (records_of table) (cost_of table) num den
  pub coprime : IsCoprime num den
  pub divides : DividesLevels (input_of_table table) num den
  pub at_index : Answers attained (MeetsGarpAt (records_of table) (cost_of table) num den)
      (FailsGarpAt (records_of table) (cost_of table) num den)
  pub of_people : Answers attained (HasConcaveUtility (choices_at (input_of_table table) num den))
      (¬ HasNonsatiatedPreference (choices_at (input_of_table table) num den))

-- the homothetic test as its evidence is stated
abbrev pub given_as_stated : Observations → Homothetic → Type 0
given_as_stated table evidence = IsHomotheticVerdict (records_of table) (cost_of table) evidence

-- the verdict of the homothetic test: that of evidence which is given on the table, and withheld just where that is; of
-- the observations; and that some homogeneous, strictly monotone and concave utility rationalizes the choices, or no
-- homothetic and locally nonsatiated preference does
pub record IsHomotheticFound (given : Observations → Homothetic → Type 0) (table : Observations) (verdict : Verdict)
    : Type 0 where
  pub evidence : Homothetic
  pub is_given : given table evidence
  pub verdict_is : verdict ≡ homothetic_verdict evidence
  pub of_table : Tells verdict (MeetsHomotheticTest (records_of table) (cost_of table))
      ((walk : List ℕ) × IsFallingCycle (records_of table) (cost_of table) walk)
  pub of_people : Tells verdict (HasHomogeneousUtility (choices_at (input_of_table table) 1 1))
      (¬ HasNonsatiatedHomotheticPreference (choices_at (input_of_table table) 1 1))

-- the verdict of the quasilinear test: of the observations; and that some strictly monotone and concave function
-- rationalizes the choices with money, or no function does
pub record IsQuasilinearFound (table : Observations) (verdict : Verdict) : Type 0 where
  pub of_table : Decides verdict (MeetsQuasilinearTest (records_of table) (cost_of table))
      ((walk : List ℕ) × IsNegativeCycle (records_of table) (cost_of table) walk)
  pub of_people : Decides verdict (HasConcaveWorth (choices_at (input_of_table table) 1 1))
      (¬ HasWorth (choices_at (input_of_table table) 1 1))

-- the greatest money pump ratio in lowest terms, where it is asked
abbrev pub IsPumpFound : Bool → Observations → Option Fraction → Type 0
IsPumpFound asked table None = asked ≡ false
IsPumpFound asked table (Some ratio) = (asked ≡ true) × IsPumpIndex (records_of table) (cost_of table) ratio.num ratio.den
    × IsCoprime ratio.num ratio.den

-- how many of the random behaviours that are asked for fail the axiom
abbrev pub IsPowerFound : Option Draws → Observations → Option Power → Type 0
IsPowerFound asked table None = asked ≡ None
IsPowerFound asked table (Some power) = (seed : ℕ) × (asked ≡ Some (record { draws = power.draws; seed = seed }))
    × IsPowerCount table seed power.draws power.violations

-- the verdicts on a table
pub record AreVerdicts (given : Observations → Homothetic → Type 0) (asked : Asked) (table : Observations)
    (found : Verdicts) : Type 0 where
  pub observations : found.observations ≡ records_of table
  pub goods : found.goods ≡ goods_of table
  pub garp : IsAxiomVerdict table found.garp
  pub efficiency : IsIndex table found.efficiency.num found.efficiency.den found.attained
  pub homothetic : IsHomotheticFound given table found.homothetic
  pub quasilinear : IsQuasilinearFound table found.quasilinear
  pub pump : IsPumpFound asked.pump table found.pump
  pub power : IsPowerFound asked.power table found.power
