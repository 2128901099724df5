-- When two tables of verdicts tell the same of each household, but that one may withhold what the other tells of the
-- homothetic test.
use Rattle.std.specs.Prelude.{◌≡◌, ◌⊎◌, List, ℕ}
use Rattle.std.specs.List.{AllZip}
use Rattle.rp_rows.specs.RowText.{rows_text}
use Rattle.rp_rows.specs.declared.row.Found.{Found}
use Rattle.rp_rows.specs.declared.row.Found.TheVariants.{Verdicts as VerdictsFound, Fault as FaultFound}
use Rattle.rp_rows.specs.declared.row.Row.{Row}
use Rattle.rp_rows.specs.declared.verdict.Verdict.{Verdict}
use Rattle.rp_rows.specs.declared.verdict.Verdict.TheVariants.{Withheld}
use Rattle.rp_rows.specs.declared.verdicts.Verdicts.{Verdicts}

-- two verdicts are the same, or one of them is withheld
abbrev pub IsSameUnlessWithheld : Verdict → Verdict → Type 0
IsSameUnlessWithheld verdict other = (verdict ≡ other) ⊎ ((verdict ≡ Withheld) ⊎ (other ≡ Withheld))

-- the verdicts on a table are the same, where `Homothetic` is what holds of the two of the homothetic test
pub record AreSameVerdicts (Homothetic : Verdict → Verdict → Type 0) (v w : Verdicts) : Type 0 where
  pub observations : v.observations ≡ w.observations
  pub goods : v.goods ≡ w.goods
  pub garp : v.garp ≡ w.garp
  pub efficiency : v.efficiency ≡ w.efficiency
  pub attained : v.attained ≡ w.attained
  pub homothetic : Homothetic v.homothetic w.homothetic
  pub quasilinear : v.quasilinear ≡ w.quasilinear
  pub pump : v.pump ≡ w.pump
  pub power : v.power ≡ w.power

-- what two rows tell is the same, so
abbrev pub IsSameFound : (Verdict → Verdict → Type 0) → Found → Found → Type 0
IsSameFound Homothetic (VerdictsFound v) (VerdictsFound w) = AreSameVerdicts Homothetic v w
IsSameFound Homothetic (VerdictsFound v) (FaultFound g) = ⊥
IsSameFound Homothetic (FaultFound f) (VerdictsFound w) = ⊥
IsSameFound Homothetic (FaultFound f) (FaultFound g) = f ≡ g

pub record IsSameRow (Homothetic : Verdict → Verdict → Type 0) (row other : Row) : Type 0 where
  pub household : row.household ≡ other.household
  pub kept : row.kept ≡ other.kept
  pub found : IsSameFound Homothetic row.found other.found

-- two texts are tables of rows that tell the same of each household and of each record that is refused
pub record AreSameButWithheld (kept : List (List ℕ)) (text other : List ℕ) : Type 0 where
  pub rows : List Row
  pub other_rows : List Row
  pub text_is : text ≡ rows_text kept rows
  pub other_is : other ≡ rows_text kept other_rows
  pub same : AllZip (IsSameRow IsSameUnlessWithheld) rows other_rows
