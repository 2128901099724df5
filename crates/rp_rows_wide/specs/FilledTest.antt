-- The homothetic test of a household with what is found where the stated evidence is withheld (this program's own).
use Rattle.rp_evidence.specs.Homothetic.{withheld_homothetic}
use Rattle.rp_evidence.specs.declared.homothetic.Homothetic.{Homothetic}
use Rattle.rp_filled.specs.Filled.{IsFilledFrom}
use Rattle.rp_rows.specs.Verdicts.{given_as_stated}
use Rattle.rp_table.specs.Tables.{Observations}

-- the evidence that is stated, where nothing of it is withheld; else other evidence of which nothing is, or still that
pub record IsGivenFilled (table : Observations) (found : Homothetic) : Type 0 where
  pub stated : Homothetic
  pub is_stated : given_as_stated table stated
  pub filled : IsFilledFrom withheld_homothetic stated found
