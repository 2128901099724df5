-- What is asked of each household beside the verdicts, and of which tables it can be asked (this program's own).
use Rattle.std.specs.Prelude.{◌≡◌, ◌⊎◌, false, [], None}
use Rattle.rp_rows.specs.declared.asked.Asked.{Asked}
use Rattle.rp_table.specs.Tables.{Observations}

-- nothing is asked beside the verdicts
pub record AsksNoMore (asked : Asked) : Type 0 where
  pub no_pump : asked.pump ≡ false
  pub no_power : asked.power ≡ None

-- the money pump and the power are asked of tables without levels of their own alone
abbrev pub MayBeAsked : Asked → Observations → Type 0
MayBeAsked asked table = AsksNoMore asked ⊎ (table.levels ≡ [])
