-- What costs say of people. They tell what bundles cost, and not which goods these have at which prices: so what is said
-- is said of each table that has these costs (Varian 1982, section 1).
use Rattle.rp_table.specs.Cost.{CostTable, IsCostsOf}
use Rattle.rp_table.specs.Tables.{IsTable, Observations}
use Rattle.rp_evidence.specs.Input.{TableInput, input_of_table}

abbrev pub OfEachTable : CostTable → (TableInput → Type 0) → Type 0
OfEachTable costs says = (table : Observations) → IsTable table → IsCostsOf costs table → says (input_of_table table)
