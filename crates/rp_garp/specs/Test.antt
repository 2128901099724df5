-- The test of a table on the generalized axiom of revealed preference (Varian 1982): its costs, the closure of their
-- weak steps, and the verdict.
use Rattle.rp_evidence.specs.Garp.{ProvesOwnGarp}
use Rattle.rp_pref.specs.Closure.{IsClosureOf}
use Rattle.rp_pref.specs.Steps.{OwnWeak}
use Rattle.rp_table.specs.Cost.{IsCostsOf, cost_at}
use Rattle.rp_table.specs.Tables.{IsTable, Observations}
use Rattle.rp_garp.specs.declared.garp_test.GarpTest.{GarpTest}

-- The closure is that of the weak steps of the costs, and the verdict on them is true, where each observation is held to
-- its own level, or to all that it spent.
pub record IsTest (tested : GarpTest) : Type 0 where
  pub closes : IsClosureOf tested.closure tested.costs.n (OwnWeak tested.costs)
  pub proves : ProvesOwnGarp tested.costs.n tested.costs.levels (cost_at tested.costs) tested.garp

-- The costs are those of this table, too.
pub record IsTestOf (table : Observations) (tested : GarpTest) : Type 0 where
  pub valid : IsTable table
  pub of_table : IsCostsOf tested.costs table
  pub is_test : IsTest tested
