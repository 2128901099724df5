pub mod CostAxiom
pub mod OuterSet
pub mod ProductionSets
pub mod ProfitAxiom
pub mod RequirementSets
pub mod SmallSets
