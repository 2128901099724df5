pub mod AskedOutputs
pub mod Axioms
pub mod CostBounds
pub mod Denotation
pub mod InnerCheapest
pub mod Report
pub mod Technology
