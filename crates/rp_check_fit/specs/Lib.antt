pub mod KeptFailure
pub mod InnerGroups
pub mod Axioms
pub mod ViolationsFailure
