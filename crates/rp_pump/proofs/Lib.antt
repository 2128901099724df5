pub mod SummedWalks
pub mod Totals
pub mod Values
pub mod Rounds
pub mod Outcomes
pub mod SamePumps
