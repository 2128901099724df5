pub mod InnerWalks
pub mod InnerTotal
pub mod InnerBest
pub mod Report
