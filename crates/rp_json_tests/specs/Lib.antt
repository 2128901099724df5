pub mod AfriatValue
pub mod EfficiencyValue
pub mod GarpValue
pub mod HomotheticValue
pub mod Limits
pub mod QuasilinearValue
