pub mod AfriatReads
pub mod EfficiencyReads
pub mod GarpReads
pub mod HomotheticReads
pub mod PlaceReads
pub mod QuasilinearReads
