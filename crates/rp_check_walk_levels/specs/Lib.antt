pub mod InnerSums
pub mod QuasilinearLevelFailure
pub mod PumpFailure
pub mod HomotheticLevelFailure
