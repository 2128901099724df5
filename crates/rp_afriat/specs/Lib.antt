pub mod Bundle
pub mod InnerFilling
pub mod AfriatVerdict
