pub mod GridLends
pub mod Held
pub mod InnerLends
pub mod InnerOwnership
pub mod Places
pub mod Rows
