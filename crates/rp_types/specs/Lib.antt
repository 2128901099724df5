pub mod InnerListed
pub mod Listed
