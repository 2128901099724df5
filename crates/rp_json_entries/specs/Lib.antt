pub mod InnerMembers
pub mod Reading
pub mod Values
