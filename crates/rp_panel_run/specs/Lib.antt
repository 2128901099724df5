pub mod Questions
pub mod Told
pub mod Endings
pub mod Front
pub mod Laws
pub mod Turns
pub mod InnerCauses
pub mod Alike
