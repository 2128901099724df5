pub mod Entries
pub mod FirstPrograms
pub mod GrownPrograms
pub mod ReadOffs
pub mod WrittenOut
