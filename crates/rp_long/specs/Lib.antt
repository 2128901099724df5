pub mod Places
pub mod InLongFile
pub mod LongColumns
pub mod LongFaults
pub mod Ids
pub mod Panels
pub mod EachOnce
