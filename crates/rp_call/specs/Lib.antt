pub mod CallEndings
pub mod NamedFiles
pub mod RunEndings
