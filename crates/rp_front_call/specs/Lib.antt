pub mod CallEndings
pub mod InnerEndings
pub mod NamedFiles
