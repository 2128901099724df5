pub mod CommandLine
pub mod CommandForms
pub mod Commands
pub mod Named
pub mod Ranges
pub mod Shapes
pub mod Usage
pub mod Words
