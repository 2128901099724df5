pub mod Members
pub mod KeptLaws
pub mod LevelLaws
