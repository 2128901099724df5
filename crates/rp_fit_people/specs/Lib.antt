pub mod KeptPeople
pub mod LevelPeople
