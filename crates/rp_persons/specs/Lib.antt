pub mod OfAnyPersons
pub mod PersonMixtures
pub mod Persons
pub mod SaysRandom
