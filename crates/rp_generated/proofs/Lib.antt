pub mod FoundProves
pub mod LightTypes
pub mod Looks
pub mod RoundLaws
