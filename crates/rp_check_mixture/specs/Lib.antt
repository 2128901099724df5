pub mod InnerSearch
pub mod LightFronts
pub mod RandomWithin
