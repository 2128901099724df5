pub mod BoundsText
pub mod BoundsAlike
pub mod InnerRows
