pub mod FilledBounds
pub mod InnerItems
