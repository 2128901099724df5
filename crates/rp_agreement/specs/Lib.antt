pub mod ItemVerdict
pub mod Limited
pub mod ReadBack
