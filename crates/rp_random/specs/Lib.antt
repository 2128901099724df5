pub mod RandomVerdict
