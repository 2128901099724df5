pub mod FitVerdict
