pub mod WelfareVerdict
pub mod InnerCheapest
