mod Examples
pub mod PricedTables
pub mod TableFacts
pub mod TableMade
pub mod PriceFacts
pub mod BundleFacts
pub mod PlainNumbers
pub mod PlainHeaders
pub mod PlainRecords
pub mod PlainTables
pub mod PlainLines
pub mod PlainBytes
mod PlainExamples
pub mod BudgetFacts
pub mod ChoiceFacts
pub mod ChosenFacts
