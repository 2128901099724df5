pub mod DrawnNumbers
pub mod DrawnTable
pub mod InnerSpent
pub mod PowerCount
pub mod PowerText
pub mod Words
