pub mod MenuLists
pub mod MenuTexts
pub mod Cells
pub mod Denotation
pub mod InnerCells
