pub mod OfferedText
pub mod PanelText
