pub mod CountLemmas
pub mod EachOnceLemmas
pub mod GroupLemmas
pub mod HeaderLemmas
pub mod PanelLemmas
pub mod PutLemmas
pub mod StageLemmas
