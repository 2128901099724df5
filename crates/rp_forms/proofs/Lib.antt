pub mod TextLemmas
pub mod RoleLemmas
