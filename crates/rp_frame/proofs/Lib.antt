mod Examples
mod FileLemmas
mod HandedLemmas
mod NameLemmas
mod PartLemmas
mod PieceLemmas
mod TextLemmas
