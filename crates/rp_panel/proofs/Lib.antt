mod PlacesLemmas
mod RowLemmas
mod TextLemmas
