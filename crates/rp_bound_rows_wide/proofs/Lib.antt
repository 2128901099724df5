mod SmallLemmas
mod ItemLemmas
