mod VerdictLemmas
mod TextLemmas
