mod DecidedFacts
mod GivenFacts
mod RunFacts
