-- For the proofs alone: what the search for a pair that breaks keeps. No public clause cites this word.
use Rattle.std.specs.Prelude.{ℕ, ◌<◌}
use Rattle.rp_walk.specs.Walk.{TotalRule}
use Rattle.rp_walk.specs.Settled.{PairBreaks}

-- No observation between s and n breaks with s.
abbrev pub NoPartnerBelow : TotalRule → ℕ → ℕ → Type 0
NoPartnerBelow w s n = (t : ℕ) → s < t → t < n → ¬ (PairBreaks w s t)
