use Rattle.std.proofs.Common.{◌<◌, ℕ, get_or}
use Rattle.rp_evidence.specs.declared.random.Share.{Share}
use Rattle.rp_farkas.specs.Limits.{FitsEvidence}
use Rattle.rp_check_mixture.proofs.shares.shares_fit.Given as goal

abbrev pub invariant-loop-share : goal.invariant-loop-share
invariant-loop-share l = (k : ℕ) (d : Share) → k < l.share-index → FitsEvidence (get_or l.shares k d).weight
