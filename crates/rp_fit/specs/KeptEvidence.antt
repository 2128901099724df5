-- What accepted evidence on consistent observations proves (the index: Houtman and Maks 1985).
use Rattle.std.specs.Prelude.{◌≡◌, ◌≤◌, ℕ, length}
use Rattle.rp_fit.specs.declared.kept.KeptPart.{KeptPart}
use Rattle.rp_fit.specs.Kept.{IsConsistent, IsHoutmanMaksIndex, IsSetOfObservations, NoneKeepsMore}

-- The kept observations are a consistent set, and no consistent set has more than the bound. Where the two meet, the
-- bound is the index.
pub record ProvesKept (n : ℕ) (c : ℕ → ℕ → ℕ) (part : KeptPart) : Type 0 where
  pub set : IsSetOfObservations n part.kept
  pub consistent : IsConsistent n c part.kept
  pub none_more : NoneKeepsMore n c part.most
  pub within : length part.kept ≤ part.most
  pub index : length part.kept ≡ part.most → IsHoutmanMaksIndex n c part.most
