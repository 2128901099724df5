-- What known bytes gain from two texts, each of which a sink may fail to take whole (this project's own).
use Rattle.std.specs.Prelude.{ℕ, ◌≤◌, List, Option}
use Rattle.rp_guide.specs.Gains.{Gains}

-- known bytes gain one text and then another, each as far as it was taken
pub record GainsBoth (old new : Option (List ℕ)) (before after : ℕ) (first second : List ℕ) : Type 0 where
  pub between : Option (List ℕ)
  pub count : ℕ
  pub gains_first : Gains old between before count first
  pub gains_second : Gains between new count after second
  pub never_falls : before ≤ count
