-- What known bytes gain from a text that a sink may fail to take whole.
use Rattle.std.specs.Prelude.{ℕ, ◌⊎◌, List, Option}
use Rattle.rp_outside.specs.Faults.{HasRisen}
use Rattle.rp_outside.specs.Known.{Grows, GrowsByPrefix}

-- known bytes grow by all of the text, or by some of it from its front where the count of faults has risen
abbrev pub Gains : Option (List ℕ) → Option (List ℕ) → ℕ → ℕ → List ℕ → Type 0
Gains old new before after text = Grows old new text ⊎ (GrowsByPrefix old new text × HasRisen before after)
