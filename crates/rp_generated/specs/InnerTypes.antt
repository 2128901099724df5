-- For the proofs alone: a list of types that gets one more. No public clause cites these words.
use Rattle.std.specs.Prelude.{◌≡◌, ℕ, List, [], ◌∷◌, ◌++◌, Vec}
use Rattle.std.specs.declared.alloc.Global.{Global}

-- A type of these patches is the last of a list, which has the types before it.
abbrev pub AddsLast : List ℕ → List (Vec ℕ Global) → List (Vec ℕ Global) → Type 0
AddsLast numbers before after = (type : Vec ℕ Global) × (type.items ≡ numbers) × (after ≡ before ++ type ∷ [])
