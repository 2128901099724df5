-- The numbers below a bound that pass a test, in order.
use Rattle.std.specs.Prelude.{ℕ, zero, suc, Bool, if◌then◌else◌, List, [], ◌∷◌, ◌++◌}

abbrev pub places_below : ℕ → (ℕ → Bool) → List ℕ
places_below zero test = []
places_below (suc n) test = if test n then places_below n test ++ n ∷ [] else places_below n test
