-- Bytes that are known or not known, of which nothing is said where they are not known (this project's own).
use Rattle.std.specs.Prelude.{ℕ, ◌≡◌, ◌≢◌, ◌<◌, ◌≤◌, List, ◌++◌, Option, Some, length, take}
use Rattle.std.specs.Option.{ForSome}

-- these are all of the known bytes
abbrev pub AreAll : Option (List ℕ) → List ℕ → Type 0
AreAll known bs = ForSome known (λ all. bs ≡ all)

-- there are at most so many known bytes
abbrev pub AreAtMost : ℕ → Option (List ℕ) → Type 0
AreAtMost limit known = ForSome known (λ bs. length bs ≤ limit)

-- there are more known bytes than so many
abbrev pub AreMoreThan : ℕ → Option (List ℕ) → Type 0
AreMoreThan limit known = ForSome known (λ bs. limit < length bs)

-- known bytes stay as they were
abbrev pub Stays : Option (List ℕ) → Option (List ℕ) → Type 0
Stays old new = ForSome old (λ w. new ≡ Some w)

-- known bytes grow by these and by nothing else
abbrev pub Grows : Option (List ℕ) → Option (List ℕ) → List ℕ → Type 0
Grows old new bs = ForSome old (λ w. new ≡ Some (w ++ bs))

-- known bytes grow by some of these, from their front, and by nothing else
abbrev pub GrowsByPrefix : Option (List ℕ) → Option (List ℕ) → List ℕ → Type 0
GrowsByPrefix old new bs = ForSome old (λ w. (k : ℕ) × (k ≤ length bs) × (new ≡ Some (w ++ take k bs)))

-- known bytes do not grow by all of these
abbrev pub FallsShort : Option (List ℕ) → Option (List ℕ) → List ℕ → Type 0
FallsShort old new bs = ForSome old (λ w. new ≢ Some (w ++ bs))
