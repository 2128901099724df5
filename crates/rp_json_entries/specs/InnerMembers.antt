-- Members by their names and values.
use Rattle.std.specs.Prelude.{◌≡◌, ℕ, List, [], ◌∷◌, length, map}
use Rattle.std.specs.Borrow.{Bor}
use Rattle.serde_json.specs.Data.{Data, Members, member, no_members}
use Rattle.serde_json.specs.View.{view}
use Rattle.serde_json.specs.declared.value.Value.{Value}

-- the members with these names and these values, in this order, as far as there are both
abbrev pub named : List (List ℕ) → List Data → Members
named [] ds = no_members
named (name ∷ names) [] = no_members
named (name ∷ names) (d ∷ ds) = member name d (named names ds)

-- names as texts
abbrev pub texts : List (Bor (List ℕ)) → List (List ℕ)
texts names = map (λ name. name.now) names

-- values as data
abbrev pub views : List (Bor Value) → List Data
views values = map (λ value. view value.now) values

-- these are the members with these names and these values, one each
abbrev pub AreNamed : List (List ℕ) → Members → List Data → Type 0
AreNamed names members ds = (length ds ≡ length names) × (named names ds ≡ members)
