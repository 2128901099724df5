-- For the proofs alone: groups of one observation each. No public clause cites these words.
use Rattle.std.specs.Prelude.{◌≡◌, ◌++◌, ◌∷◌, [], ℕ, zero, suc, List}
use Rattle.rp_fit.specs.declared.kept.Group.{Group}
use Rattle.rp_fit.specs.declared.kept.GroupKind.TheVariants.{Pairs}

-- The group of one observation, with the weight 1.
abbrev pub group_of : ℕ → Group
group_of s = record { weight = 1; kind = Pairs; members = s ∷ [] }

-- The groups of the observations below n, one of each, with the weight 1.
abbrev pub groups_below : ℕ → List Group
groups_below zero = []
groups_below (suc n) = groups_below n ++ group_of n ∷ []

-- These are those groups.
abbrev pub AreAlone : ℕ → List Group → Type 0
AreAlone n groups = groups ≡ groups_below n
