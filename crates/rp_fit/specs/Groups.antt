-- Groups of observations of which a consistent set has few, and what they allow it together (duality of linear
-- programming as in Gale, Kuhn and Tucker 1951; violations: Varian 1982).
use Rattle.std.specs.Prelude.{◌≡◌, ◌≢◌, ◌<◌, ◌≤◌, ◌+◌, ◌-◌, ◌*◌, ◌⊎◌, ◌==◌, ℕ, Bool, List, length, slice_index, sum_by}
use Rattle.std.specs.Prelude.{if◌then◌else◌}
use Rattle.std.specs.List.{list_any}
use Rattle.rp_fit.specs.declared.kept.Group.{Group}
use Rattle.rp_fit.specs.declared.kept.GroupKind.{GroupKind}
use Rattle.rp_fit.specs.declared.kept.GroupKind.TheVariants.{Pairs, Cycle}
use Rattle.rp_evidence.specs.Garp.{IsViolation}
use Rattle.rp_evidence.specs.Preference.{IsStrict, IsWeak}

-- Two observations contradict each other: a weak step leads one way and a strict one the other.
abbrev pub Contradict : (ℕ → ℕ → ℕ) → ℕ → ℕ → Type 0
Contradict c s t = (IsWeak c s t × IsStrict c t s) ⊎ (IsWeak c t s × IsStrict c s t)

-- Observations of which each two contradict each other.
pub record AllContradict (n : ℕ) (c : ℕ → ℕ → ℕ) (members : List ℕ) : Type 0 where
  pub observed : (k : ℕ) → k < length members → slice_index members k < n
  pub each_two : (i j : ℕ) → i < j → j < length members → Contradict c (slice_index members i) (slice_index members j)

-- A violation that goes through no observation twice: the last entry, which is the first again, aside.
pub record IsSimpleViolation (n : ℕ) (c : ℕ → ℕ → ℕ) (walk : List ℕ) : Type 0 where
  pub few : length walk ≤ n + 1
  pub violates : IsViolation n (IsWeak c) (IsStrict c) walk
  pub distinct : (i j : ℕ) → i < j → j < length walk - 1 → slice_index walk i ≢ slice_index walk j

-- The observations are of the kind that they are said to be.
abbrev pub AreOfKind : ℕ → (ℕ → ℕ → ℕ) → GroupKind → List ℕ → Type 0
AreOfKind n c Pairs members = AllContradict n c members
AreOfKind n c Cycle members = IsSimpleViolation n c members

-- How many of them a consistent set has at most: one, and of a violation all but one.
abbrev pub allowed_of : GroupKind → List ℕ → ℕ
allowed_of Pairs members = 1
allowed_of Cycle members = length members - 2

-- Observation s is among these.
abbrev pub is_among : List ℕ → ℕ → Bool
is_among members s = list_any (λ member. member == s) members

-- The weights of the groups that have observation s.
abbrev pub weight_on : List Group → ℕ → ℕ
weight_on groups s = sum_by (λ group. if is_among group.members s then group.weight else 0) groups

-- What all groups allow, each times its weight.
abbrev pub allowed_by : List Group → ℕ
allowed_by groups = sum_by (λ group. group.weight * allowed_of group.kind group.members) groups
