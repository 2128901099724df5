-- Preferences over bundles (Debreu 1959, Theory of Value, chapter 4; locally nonsatiated as in Varian 1982, section 1,
-- and in Chambers and Echenique 2016, Revealed Preference Theory, chapter 3). A preference is a relation between bundles,
-- whatever it takes for the first of two to be at least as good as the second: nothing has to decide it.
use Rattle.std.specs.Prelude.{ℕ, ◌≤◌, ◌⊎◌, Bool, IsTrue}
use Rattle.rp_evidence.specs.Demand.{FractionBundle}
use Rattle.rp_people.specs.Bundles.{AreEqualInValue, AreWithin, HasMoreOfEveryGood, IsBundle, multiple}

-- The first bundle is at least as good as the second.
abbrev pub IsAtLeastAsGood : (FractionBundle → FractionBundle → Type 0) → FractionBundle → FractionBundle → Type 0
IsAtLeastAsGood prefers x y = prefers x y

-- The first bundle is better than the second.
abbrev pub IsBetter : (FractionBundle → FractionBundle → Type 0) → FractionBundle → FractionBundle → Type 0
IsBetter prefers x y = IsAtLeastAsGood prefers x y × (¬ IsAtLeastAsGood prefers y x)

-- Of any two bundles one is at least as good as the other: the preference says which.
abbrev pub IsComplete : (FractionBundle → FractionBundle → Type 0) → Type 0
IsComplete prefers = (x y : FractionBundle) → IsBundle x → IsBundle y
    → IsAtLeastAsGood prefers x y ⊎ IsAtLeastAsGood prefers y x

-- What is at least as good as the second of three bundles, and this as the third, is as good as the third.
abbrev pub IsTransitive : (FractionBundle → FractionBundle → Type 0) → Type 0
IsTransitive prefers = (x y z : FractionBundle) → IsBundle x → IsBundle y → IsBundle z
    → IsAtLeastAsGood prefers x y → IsAtLeastAsGood prefers y z → IsAtLeastAsGood prefers x z

-- The preference has two bundles that are equal in value as good as each other.
abbrev pub TreatsAlikeByValue : ℕ → (FractionBundle → FractionBundle → Type 0) → Type 0
TreatsAlikeByValue goods prefers = (x y : FractionBundle) → IsBundle x → IsBundle y → AreEqualInValue goods x y
    → IsAtLeastAsGood prefers x y

-- A bundle with more of every good is better.
abbrev pub PrefersMore : ℕ → (FractionBundle → FractionBundle → Type 0) → Type 0
PrefersMore goods prefers = (x y : FractionBundle) → IsBundle x → IsBundle y → HasMoreOfEveryGood goods x y
    → IsBetter prefers x y

-- Within every fraction num/den above 0 of each good round a bundle there is a better one.
abbrev pub IsNonsatiated : ℕ → (FractionBundle → FractionBundle → Type 0) → Type 0
IsNonsatiated goods prefers = (x : FractionBundle) (num den : ℕ) → IsBundle x → 1 ≤ num → 1 ≤ den
    → (y : FractionBundle) × IsBundle y × AreWithin goods y x num den × IsBetter prefers y x

-- The same, with one that is better however its fractions are written: also of a preference that tells bundles apart
-- that are equal in value.
abbrev pub IsNonsatiatedByValue : ℕ → (FractionBundle → FractionBundle → Type 0) → Type 0
IsNonsatiatedByValue goods prefers = (x : FractionBundle) (num den : ℕ) → IsBundle x → 1 ≤ num → 1 ≤ den
    → (y : FractionBundle) × IsBundle y × AreWithin goods y x num den
    × ((z : FractionBundle) → IsBundle z → AreEqualInValue goods z y → IsBetter prefers z x)

-- A preference over bundles of these goods: complete, transitive and monotone, and it takes bundles that are equal in
-- value for the same.
pub record IsPreference (goods : ℕ) (prefers : FractionBundle → FractionBundle → Type 0) : Type 0 where
  pub complete : IsComplete prefers
  pub transitive : IsTransitive prefers
  pub by_value : TreatsAlikeByValue goods prefers
  pub monotone : PrefersMore goods prefers

-- The widest notion: complete, transitive and locally nonsatiated. What no such preference does, none does.
pub record IsNonsatiatedPreference (goods : ℕ) (prefers : FractionBundle → FractionBundle → Type 0) : Type 0 where
  pub complete : IsComplete prefers
  pub transitive : IsTransitive prefers
  pub nonsatiated : IsNonsatiated goods prefers

-- The preference keeps its order when both bundles are multiplied by a fraction above 0: it is homothetic (Varian
-- 1983, "Non-parametric Tests of Consumer Behaviour").
abbrev pub IsHomotheticPreference : (FractionBundle → FractionBundle → Type 0) → Type 0
IsHomotheticPreference prefers = (num den : ℕ) (x y : FractionBundle) → 1 ≤ num → 1 ≤ den → IsBundle x → IsBundle y
    → IsAtLeastAsGood prefers x y → IsAtLeastAsGood prefers (multiple num den x) (multiple num den y)

-- The preference that a test of evidence makes: of two bundles the first is at least as good where some evidence, a
-- sequence of numbers, passes as showing that. A claim that some preference exists, or none, is over these: all that a
-- function decides are among them, and a clause has no room for a claim over all relations. What each relation keeps is
-- said of it (`OfOnePreference`).
abbrev pub shown_by : (FractionBundle → FractionBundle → (ℕ → ℕ) → Bool) → FractionBundle → FractionBundle → Type 0
shown_by passes x y = (evidence : ℕ → ℕ) × IsTrue (passes x y evidence)
