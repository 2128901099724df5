-- Utilities of bundles (Afriat 1967; Varian 1982, Afriat's theorem). A utility gives each bundle a fraction.
use Rattle.std.specs.Prelude.{ℕ, ◌+◌, ◌<◌, ◌≤◌}
use Rattle.rp_evidence.specs.Demand.{FractionBundle}
use Rattle.rp_people.specs.Bundles.{AreEqualInValue, HasMoreOfEveryGood, HasMoreOfSomeGood, IsBundle, mixture, multiple}
use Rattle.rp_people.specs.Fractions.{AreEqual, IsAtMost, IsBelow, SignedFraction, average, times}

-- A utility of bundles of these goods: a fraction for each bundle, the same for bundles that are equal in value.
pub record IsUtilityOfBundles (goods : ℕ) (utility : FractionBundle → SignedFraction) : Type 0 where
  pub fraction : (x : FractionBundle) → IsBundle x → 0 < (utility x).den
  pub by_value : (x y : FractionBundle) → IsBundle x → IsBundle y → AreEqualInValue goods x y
      → AreEqual (utility x) (utility y)

-- The preference of a utility: at least as good is what has at least as much utility.
abbrev pub preference_of : (FractionBundle → SignedFraction) → FractionBundle → FractionBundle → Type 0
preference_of utility x y = IsAtMost (utility y) (utility x)

-- More of every good gives more.
abbrev pub IsMonotone : ℕ → (FractionBundle → SignedFraction) → Type 0
IsMonotone goods utility = (x y : FractionBundle) → IsBundle x → IsBundle y → HasMoreOfEveryGood goods x y
    → IsBelow (utility y) (utility x)

-- No less of any good, and more of one, gives more.
abbrev pub IsStrictlyMonotone : ℕ → (FractionBundle → SignedFraction) → Type 0
IsStrictlyMonotone goods utility = (x y : FractionBundle) → IsBundle x → IsBundle y → HasMoreOfSomeGood goods x y
    → IsBelow (utility y) (utility x)

-- A mixture has at least the same mixture of the utilities.
abbrev pub IsConcave : (FractionBundle → SignedFraction) → Type 0
IsConcave utility = (a b : ℕ) (x y : FractionBundle) → 0 < a + b → IsBundle x → IsBundle y
    → IsAtMost (average a b (utility x) (utility y)) (utility (mixture a b x y))

-- num/den times a bundle has num/den times its utility, for each fraction num/den above 0.
abbrev pub IsHomogeneous : (FractionBundle → SignedFraction) → Type 0
IsHomogeneous utility = (num den : ℕ) (x : FractionBundle) → 1 ≤ num → 1 ≤ den → IsBundle x
    → AreEqual (utility (multiple num den x)) (times num den (utility x))

-- A utility that is monotone, strictly too, and concave.
pub record IsConcaveUtility (goods : ℕ) (utility : FractionBundle → SignedFraction) : Type 0 where
  pub utility_of_bundles : IsUtilityOfBundles goods utility
  pub monotone : IsMonotone goods utility
  pub strictly_monotone : IsStrictlyMonotone goods utility
  pub concave : IsConcave utility
