-- The verdict of the homothetic test, with its evidence (Varian 1983).
use Rattle.std.specs.Prelude.{◌≡◌, ℕ, ◌*◌, ◌<◌, ◌⊎◌, List, [], ◌∷◌, length}
use Rattle.rp_num.specs.Fraction.{Fraction, FitsWidth, IsLowestTerms, PassesWidth}
use Rattle.rp_walk.specs.LeastTotals.{IsFirstTooWide, NoneTooWide}
use Rattle.rp_walk.specs.RoundWalk.{IsCutFromRounds}
use Rattle.rp_walk.specs.Walk.{IsSimpleCycle}
use Rattle.rp_evidence.specs.Walk.{AnyStep, IsClosedWalk}
use Rattle.rp_evidence.specs.Homothetic.{EndsBelow, IsLeastProduct, MeetsHomotheticTest, ProductsFit, value_at}
use Rattle.rp_evidence.specs.declared.homothetic.Homothetic.{Homothetic}
use Rattle.rp_evidence.specs.declared.homothetic.Homothetic.TheVariants.{Values, Cycle, Withheld}
use Rattle.rp_walk.specs.Products.{FitsFraction, as_total, products}

-- On the closed walk s, t, s the product is below 1.
abbrev pub PairFalls : (ℕ → ℕ → ℕ) → ℕ → ℕ → Type 0
PairFalls c s t = c s t * c t s < c s s * c t t

-- The first pair whose closed walk of two steps falls, in the order of s and then t, with s < t.
pub record IsFirstFall (n : ℕ) (c : ℕ → ℕ → ℕ) (s t : ℕ) : Type 0 where
  pub in_order : s < t
  pub within : t < n
  pub falls : PairFalls c s t
  pub none_before : (s' t' : ℕ) → (s' < s) ⊎ ((s' ≡ s) × (t' < t)) → s' < t' → t' < n → ¬ (PairFalls c s' t')

abbrev pub NoPairFalls : ℕ → (ℕ → ℕ → ℕ) → Type 0
NoPairFalls n c = (s t : ℕ) → s < t → t < n → ¬ (PairFalls c s t)

-- The values are the least products over all walks, by the observation where they end. They and each step from them
-- are within the width. No pair falls, no product is too wide, and the test holds.
pub record GivesValues (n : ℕ) (c : ℕ → ℕ → ℕ) (values : List Fraction) : Type 0 where
  pub no_pair : NoPairFalls n c
  pub none_too_wide : NoneTooWide (products n c) FitsFraction
  pub holds : MeetsHomotheticTest n c
  pub one_each : length values ≡ n
  pub fit : (s : ℕ) → s < n → FitsWidth (value_at values s)
  pub least : (s : ℕ) → s < n → IsLeastProduct n c s (value_at values s)
  pub steps_fit : (t s : ℕ) → t < n → s < n
      → ¬ (PassesWidth ((value_at values t).num * c t s) ((value_at values t).den * c t t))

-- The cycle is s, t, s from the start 1, where s and t are the first pair that falls.
pub record IsPairCycle (n : ℕ) (c : ℕ → ℕ → ℕ) (start : Fraction) (walk : List ℕ) : Type 0 where
  pub s : ℕ
  pub t : ℕ
  pub first_pair : IsFirstFall n c s t
  pub start_is : start ≡ record { num = 1; den = 1 }
  pub walk_is : walk ≡ s ∷ t ∷ s ∷ []

-- No pair falls, and no product is too wide. The cycle is the first closed part of the walk that the rounds give, and
-- the start is the product there.
pub record IsLongCycle (n : ℕ) (c : ℕ → ℕ → ℕ) (start : Fraction) (walk : List ℕ) : Type 0 where
  pub no_pair : NoPairFalls n c
  pub none_too_wide : NoneTooWide (products n c) FitsFraction
  pub first_part : IsCutFromRounds (products n c) (as_total start) walk

-- A closed walk that goes through no observation twice, along which the start is multiplied below itself, and when it
-- comes. The start, in lowest terms, and the products along the walk are within the width.
pub record GivesCycle (n : ℕ) (c : ℕ → ℕ → ℕ) (start : Fraction) (walk : List ℕ) : Type 0 where
  pub closed : IsClosedWalk n AnyStep walk
  pub simple : IsSimpleCycle n walk
  pub lowest_terms : IsLowestTerms start.num start.den start
  pub fits : FitsWidth start
  pub ends_below : EndsBelow c start walk
  pub products_fit : ProductsFit c start walk
  pub comes : IsPairCycle n c start walk ⊎ IsLongCycle n c start walk

-- No pair falls, and this is the first triple that is too wide.
pub record GivesWithheld (n : ℕ) (c : ℕ → ℕ → ℕ) (k t s : ℕ) : Type 0 where
  pub no_pair : NoPairFalls n c
  pub first : IsFirstTooWide (products n c) FitsFraction k t s

-- The verdict of the homothetic test (Varian 1983), with its evidence.
abbrev pub IsHomotheticVerdict : ℕ → (ℕ → ℕ → ℕ) → Homothetic → Type 0
IsHomotheticVerdict n c (Values values) = GivesValues n c values
IsHomotheticVerdict n c (Cycle start walk) = GivesCycle n c start walk
IsHomotheticVerdict n c (Withheld k t s) = GivesWithheld n c k t s
