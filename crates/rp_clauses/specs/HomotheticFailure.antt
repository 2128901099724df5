-- When evidence for the homothetic test fails (this program's own order of clauses; Varian 1983).
use Rattle.std.specs.Prelude.{◌≡◌, ◌≢◌, ◌+◌, ◌*◌, ◌-◌, ◌≤◌, ℕ, List, [], ◌∷◌, length, take}
use Rattle.rp_evidence.specs.Clauses.{Finding, Unless, InOrder, FirstBelow, FirstUnless}
use Rattle.rp_clauses.specs.WalkFailure.{ClosedWalkFails}
use Rattle.rp_num.specs.Fraction.{Fraction, PassesWidth}
use Rattle.rp_evidence.specs.Homothetic.{EndsBelow, next_product, spent_product, value_at}
use Rattle.rp_evidence.specs.declared.homothetic.Homothetic.{Homothetic}
use Rattle.rp_evidence.specs.declared.homothetic.Homothetic.TheVariants.{Values, Cycle, Withheld}
use Rattle.rp_evidence.specs.declared.failure.Reason.TheVariants.{Shape, Number, Order, NotLess, Wide}

-- The value of t, taken on to s, is V_t c(t,s)/c(t,t): within the width of fractions, and not below V_s.
abbrev pub StepFails : (ℕ → ℕ → ℕ) → List Fraction → ℕ → ℕ → Finding
StepFails c values t s = InOrder (
    Unless (¬ PassesWidth ((value_at values t).num * c t s) ((value_at values t).den * c t t)) Wide (t + 1)
    ∷ Unless ((value_at values s).num * ((value_at values t).den * c t t)
    ≤ ((value_at values t).num * c t s) * (value_at values s).den) Order (t + 1)
    ∷ [])

-- The steps from t, in order.
abbrev pub StepsFail : ℕ → (ℕ → ℕ → ℕ) → List Fraction → ℕ → Finding
StepsFail n c values t = FirstBelow n (StepFails c values t)

-- The steps from every observation, in order.
abbrev pub AllStepsFail : ℕ → (ℕ → ℕ → ℕ) → List Fraction → Finding
AllStepsFail n c values = FirstBelow n (StepsFail n c values)

-- Each value is a positive fraction.
abbrev pub PositiveFails : List Fraction → Finding
PositiveFails values =
    FirstUnless (length values) (λ s. (1 ≤ (value_at values s).num) × (1 ≤ (value_at values s).den)) Number

-- Values: one for each observation, none of them 0, and for t in order and then s in order the step from t to s.
abbrev pub ValuesFail : ℕ → (ℕ → ℕ → ℕ) → List Fraction → Finding
ValuesFail n c values = InOrder (
    Unless (length values ≡ n) Shape 0
    ∷ PositiveFails values
    ∷ AllStepsFail n c values
    ∷ [])

-- After k steps of the walk the start has been multiplied by c(t,s)/c(t,t) at each: that is past the width of
-- fractions.
abbrev pub IsWideAfter : (ℕ → ℕ → ℕ) → Fraction → List ℕ → ℕ → Type 0
IsWideAfter c start walk k =
    PassesWidth (start.num * next_product c (take (k + 1) walk)) (start.den * spent_product c (take (k + 1) walk))

-- No product along the walk is too wide, and the last one is below the start.
abbrev pub ProductsFail : (ℕ → ℕ → ℕ) → Fraction → List ℕ → Finding
ProductsFail c start walk = InOrder (
    FirstUnless (length walk - 1) (λ k. ¬ IsWideAfter c start walk (k + 1)) Wide
    ∷ Unless (EndsBelow c start walk) NotLess 0
    ∷ [])

-- A cycle: its start is not 0, it is closed, and its products.
abbrev pub CycleFails : ℕ → (ℕ → ℕ → ℕ) → Fraction → List ℕ → Finding
CycleFails n c start walk = InOrder (
    Unless (start.num ≢ 0) Number 0
    ∷ ClosedWalkFails n walk
    ∷ ProductsFail c start walk
    ∷ [])

-- What is withheld is passed over.
abbrev pub HomotheticFails : ℕ → (ℕ → ℕ → ℕ) → Homothetic → Finding
HomotheticFails n c (Values values) = ValuesFail n c values
HomotheticFails n c (Cycle start walk) = CycleFails n c start walk
HomotheticFails n c (Withheld steps from to) = InOrder []
