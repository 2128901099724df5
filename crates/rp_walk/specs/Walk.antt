-- Totals along walks, for every kind of total (this project's own; sums after Rockafellar 1970, products after Varian
-- 1983).
use Rattle.std.specs.Prelude.{◌≡◌, ◌≢◌, ℕ, zero, suc, ◌+◌, ◌<◌, ◌≤◌, ◌↔◌, List, [], ◌∷◌, length, All, slice_index}
use Rattle.rp_walk.specs.ExactTotal.{ExactTotal, IsLess}

-- What a kind of total says of walks over `count` observations: the total of a walk of no step, and
-- `after x t s`, the total x taken on by a step from t to s.
pub record TotalRule : Type 0 where
  pub count : ℕ
  pub empty : ExactTotal
  pub after : ExactTotal → ℕ → ℕ → ExactTotal

-- A step keeps the order of exact totals.
abbrev pub KeepsOrder : TotalRule → Type 0
KeepsOrder w = (x y : ExactTotal) (t s : ℕ) → t < w.count → s < w.count → IsLess x y
    ↔ IsLess (w.after x t s) (w.after y t s)

-- A walk is the observation at which it begins and the list of those that it goes on to, so it has as
-- many steps as that list has entries.
pub record AreObservations (w : TotalRule) (first : ℕ) (rest : List ℕ) : Type 0 where
  pub begins_within : first < w.count
  pub goes_within : All (λ s. s < w.count) rest

-- Where a walk ends.
abbrev pub end_of : ℕ → List ℕ → ℕ
end_of s [] = s
end_of s (t ∷ rest) = end_of t rest

-- The total at a walk's end, from the total x at its beginning.
abbrev pub total_after : TotalRule → ExactTotal → ℕ → List ℕ → ExactTotal
total_after w x s [] = x
total_after w x s (t ∷ rest) = total_after w (w.after x s t) t rest

-- The total of the walk that goes through p 0, p 1, .. to p m.
abbrev pub prefix_total : TotalRule → (ℕ → ℕ) → ℕ → ExactTotal
prefix_total w p zero = w.empty
prefix_total w p (suc m) = w.after (prefix_total w p m) (p m) (p (suc m))

-- Some walk of k steps ends at s with the total x, from the empty total at its beginning.
pub record IsTotal (w : TotalRule) (k s : ℕ) (x : ExactTotal) : Type 0 where
  pub first : ℕ
  pub rest : List ℕ
  pub walk : AreObservations w first rest
  pub steps : length rest ≡ k
  pub ends : end_of first rest ≡ s
  pub total : total_after w w.empty first rest ≡ x

-- A cycle over n observations goes through none twice: its entries before the last differ, and there are at most
-- n + 1 with the last.
pub record IsSimpleCycle (n : ℕ) (walk : List ℕ) : Type 0 where
  pub few : length walk ≤ n + 1
  pub distinct : (i j : ℕ) → i < j → j + 1 < length walk → slice_index walk i ≢ slice_index walk j

-- Whether a closed walk ends below its start is the same for every start that a walk reaches, as it is
-- for sums and for products of positive numbers.
abbrev pub StartsAlike : TotalRule → Type 0
StartsAlike w =
    (first : ℕ) (rest : List ℕ) → AreObservations w first rest → end_of first rest ≡ first
    → (k j : ℕ) (x y : ExactTotal) → IsTotal w k first x → IsTotal w j first y
    → IsLess (total_after w x first rest) x → IsLess (total_after w y first rest) y
