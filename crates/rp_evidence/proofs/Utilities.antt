-- Every bundle has a utility, the least of what finitely many observations allow it, and one only.
use Rattle.std.proofs.Common.{◌<◌, ◌≤◌, ◌⊎◌, inl, inr, ℕ, ℤ, pos, ◌*ℤ◌, ◌≤ℤ◌, refl, arith}
use Rattle.std.proofs.lemmas.Int.{by_lt_z}
use Rattle.rp_evidence.specs.Afriat.{HasJustOne, IsUtilityBy, allowed_for_by, spent}
use Rattle.rp_evidence.specs.Demand.{FractionBundle, spending}
use Rattle.rp_evidence.specs.Input.{TableInput}
use Rattle.rp_evidence.specs.Welfare.{IsAsGoodAs, IsUtilityOf, IsWorseThan}
use Rattle.rp_evidence.proofs.AfriatModels.{utility_is_one}
use Rattle.rp_evidence.proofs.AfriatStages.{least_of}

least : (n : ℕ) (f : ℕ → ℤ) → 1 ≤ n → (s : ℕ) × (s < n) × ((t : ℕ) → t < n → f s ≤ℤ f t)
least n f some = go (least_of n (λ i. Unit {0}) f (λ i. inl tt))
  where
    go : ((i : ℕ) → i < n → ¬ Unit {0}) ⊎ ((i : ℕ) × (i < n) × Unit {0} × ((j : ℕ) → j < n → Unit {0} → f i ≤ℤ f j)) → (s : ℕ) × (s < n) × ((t : ℕ) → t < n → f s ≤ℤ f t)
    go (inl none) = absurd (none 0 (omega arith) tt)
    go (inr r) = (r.0, r.1, λ t l. r.3 t l tt)

pub one_utility : (n : ℕ) (own : ℕ → ℕ) (utility : ℕ → ℤ) (multiplier : ℕ → ℕ) (den : ℕ) (cost : ℕ → ℕ) → 1 ≤ n → HasJustOne (IsUtilityBy n own utility multiplier den cost)
one_utility n own utility multiplier den cost some =
    let allowed : ℕ → ℤ = allowed_for_by own utility multiplier den cost in
    let l = least n allowed some in
    let is : IsUtilityBy n own utility multiplier den cost (allowed l.0) = record { reached = (l.0, l.1, refl); least = l.2 } in
    (allowed l.0, is, λ y y_is. utility_is_one n den own utility multiplier cost y (allowed l.0) y_is is)

module _ (input : TableInput) (utility : ℕ → ℤ) (multiplier : ℕ → ℕ) (bundle : FractionBundle) (some : 1 ≤ input.n) where
  pub one_of_fractions : HasJustOne (IsUtilityOf input utility multiplier bundle)
  one_of_fractions = one_utility input.n (spent input.cost) utility multiplier bundle.den (λ s. spending input.goods (input.price s) bundle.num) some

  pub as_good_or_worse : (t : ℕ) → 0 < bundle.den → IsAsGoodAs input utility multiplier bundle t ⊎ IsWorseThan input utility multiplier bundle t
  as_good_or_worse t fraction =
      let one = one_of_fractions in
      by_lt_z {P = IsAsGoodAs input utility multiplier bundle t ⊎ IsWorseThan input utility multiplier bundle t} one.0 (pos bundle.den *ℤ utility t)
      (λ less. inr (record { value = one.0; value_is = one.1; less = less }))
      (λ at_least. inl (record { fraction = fraction; value = one.0; value_is = one.1; at_least = at_least }))
