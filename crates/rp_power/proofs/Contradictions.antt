-- Two bundles that contradict each other are a violation of the axiom.
use Rattle.std.proofs.Common.{◌≡◌, ℕ, ◌<◌, ◌≤◌, List, [], ◌∷◌, inl, inr, refl, arith, ◌∙◌, ap, length, slice_index}
use Rattle.rp_evidence.specs.Garp.{HasSomeViolation}
use Rattle.rp_evidence.specs.Preference.{IsStrict, IsWeak}
use Rattle.rp_evidence.proofs.Violations.{violates_by}
use Rattle.rp_num.specs.Below.{listed}
use Rattle.rp_num.proofs.BelowLemmas.{get-listed, length-listed}
use Rattle.rp_table.specs.Tables.{Observations, records_of}
use Rattle.rp_power.specs.InnerSpent.{cost_among, own_cost_among}

module _ (n : ℕ) (c : ℕ → ℕ → ℕ) where
  weak_step : (a b : ℕ) → c a b ≤ c a a → IsWeak c a b
  weak_step a b h = omega (arith, h)

  strict_step : (a b : ℕ) → c a b < c a a → IsStrict c a b
  strict_step a b h = omega (arith, h)

  violates_back : (s t : ℕ) → s < n → t < n → c s t ≤ c s s → c t s < c t t → HasSomeViolation n (IsWeak c) (IsStrict c)
  violates_back s t s_in t_in forth back =
      let under : c t s ≤ c t t = omega (arith, back) in
      (s ∷ t ∷ s ∷ [], violates_by n (IsWeak c) (IsStrict c) s t (s ∷ []) (s_in, weak_step s t forth, (t_in, weak_step t s under, (s_in, refl))) (inr (inl (strict_step t s back))))

module _ (table : Observations) (quantities : List ℕ) where
  -- t is affordable at s, and s costs less at t
  pub contradicts_back : (s t : ℕ) → s < records_of table → t < records_of table
      → cost_among table quantities s t ≤ cost_among table quantities s s
      → cost_among table quantities t s < cost_among table quantities t t
      → HasSomeViolation (records_of table) (IsWeak (cost_among table quantities)) (IsStrict (cost_among table quantities))
  contradicts_back = violates_back (records_of table) (cost_among table quantities)

  module _ (own : List ℕ) (are : own ≡ listed (records_of table) (own_cost_among table quantities)) where
    pub own_count : length own ≡ records_of table
    own_count = ap length are ∙ length-listed (own_cost_among table quantities) (records_of table)

    pub own_at : (s : ℕ) → s < records_of table → slice_index own s ≡ cost_among table quantities s s
    own_at s s_in = ap (λ (l : List ℕ). slice_index l s) are ∙ get-listed (own_cost_among table quantities) (records_of table) s 0 s_in
