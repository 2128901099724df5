-- What the money pump's evidence says for some costs, it says for all that are the same between the observations.
use Rattle.std.proofs.Common.{◌≡◌, ◌<◌, ◌*◌, ◌↔◌, ℕ, List, [], ◌∷◌, refl, ap, sym, ◌∙◌, subst}
use Rattle.std.specs.Prelude.{ℤ, pos, ◌+ℤ◌, ◌-ℤ◌, ◌*ℤ◌, ◌≤ℤ◌}
use Rattle.rp_evidence.specs.Preference.{AgreeBelow, IsWeak}
use Rattle.rp_evidence.specs.Walk.{IsClosedWalk, IsWalk, LeadsTo}
use Rattle.rp_evidence.proofs.SameCosts.{walk_same, walk_same_back, weak_same}
use Rattle.rp_fit.specs.MoneyPump.{HasPumpRatio, IsPumpIndex, PumpsAtMost, gain, gain_from, spent_from, walk_gain, walk_spent}
use Rattle.rp_fit.specs.PumpEvidence.{BoundsFrom, HasLeastPumpTotals, PumpHolds, value_at}
use Rattle.rp_fit.specs.PumpTotals.{IsLeastPumpTotal, excess, step_total, total_from, walk_total}
use Rattle.rp_fit.specs.declared.pump.PumpPart.{PumpPart}

module _ (n : ℕ) (c d : ℕ → ℕ → ℕ) (same : AgreeBelow n c d) where
  -- ---- along a walk

  gain_same : (s t : ℕ) → s < n → t < n → gain c s t ≡ gain d s t
  gain_same s t a b = ap (λ x. pos x -ℤ pos (c s t)) (same s s a a) ∙ ap (λ x. pos (d s s) -ℤ pos x) (same s t a b)

  excess_same : (num den s t : ℕ) → s < n → t < n → excess c num den s t ≡ excess d num den s t
  excess_same num den s t a b =
      ap (λ x. pos (num * x) -ℤ (gain c s t *ℤ pos den)) (same s s a a) ∙ ap (λ x. pos (num * d s s) -ℤ (x *ℤ pos den)) (gain_same s t a b)

  step_total_same : (num den s t : ℕ) → s < n → t < n → step_total c num den s t ≡ step_total d num den s t
  step_total_same num den s t a b = rw (excess_same num den s t a b) refl

  module _ (step : ℕ → ℕ → Type 0) where
    starts : (s t : ℕ) (walk : List ℕ) → LeadsTo n step s t walk → s < n
    starts s t [] leads = leads.0
    starts s t (x ∷ rest) leads = leads.0

    gain_from_same : (s t : ℕ) (walk : List ℕ) → LeadsTo n step s t walk → gain_from c s walk ≡ gain_from d s walk
    gain_from_same s t [] leads = refl
    gain_from_same s t (x ∷ rest) leads =
        ap (λ g. g +ℤ gain_from c x rest) (gain_same s x leads.0 (starts x t rest leads.2)) ∙ ap (λ g. gain d s x +ℤ g) (gain_from_same x t rest leads.2)

    spent_from_same : (s t : ℕ) (walk : List ℕ) → LeadsTo n step s t walk → spent_from c s walk ≡ spent_from d s walk
    spent_from_same s t [] leads = refl
    spent_from_same s t (x ∷ rest) leads = rw (same s s leads.0 leads.0, spent_from_same x t rest leads.2) refl

    total_from_same : (num den s t : ℕ) (walk : List ℕ) → LeadsTo n step s t walk → total_from c num den s walk ≡ total_from d num den s walk
    total_from_same num den s t [] leads = refl
    total_from_same num den s t (x ∷ rest) leads =
        ap (λ g. g +ℤ total_from c num den x rest) (step_total_same num den s x leads.0 (starts x t rest leads.2))
        ∙ ap (λ g. step_total d num den s x +ℤ g) (total_from_same num den x t rest leads.2)

    walk_gain_same : (s t : ℕ) (walk : List ℕ) → IsWalk n step s t walk → walk_gain c walk ≡ walk_gain d walk
    walk_gain_same s t [] is = absurd is
    walk_gain_same s t (x ∷ rest) is = gain_from_same x t rest is.1

    walk_spent_same : (s t : ℕ) (walk : List ℕ) → IsWalk n step s t walk → walk_spent c walk ≡ walk_spent d walk
    walk_spent_same s t [] is = absurd is
    walk_spent_same s t (x ∷ rest) is = spent_from_same x t rest is.1

    walk_total_same : (num den s t : ℕ) (walk : List ℕ) → IsWalk n step s t walk → walk_total c num den walk ≡ walk_total d num den walk
    walk_total_same num den s t [] is = absurd is
    walk_total_same num den s t (x ∷ rest) is = total_from_same num den x t rest is.1

    ratio_same : (num den : ℕ) (walk : List ℕ) → IsClosedWalk n step walk → HasPumpRatio c num den walk → HasPumpRatio d num den walk
    ratio_same num den walk closed has =
        subst (λ g. g *ℤ pos den ≡ pos (num * walk_spent d walk)) (walk_gain_same closed.0 closed.0 walk closed.1)
        (subst (λ k. walk_gain c walk *ℤ pos den ≡ pos (num * k)) (walk_spent_same closed.0 closed.0 walk closed.1) has)

    at_most_same : (num den : ℕ) (walk : List ℕ) → IsClosedWalk n step walk → PumpsAtMost c num den walk → PumpsAtMost d num den walk
    at_most_same num den walk closed at_most =
        subst (λ g. (g *ℤ pos den) ≤ℤ pos (num * walk_spent d walk)) (walk_gain_same closed.0 closed.0 walk closed.1)
        (subst (λ k. (walk_gain c walk *ℤ pos den) ≤ℤ pos (num * k)) (walk_spent_same closed.0 closed.0 walk closed.1) at_most)

  -- ---- over all walks

  weak_is : (s t : ℕ) → s < n → t < n → IsWeak c s t ↔ IsWeak d s t
  weak_is = weak_same n c d 1 1 same

  closed_same : (walk : List ℕ) → IsClosedWalk n (IsWeak c) walk → IsClosedWalk n (IsWeak d) walk
  closed_same walk closed = (closed.0, walk_same n (IsWeak c) (IsWeak d) weak_is closed.0 closed.0 walk closed.1, closed.2)

  closed_back : (walk : List ℕ) → IsClosedWalk n (IsWeak d) walk → IsClosedWalk n (IsWeak c) walk
  closed_back walk closed = (closed.0, walk_same_back n (IsWeak c) (IsWeak d) weak_is closed.0 closed.0 walk closed.1, closed.2)

  pub index_same : (num den : ℕ) → IsPumpIndex n c num den → IsPumpIndex n d num den
  index_same num den index = record {
    positive = index.positive;
    reached = (index.reached.0, closed_same index.reached.0 index.reached.1, ratio_same (IsWeak c) num den index.reached.0 index.reached.1 index.reached.2);
    greatest = λ walk closed. at_most_same (IsWeak d) num den walk closed (index.greatest walk (closed_back walk closed));
  }

  least_total_same : (num den s : ℕ) (x : ℤ) → IsLeastPumpTotal n c num den s x → IsLeastPumpTotal n d num den s x
  least_total_same num den s x least = record {
    reached = (
      least.reached.0,
      least.reached.1,
      walk_same n (IsWeak c) (IsWeak d) weak_is least.reached.0 s least.reached.1 least.reached.2,
      sym (walk_total_same (IsWeak c) num den least.reached.0 s least.reached.1 least.reached.2) ∙ least.reached.3,
    );
    lowest = λ t walk is.
        subst (λ y. x ≤ℤ y) (walk_total_same (IsWeak d) num den t s walk is)
        (least.lowest t walk (walk_same_back n (IsWeak c) (IsWeak d) weak_is t s walk is));
  }

  pub totals_same : (part : PumpPart) → HasLeastPumpTotals n c part → HasLeastPumpTotals n d part
  totals_same part has = record {
    one_each = has.one_each;
    least = λ s s_in. least_total_same part.num part.den s (value_at part.values s) (has.least s s_in);
  }

  bounds_same : (num den : ℕ) (values : List ℤ) (s : ℕ) → s < n → BoundsFrom n c num den values s → BoundsFrom n d num den values s
  bounds_same num den values s s_in bounds t t_in other weak =
      subst (λ x. value_at values t ≤ℤ (value_at values s +ℤ x)) (excess_same num den s t s_in t_in) (bounds t t_in other ((weak_is s t s_in t_in).1 weak))

  pub holds_same : (part : PumpPart) → PumpHolds n c part → PumpHolds n d part
  holds_same part holds = record {
    positive = holds.positive;
    num_fits = holds.num_fits;
    den_fits = holds.den_fits;
    cycle = record { few = holds.cycle.few; closed = closed_same part.cycle holds.cycle.closed };
    ratio = ratio_same (IsWeak c) part.num part.den part.cycle holds.cycle.closed holds.ratio;
    values = holds.values;
    bounds = λ s s_in. bounds_same part.num part.den part.values s s_in (holds.bounds s s_in);
  }
