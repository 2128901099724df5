-- The laws of supporting demand, in the words of its definitions.
use Rattle.std.proofs.Common.{◌≡◌, ◌<◌, ◌⊎◌, ◌↔◌, inl, inr, ℕ, List, [], ◌∷◌, refl, subst, ◌∙◌, ap, arith, ltb, cond, Bool, true, false}
use Rattle.std.proofs.lemmas.Bool.{lt-ltb, le-ltb}
use Rattle.rp_evidence.specs.Demand.{BudgetInput, FractionBundle, IsOnBudget, IsSupportingDemand, IsBelow, IsStrictlyBelow, CostsEnough, CostsMore, BuysWithRest, enlarged, spending}
use Rattle.rp_evidence.specs.Garp.{MeetsGarp}
use Rattle.rp_evidence.specs.Input.{TableInput}
use Rattle.rp_evidence.specs.Preference.{IsWeak, IsStrict}
use Rattle.rp_evidence.specs.Walk.{LeadsTo, IsWalk, HasStep, HasStepFrom}
use Rattle.rp_evidence.proofs.SupportingDemands.{IsEnlarged, Leads, LeadsStrictly, clear, only_in_table, costs_enough, costs_more}

pick : {A : Type 0} (b d : Bool) (x y : A) → b ≡ d → cond b x y ≡ cond d x y
pick b d x y e = ap (λ z. cond z x y) e

module _ (input : TableInput) (budget : BudgetInput) (bundle : FractionBundle) where
  pub is_enlarged : 0 < bundle.den → IsEnlarged input.n bundle.den budget.expenditure input.cost (enlarged input budget bundle) (λ t. spending input.goods (input.price t) bundle.num) (λ t. spending input.goods budget.prices (input.quantity t))
  is_enlarged some = record {
    some = some;
    within = λ s t a b. pick (ltb s input.n) true _ _ (lt-ltb s input.n a) ∙ pick (ltb t input.n) true _ _ (lt-ltb t input.n b);
    outward = λ s a. pick (ltb s input.n) true _ _ (lt-ltb s input.n a) ∙ pick (ltb input.n input.n) false _ _ (le-ltb input.n input.n (omega arith));
    inward = λ t b. pick (ltb input.n input.n) false _ _ (le-ltb input.n input.n (omega arith)) ∙ pick (ltb t input.n) true _ _ (lt-ltb t input.n b);
    itself = pick (ltb input.n input.n) false _ _ (le-ltb input.n input.n (omega arith)) ∙ pick (ltb input.n input.n) false _ _ (le-ltb input.n input.n (omega arith));
  }

  leads : (t : ℕ) → IsBelow input budget t → Leads input.n budget.expenditure input.cost (λ s. spending input.goods budget.prices (input.quantity s)) t
  leads t b = go b.walk b.leads
    where
      go : (w : List ℕ) → IsWalk input.n (IsWeak input.cost) b.from t w → Leads input.n budget.expenditure input.cost (λ s. spending input.goods budget.prices (input.quantity s)) t
      go [] l = absurd l
      go (x ∷ w) l = record { from = b.from; walk = w; bought = b.bought; leads = subst (λ z. LeadsTo input.n (IsWeak input.cost) z t w) l.0 l.1 }

  is_below : (t : ℕ) → Leads input.n budget.expenditure input.cost (λ s. spending input.goods budget.prices (input.quantity s)) t → IsBelow input budget t
  is_below t l = record { from = l.from; walk = l.from ∷ l.walk; bought = l.bought; leads = (refl, l.leads) }

  leads_strictly : (t : ℕ) → IsStrictlyBelow input budget t → LeadsStrictly input.n budget.expenditure input.cost (λ s. spending input.goods budget.prices (input.quantity s)) t
  leads_strictly t b = go b.walk b.leads b.strict
    where
      go : (w : List ℕ) → IsWalk input.n (IsWeak input.cost) b.from t w → BuysWithRest input budget b.from ⊎ HasStep (IsStrict input.cost) w
          → LeadsStrictly input.n budget.expenditure input.cost (λ s. spending input.goods budget.prices (input.quantity s)) t
      go [] l h = absurd l
      go (x ∷ w) l h = record {
        from = b.from;
        walk = w;
        bought = b.bought;
        leads = subst (λ z. LeadsTo input.n (IsWeak input.cost) z t w) l.0 l.1;
        strict = elim h [ inl k ↦ inl k | inr k ↦ inr (subst (λ z. HasStepFrom (IsStrict input.cost) z w) l.0 k) ];
      }

  is_strictly_below : (t : ℕ) → LeadsStrictly input.n budget.expenditure input.cost (λ s. spending input.goods budget.prices (input.quantity s)) t → IsStrictlyBelow input budget t
  is_strictly_below t l = record { from = l.from; walk = l.from ∷ l.walk; bought = l.bought; leads = (refl, l.leads); strict = l.strict }

  -- ---- a bundle on the budget keeps the axiom exactly where it costs enough

  pub keeps : MeetsGarp input.n input.cost → IsOnBudget input budget bundle → CostsEnough input budget bundle → CostsMore input budget bundle → IsSupportingDemand input budget bundle
  keeps sound on enough more = record {
    on_budget = on;
    meets = only_in_table input.n bundle.den budget.expenditure input.cost (enlarged input budget bundle) (λ t. spending input.goods (input.price t) bundle.num) (λ t. spending input.goods budget.prices (input.quantity t)) (is_enlarged on.fraction)
        (λ w. (clear input.n bundle.den budget.expenditure input.cost (enlarged input budget bundle) (λ t. spending input.goods (input.price t) bundle.num) (λ t. spending input.goods budget.prices (input.quantity t)) (is_enlarged on.fraction)
        (λ t a l. enough t a (is_below t l)) (λ t a l. more t a (is_strictly_below t l)) w).0)
        sound;
  }

  pub enough_where_kept : IsSupportingDemand input budget bundle → CostsEnough input budget bundle
  enough_where_kept kept t a b =
      costs_enough input.n bundle.den budget.expenditure input.cost (enlarged input budget bundle) (λ t. spending input.goods (input.price t) bundle.num) (λ t. spending input.goods budget.prices (input.quantity t)) (is_enlarged kept.on_budget.fraction)
      kept.meets t a (leads t b)

  pub more_where_kept : IsSupportingDemand input budget bundle → CostsMore input budget bundle
  more_where_kept kept t a b =
      costs_more input.n bundle.den budget.expenditure input.cost (enlarged input budget bundle) (λ t. spending input.goods (input.price t) bundle.num) (λ t. spending input.goods budget.prices (input.quantity t)) (is_enlarged kept.on_budget.fraction)
      kept.meets t a (leads_strictly t b)

pub supporting_exactly : (input : TableInput) (budget : BudgetInput) (bundle : FractionBundle) → MeetsGarp input.n input.cost → IsOnBudget input budget bundle
    → IsSupportingDemand input budget bundle ↔ (CostsEnough input budget bundle × CostsMore input budget bundle)
supporting_exactly input budget bundle sound on = (
  (λ kept. (enough_where_kept input budget bundle kept, more_where_kept input budget bundle kept)),
  (λ h. keeps input budget bundle sound on h.0 h.1),
)
