-- The clauses of an item on demand, put together.
use Rattle.std.proofs.Common.{◌≡◌, ◌<◌, ◌+◌, ◌*◌, ℕ, Bool, IsTrue, List, [], ◌∷◌, Result, Ok, Err, length, refl, sym, subst, inl, inr, slice_index}
use Rattle.rp_evidence.specs.Demand.{BudgetInput, spending}
use Rattle.rp_evidence.specs.DemandEvidence.{budget_of, bundle_of}
use Rattle.rp_evidence.specs.Input.{TableInput}
use Rattle.rp_evidence.specs.Preference.{IsStrict, IsWeak}
use Rattle.rp_evidence.specs.declared.demand.DemandPart.{DemandPart}
use Rattle.rp_evidence.specs.declared.demand.DemandPart.TheVariants.{Bounds, NoModel}
use Rattle.rp_evidence.specs.declared.demand.GoodBounds.{GoodBounds}
use Rattle.rp_evidence.specs.declared.demand.Point.{Point as InnerPoint}
use Rattle.rp_evidence.specs.declared.failure.Failure.{Failure}
use Rattle.rp_evidence.specs.declared.failure.Reason.TheVariants.{NoGarp, Point}
use Rattle.rp_evidence.specs.Clauses.{InOrder, Unless, failure}
use Rattle.rp_check.specs.DemandFailure.{CostsEnoughAt, DemandBoundsFail, DemandFails, DemandPartFails, GoodsFail, InnerFails, SetsFail}
use Rattle.rp_clauses.specs.PricesFailure.{ExpenditureFails, PricesFail}
use Rattle.rp_clauses.specs.WalkFailure.{ViolationFails}

pub inner_fails_at : (input : TableInput) (budget : BudgetInput) (inner : InnerPoint) (r : Result (Unit {0}) Failure) (t : ℕ) → 0 < inner.den → length inner.num ≡ input.goods
    → spending input.goods budget.prices (slice_index inner.num) ≡ inner.den * budget.expenditure → t < input.n
    → ((k : ℕ) → k < t → CostsEnoughAt input budget (bundle_of inner) k) → ¬ CostsEnoughAt input budget (bundle_of inner) t
    → r ≡ Err (failure Point (t + 1)) → InnerFails input budget inner r
inner_fails_at input budget inner r t some goods spent t_in before not e =
    rw e (inr (some, inr (goods, inr (spent, inl (t, t_in, (not, refl), before)))))

pub part_fails : (input : TableInput) (garp_shown : Bool) (prices : List ℕ) (m : ℕ) (evidence : DemandPart) (r : Result (Unit {0}) Failure) → PricesFail input.goods prices (Ok tt) → ExpenditureFails m (Ok tt)
    → DemandPartFails input garp_shown (budget_of prices m) evidence r → DemandFails input garp_shown prices m evidence r
part_fails input garp_shown prices m evidence (Ok done) p e h = (p, (e, (h, tt)))
part_fails input garp_shown prices m evidence (Err found) p e h = inr (p, inr (e, inl h))

then_more : (first : Result (Unit {0}) Failure → Type 0) (rest : List (Result (Unit {0}) Failure → Type 0)) (r : Result (Unit {0}) Failure) → first (Ok tt) → InOrder rest r → InOrder (first ∷ rest) r
then_more first rest (Ok done) holds found = (holds, found)
then_more first rest (Err e) holds found = inr (holds, found)

module _ (input : TableInput) (garp_shown : Bool) (budget : BudgetInput) (evidence : DemandPart) (r : Result (Unit {0}) Failure) where
  pub from_bounds : (below strict below' strict' : List ℕ) (inner : InnerPoint) (goods goods' : List GoodBounds) → evidence ≡ Bounds below strict inner goods → below' ≡ below → strict' ≡ strict → goods' ≡ goods
      → DemandBoundsFail input garp_shown budget below' strict' inner goods' r → DemandPartFails input garp_shown budget evidence r
  from_bounds below strict below' strict' inner goods goods' is a b d h =
      subst (λ (p : DemandPart). DemandPartFails input garp_shown budget p r) (sym is)
      (subst (λ (xs : List ℕ). DemandBoundsFail input garp_shown budget xs strict inner goods r) a
      (subst (λ (ys : List ℕ). DemandBoundsFail input garp_shown budget below' ys inner goods r) b
      (subst (λ (zs : List GoodBounds). DemandBoundsFail input garp_shown budget below' strict' inner zs r) d h)))

  pub from_shown : IsTrue garp_shown → (below strict below' strict' : List ℕ) (inner : InnerPoint) (goods goods' : List GoodBounds) → evidence ≡ Bounds below strict inner goods → below' ≡ below → strict' ≡ strict → goods' ≡ goods
      → InOrder (SetsFail input budget below' strict' ∷ InnerFails input budget inner ∷ GoodsFail input budget below' goods' ∷ []) r → DemandPartFails input garp_shown budget evidence r
  from_shown shown below strict below' strict' inner goods goods' is a b d h =
      from_bounds below strict below' strict' inner goods goods' is a b d
      (then_more (Unless (IsTrue garp_shown) NoGarp 0) (SetsFail input budget below' strict' ∷ InnerFails input budget inner ∷ GoodsFail input budget below' goods' ∷ []) r shown h)

  pub from_none_shown : ¬ IsTrue garp_shown → (below strict : List ℕ) (inner : InnerPoint) (goods : List GoodBounds) → evidence ≡ Bounds below strict inner goods → r ≡ Err (failure NoGarp 0)
      → DemandPartFails input garp_shown budget evidence r
  from_none_shown none below strict inner goods is e =
      from_bounds below strict below strict inner goods goods is refl refl refl (rw e (inl (none, refl)))

  pub from_violation : (walk walk' : List ℕ) → evidence ≡ NoModel walk → walk' ≡ walk → ViolationFails input.n (IsWeak input.cost) (IsStrict input.cost) walk' r → DemandPartFails input garp_shown budget evidence r
  from_violation walk walk' is a h =
      subst (λ (p : DemandPart). DemandPartFails input garp_shown budget p r) (sym is) (subst (λ (w : List ℕ). ViolationFails input.n (IsWeak input.cost) (IsStrict input.cost) w r) a h)
