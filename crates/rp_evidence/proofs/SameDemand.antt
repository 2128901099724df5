-- Evidence on demand and welfare for one input is evidence for every other that agrees with it.
use Rattle.std.proofs.Common.{◌≡◌, ◌<◌, ◌≤◌, ◌+◌, ◌*◌, ◌⊎◌, inl, inr, ℕ, List, [], ◌∷◌, refl, sym, ap, subst, ◌∙◌, arith}
use Rattle.std.specs.Prelude.{slice_index, slice_index_or}
use Rattle.std.proofs.lemmas.Bool.{cases_lt}
use Rattle.rp_table.proofs.SpendingLaws.{spending-same}
use Rattle.rp_evidence.specs.Demand.{BudgetInput, FractionBundle, IsBelow, IsInfimum, IsStrictlyBelow, IsSupportingDemand, IsSupremum, enlarged, spending}
use Rattle.rp_evidence.specs.DemandEvidence.{ProvesDemand, ProvesLower, ProvesLowerWelfare, ProvesUpper, ProvesWelfare, budget_of, bundle_of}
use Rattle.rp_evidence.specs.DemandPrograms.{ListsBelow, ListsStrictlyBelow}
use Rattle.rp_evidence.specs.Input.{AgreeInputs, TableInput}
use Rattle.rp_evidence.specs.Preference.{AgreeBelow, IsStrict, IsWeak}
use Rattle.rp_evidence.specs.Walk.{HasStep, IsWalk}
use Rattle.rp_evidence.specs.Welfare.{EqualsOrReaches, IsInRegion, IsUpperWelfare}
use Rattle.rp_evidence.specs.declared.demand.Bound.{Bound}
use Rattle.rp_evidence.specs.declared.demand.Bound.TheVariants.{Shown, Wide}
use Rattle.rp_evidence.specs.declared.demand.DemandPart.{DemandPart}
use Rattle.rp_evidence.specs.declared.demand.DemandPart.TheVariants.{Bounds, NoModel}
use Rattle.rp_evidence.specs.declared.demand.WelfarePart.{WelfarePart}
use Rattle.rp_evidence.specs.declared.demand.WelfarePart.TheVariants.{Bounds as WelfareBounds, NoModel as NoWelfare}
use Rattle.rp_evidence.proofs.DemandLaws.{is_enlarged}
use Rattle.rp_evidence.proofs.SupportingDemands.{IsEnlarged}
use Rattle.rp_evidence.proofs.SameCosts.{meets_same, strict_same, violation_same, walk_same, weak_same}
use Rattle.rp_evidence.proofs.Walks.{ends_below, has_weaker_step, starts_below}

-- the law that costs are sums
abbrev pub AreSums : ℕ → ℕ → (ℕ → ℕ → ℕ) → (ℕ → ℕ → ℕ) → (ℕ → ℕ → ℕ) → Type 0
AreSums n goods price quantity cost = (s t : ℕ) → s < n → t < n → cost s t ≡ spending goods (price s) (quantity t)

-- the same numbers at n observations of these goods
abbrev pub SameNumbers : ℕ → ℕ → (ℕ → ℕ → ℕ) → (ℕ → ℕ → ℕ) → Type 0
SameNumbers n goods f g = (s k : ℕ) → s < n → k < goods → f s k ≡ g s k

abbrev pub input_with : (n goods : ℕ) (levels : List ℕ) (price quantity cost : ℕ → ℕ → ℕ) → AreSums n goods price quantity cost → TableInput
input_with n goods levels price quantity cost sums = record { n = n; goods = goods; price = price; quantity = quantity; cost = cost; levels = levels; sums = sums }

walk_starts : (n : ℕ) (step : ℕ → ℕ → Type 0) (s t : ℕ) (w : List ℕ) → IsWalk n step s t w → s < n
walk_starts n step s t [] l = absurd l
walk_starts n step s t (x ∷ w) l = subst (λ z. z < n) l.0 (starts_below n step x t w l.1)

walk_ends : (n : ℕ) (step : ℕ → ℕ → Type 0) (s t : ℕ) (w : List ℕ) → IsWalk n step s t w → t < n
walk_ends n step s t [] l = absurd l
walk_ends n step s t (x ∷ w) l = ends_below n step x t w l.1

module _ (n goods : ℕ) (levels levels' : List ℕ) (p p' q q' c c' : ℕ → ℕ → ℕ) (sums : AreSums n goods p q c) (sums' : AreSums n goods p' q' c') (pe : SameNumbers n goods p p') (qe : SameNumbers n goods q q') where
  abbrev here : TableInput
  here = input_with n goods levels p q c sums

  abbrev there : TableInput
  there = input_with n goods levels' p' q' c' sums'

  costs_same : AgreeBelow n c c'
  costs_same s t a b =
      sums s t a b
      ∙ (spending-same goods goods (p s) (q t) (p' s) (q' t) refl (λ g. pe s g a) (λ g. qe t g b)
      ∙ sym (sums' s t a b))

  spend_at : (s : ℕ) (x : ℕ → ℕ) → s < n → spending goods (p s) x ≡ spending goods (p' s) x
  spend_at s x a = spending-same goods goods (p s) x (p' s) x refl (λ g. pe s g a) (λ g l. refl)

  spend_on : (prices : ℕ → ℕ) (t : ℕ) → t < n → spending goods prices (q t) ≡ spending goods prices (q' t)
  spend_on prices t a = spending-same goods goods prices (q t) prices (q' t) refl (λ g l. refl) (λ g. qe t g a)

  enlarged_same : (b : BudgetInput) (x : FractionBundle) → 0 < x.den → AgreeBelow (n + 1) (enlarged here b x) (enlarged there b x)
  enlarged_same b x some s t s_in t_in = go (cases_lt s n) (cases_lt t n)
    where
      e : IsEnlarged n x.den b.expenditure c (enlarged here b x) (λ t. spending goods (p t) x.num) (λ t. spending goods b.prices (q t))
      e = is_enlarged here b x some

      e' : IsEnlarged n x.den b.expenditure c' (enlarged there b x) (λ t. spending goods (p' t) x.num) (λ t. spending goods b.prices (q' t))
      e' = is_enlarged there b x some

      go : (s < n) ⊎ (n ≤ s) → (t < n) ⊎ (n ≤ t) → enlarged here b x s t ≡ enlarged there b x s t
      go (inl a) (inl d) = e.within s t a d ∙ (ap (λ v. x.den * v) (costs_same s t a d) ∙ sym (e'.within s t a d))
      go (inl a) (inr d) =
          let same : n ≡ t = omega arith in
          subst (λ z. enlarged here b x s z ≡ enlarged there b x s z) same (e.outward s a ∙ (spend_at s x.num a ∙ sym (e'.outward s a)))
      go (inr a) (inl d) =
          let same : n ≡ s = omega arith in
          subst (λ z. enlarged here b x z t ≡ enlarged there b x z t) same (e.inward t d ∙ (ap (λ v. x.den * v) (spend_on b.prices t d) ∙ sym (e'.inward t d)))
      go (inr a) (inr d) =
          let same : n ≡ s = omega arith in
          let same' : n ≡ t = omega arith in
          subst (λ z. enlarged here b x z t ≡ enlarged there b x z t) same
          (subst (λ z. enlarged here b x n z ≡ enlarged there b x n z) same' (e.itself ∙ sym e'.itself))

  pub supporting_there : (b : BudgetInput) (x : FractionBundle) → IsSupportingDemand here b x → IsSupportingDemand there b x
  supporting_there b x kept = record {
    on_budget = record { fraction = kept.on_budget.fraction; spent = kept.on_budget.spent };
    meets = meets_same (n + 1) (enlarged here b x) (enlarged there b x) 1 1 (enlarged_same b x kept.on_budget.fraction) kept.meets;
  }

  pub led_there : (s t : ℕ) (w : List ℕ) → IsWalk n (IsWeak c) s t w → IsWalk n (IsWeak c') s t w
  led_there = walk_same n (IsWeak c) (IsWeak c') (weak_same n c c' 1 1 costs_same)

  pub below_there : (b : BudgetInput) (t : ℕ) → IsBelow here b t → IsBelow there b t
  below_there b t below = record {
    from = below.from;
    walk = below.walk;
    bought = subst (λ v. v ≤ b.expenditure) (spend_on b.prices below.from (walk_starts n (IsWeak c) below.from t below.walk below.leads)) below.bought;
    leads = led_there below.from t below.walk below.leads;
  }

  has_strict : (s t : ℕ) (w : List ℕ) → IsWalk n (IsWeak c) s t w → HasStep (IsStrict c) w → HasStep (IsStrict c') w
  has_strict s t [] l h = absurd l
  has_strict s t (x ∷ w) l h = has_weaker_step n (IsWeak c) (IsStrict c) (IsStrict c') (λ u v a d. (strict_same n c c' 1 1 costs_same u v a d).0) x t w l.1 h

  pub strictly_there : (b : BudgetInput) (t : ℕ) → IsStrictlyBelow here b t → IsStrictlyBelow there b t
  strictly_there b t below =
      let starts = walk_starts n (IsWeak c) below.from t below.walk below.leads in
      record {
        from = below.from;
        walk = below.walk;
        bought = subst (λ v. v ≤ b.expenditure) (spend_on b.prices below.from starts) below.bought;
        leads = led_there below.from t below.walk below.leads;
        strict = elim below.strict [
          | inl k ↦ inl (subst (λ v. v < b.expenditure) (spend_on b.prices below.from starts) k)
          | inr k ↦ inr (has_strict below.from t below.walk below.leads k)
        ];
      }

  pub reaches_there : (s t : ℕ) → EqualsOrReaches here s t → EqualsOrReaches there s t
  reaches_there s t r = (r.0, led_there s t r.0 r.1)

-- ---- what needs both ways

module _ (n goods : ℕ) (levels levels' : List ℕ) (p p' q q' c c' : ℕ → ℕ → ℕ) (sums : AreSums n goods p q c) (sums' : AreSums n goods p' q' c') (pe : SameNumbers n goods p p') (qe : SameNumbers n goods q q') where
  pe' : SameNumbers n goods p' p
  pe' s g a b = sym (pe s g a b)

  qe' : SameNumbers n goods q' q
  qe' s g a b = sym (qe s g a b)

  abbrev one : TableInput
  one = input_with n goods levels p q c sums

  abbrev two : TableInput
  two = input_with n goods levels' p' q' c' sums'

  pub infimum_there : (b : BudgetInput) (g num den : ℕ) → IsInfimum one b g num den → IsInfimum two b g num den
  infimum_there b g num den is = record {
    fraction = is.fraction;
    none_less = λ x kept. is.none_less x (supporting_there n goods levels' levels p' p q' q c' c sums' sums pe' qe' b x kept);
    approached = λ num' den' some above.
        let r = is.approached num' den' some above in
        (r.0, supporting_there n goods levels levels' p p' q q' c c' sums sums' pe qe b r.0 r.1, r.2);
  }

  pub supremum_there : (b : BudgetInput) (g num den : ℕ) → IsSupremum one b g num den → IsSupremum two b g num den
  supremum_there b g num den is = record {
    fraction = is.fraction;
    none_more = λ x kept. is.none_more x (supporting_there n goods levels' levels p' p q' q c' c sums' sums pe' qe' b x kept);
    approached = λ num' den' some under.
        let r = is.approached num' den' some under in
        (r.0, supporting_there n goods levels levels' p p' q q' c c' sums sums' pe qe b r.0 r.1, r.2);
  }

  pub lists_there : (b : BudgetInput) (below : List ℕ) → ListsBelow one b below → ListsBelow two b below
  lists_there b below lists = record {
    rising = lists.rising;
    just_these = λ t. (
      (λ has. let r = (lists.just_these t).0 has in (r.0, below_there n goods levels levels' p p' q q' c c' sums sums' pe qe b t r.1)),
      (λ r. (lists.just_these t).1 (r.0, below_there n goods levels' levels p' p q' q c' c sums' sums pe' qe' b t r.1)),
    );
  }

  pub strict_lists_there : (b : BudgetInput) (strict : List ℕ) → ListsStrictlyBelow one b strict → ListsStrictlyBelow two b strict
  strict_lists_there b strict lists = record {
    rising = lists.rising;
    just_these = λ t. (
      (λ has. let r = (lists.just_these t).0 has in (r.0, strictly_there n goods levels levels' p p' q q' c c' sums sums' pe qe b t r.1)),
      (λ r. (lists.just_these t).1 (r.0, strictly_there n goods levels' levels p' p q' q c' c sums' sums pe' qe' b t r.1)),
    );
  }

  lower_there : (b : BudgetInput) (g : ℕ) (bound : Bound) → ProvesLower one b g bound → ProvesLower two b g bound
  lower_there b g (Shown value pair) proves = infimum_there b g value.num value.den proves
  lower_there b g (Wide step) proves = proves

  upper_there : (b : BudgetInput) (g : ℕ) (bound : Bound) → ProvesUpper one b g bound → ProvesUpper two b g bound
  upper_there b g (Shown value pair) proves = supremum_there b g value.num value.den proves
  upper_there b g (Wide step) proves = proves

  pub demand_there : (prices : List ℕ) (m : ℕ) (part : DemandPart) → ProvesDemand one prices m part → ProvesDemand two prices m part
  demand_there prices m (Bounds below strict inner bounds) (fits, is) = (
    fits,
    record {
      sound = meets_same n c c' 1 1 (costs_same n goods levels levels' p p' q q' c c' sums sums' pe qe) is.sound;
      below_listed = lists_there (budget_of prices m) below is.below_listed;
      strict_listed = strict_lists_there (budget_of prices m) strict is.strict_listed;
      inner_goods = is.inner_goods;
      inner_supports = supporting_there n goods levels levels' p p' q q' c c' sums sums' pe qe (budget_of prices m) (bundle_of inner) is.inner_supports;
      one_each = is.one_each;
      each = λ g d l.
          let both = is.each g d l in
          (lower_there (budget_of prices m) g (slice_index_or bounds g d).lower both.0, upper_there (budget_of prices m) g (slice_index_or bounds g d).upper both.1);
    },
  )
  demand_there prices m (NoModel walk) v = violation_same n c c' 1 1 (costs_same n goods levels levels' p p' q q' c c' sums sums' pe qe) walk v

  -- ---- welfare

  region_back : (t : ℕ) (x : FractionBundle) → IsInRegion two t x → IsInRegion one t x
  region_back t x r = record { fraction = r.fraction; dear = dear }
    where
      dear : (s : ℕ) → EqualsOrReaches one t s → x.den * c s s ≤ spending goods (p s) x.num
      dear s reach =
          let there = reaches_there n goods levels levels' p p' q q' c c' sums sums' pe qe t s reach in
          let s_in = walk_ends n (IsWeak c) t s reach.0 reach.1 in
          let e = costs_same n goods levels levels' p p' q q' c c' sums sums' pe qe s s s_in s_in in
          let f = spend_at n goods levels levels' p p' q q' c c' sums sums' pe qe s x.num s_in in
          subst (λ v. x.den * c s s ≤ v) (sym f) (subst (λ v. x.den * v ≤ spending goods (p' s) x.num) (sym e) (r.dear s there))

  region_there : (t : ℕ) (x : FractionBundle) → IsInRegion one t x → IsInRegion two t x
  region_there t x r = record { fraction = r.fraction; dear = dear }
    where
      dear : (s : ℕ) → EqualsOrReaches two t s → x.den * c' s s ≤ spending goods (p' s) x.num
      dear s reach =
          let there = reaches_there n goods levels' levels p' p q' q c' c sums' sums pe' qe' t s reach in
          let s_in = walk_ends n (IsWeak c') t s reach.0 reach.1 in
          let e = costs_same n goods levels levels' p p' q q' c c' sums sums' pe qe s s s_in s_in in
          let f = spend_at n goods levels levels' p p' q q' c c' sums sums' pe qe s x.num s_in in
          subst (λ v. x.den * c' s s ≤ v) f (subst (λ v. x.den * v ≤ spending goods (p s) x.num) e (r.dear s there))

  lower_welfare_there : (prices : ℕ → ℕ) (t : ℕ) (bound : Bound) → ProvesLowerWelfare one prices t bound → ProvesLowerWelfare two prices t bound
  lower_welfare_there prices t (Shown value pair) is = record {
    fraction = is.fraction;
    none_less = λ x r. is.none_less x (region_back t x r);
    reached = (is.reached.0, region_there t is.reached.0 is.reached.1, is.reached.2);
  }
  lower_welfare_there prices t (Wide step) is = is

  upper_welfare_there : (prices : ℕ → ℕ) (t s cost : ℕ) → IsUpperWelfare one prices t s cost → IsUpperWelfare two prices t s cost
  upper_welfare_there prices t s cost is = record {
    observed = is.observed;
    leads = reaches_there n goods levels levels' p p' q q' c c' sums sums' pe qe s t is.leads;
    costs = sym (spend_on n goods levels levels' p p' q q' c c' sums sums' pe qe prices s is.observed) ∙ is.costs;
    least = λ r reach.
        let back = reaches_there n goods levels' levels p' p q' q c' c sums' sums pe' qe' r t reach in
        let r_in = walk_starts n (IsWeak c') r t reach.0 reach.1 in
        subst (λ v. cost ≤ v) (spend_on n goods levels levels' p p' q q' c c' sums sums' pe qe prices r r_in) (is.least r back);
  }

  pub welfare_there : (prices : List ℕ) (t : ℕ) (part : WelfarePart) → ProvesWelfare one prices t part → ProvesWelfare two prices t part
  welfare_there prices t (WelfareBounds upper at lower) (fits, is) = (
    fits,
    record {
      sound = meets_same n c c' 1 1 (costs_same n goods levels levels' p p' q q' c c' sums sums' pe qe) is.sound;
      observed = is.observed;
      upper_is = upper_welfare_there (slice_index prices) t at upper is.upper_is;
      lower_is = lower_welfare_there (slice_index prices) t lower is.lower_is;
    },
  )
  welfare_there prices t (NoWelfare walk) v = violation_same n c c' 1 1 (costs_same n goods levels levels' p p' q q' c c' sums sums' pe qe) walk v

-- ---- for inputs that agree

module _ (input other : TableInput) (agree : AgreeInputs input other) where
  -- the other input at the first one's sizes, and then at its own
  pub demand_same : (prices : List ℕ) (m : ℕ) (part : DemandPart) → ProvesDemand input prices m part → ProvesDemand other prices m part
  demand_same prices m part proves =
      sized other.n other.goods agree.n agree.goods other.sums
    where
      sized : (n goods : ℕ) → input.n ≡ n → input.goods ≡ goods → (sums' : AreSums n goods other.price other.quantity other.cost)
          → ProvesDemand (input_with n goods other.levels other.price other.quantity other.cost sums') prices m part
      sized n goods en eg =
          subst (λ n. (sums' : AreSums n goods other.price other.quantity other.cost) → ProvesDemand (input_with n goods other.levels other.price other.quantity other.cost sums') prices m part) en
          (subst (λ goods. (sums' : AreSums input.n goods other.price other.quantity other.cost) → ProvesDemand (input_with input.n goods other.levels other.price other.quantity other.cost sums') prices m part) eg
          (λ sums'. demand_there input.n input.goods input.levels other.levels input.price other.price input.quantity other.quantity input.cost other.cost input.sums sums' agree.prices agree.quantities prices m part proves))

  pub welfare_same : (prices : List ℕ) (t : ℕ) (part : WelfarePart) → ProvesWelfare input prices t part → ProvesWelfare other prices t part
  welfare_same prices t part proves =
      sized other.n other.goods agree.n agree.goods other.sums
    where
      sized : (n goods : ℕ) → input.n ≡ n → input.goods ≡ goods → (sums' : AreSums n goods other.price other.quantity other.cost)
          → ProvesWelfare (input_with n goods other.levels other.price other.quantity other.cost sums') prices t part
      sized n goods en eg =
          subst (λ n. (sums' : AreSums n goods other.price other.quantity other.cost) → ProvesWelfare (input_with n goods other.levels other.price other.quantity other.cost sums') prices t part) en
          (subst (λ goods. (sums' : AreSums input.n goods other.price other.quantity other.cost) → ProvesWelfare (input_with input.n goods other.levels other.price other.quantity other.cost sums') prices t part) eg
          (λ sums'. welfare_there input.n input.goods input.levels other.levels input.price other.price input.quantity other.quantity input.cost other.cost input.sums sums' agree.prices agree.quantities prices t part proves))
