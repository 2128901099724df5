-- An inner demand exists: each observation has a count, and of finitely many bundles that the budget buys one comes first.
use Rattle.std.proofs.Common.{◌≡◌, ◌<◌, ◌≤◌, ◌+◌, ◌*◌, ◌⊎◌, inl, inr, ℕ, zero, suc, List, [], ◌∷◌, ◌++◌, All, length, refl, sym, subst, ◌∙◌, arith, slice_index}
use Rattle.std.proofs.lemmas.Bool.{cases_eq, cases_lt}
use Rattle.std.proofs.lemmas.List.{get_or_append_left, get_or_push, length_push}
use Rattle.std.proofs.lemmas.Nat.{mul-add-lt}
use Rattle.rp_table.specs.Cost.{cost_of}
use Rattle.rp_table.specs.Tables.{IsTable, Observations, goods_of, price_of, records_of}
use Rattle.rp_evidence.specs.Count.{AreCounts, IsCount}
use Rattle.rp_evidence.specs.Demand.{BudgetInput, Buys, FractionBundle, HasInnerSupport, IsInnerDemand, IsInnerStart, all_on_first, spending, with_rest_on_first}
use Rattle.rp_evidence.specs.DemandEvidence.{budget_of}
use Rattle.rp_evidence.specs.Garp.{MeetsGarp}
use Rattle.rp_evidence.specs.Input.{TableInput, input_of_table}
use Rattle.rp_evidence.specs.Preference.{IsWeak}
use Rattle.rp_evidence.proofs.IndexExists.{weak_decided}
use Rattle.rp_evidence.proofs.InnerDemand.{inner_demand_supports}
use Rattle.rp_evidence.proofs.Reachability.{count_of, count_of-counts}

-- the first n numbers of a sequence
listed : (f : ℕ → ℕ) (n : ℕ) → (xs : List ℕ) × (length xs ≡ n) × ((k : ℕ) → k < n → slice_index xs k ≡ f k)
listed f zero = ([], refl, λ k l. absurd (omega arith))
listed f (suc n) = more (listed f n)
  where
    more : (xs : List ℕ) × (length xs ≡ n) × ((k : ℕ) → k < n → slice_index xs k ≡ f k) → (xs : List ℕ) × (length xs ≡ suc n) × ((k : ℕ) → k < suc n → slice_index xs k ≡ f k)
    more r = (
      r.0 ++ f n ∷ [],
      omega (arith, length_push r.0 (f n), r.1),
      λ k l. elim (cases_eq k n) [
        | inl e ↦ get_or_push r.0 (f n) 0 k (omega (arith, r.1, e)) ∙ subst (λ x. f n ≡ f x) (sym e) refl
        | inr d ↦ get_or_append_left r.0 (f n ∷ []) 0 k (omega (arith, r.1, l, d)) ∙ r.2 k (omega (arith, l, d))
      ],
    )

module _ (P : ℕ → Type 0) (told : (t : ℕ) → P t ⊎ ¬ P t) (f : ℕ → ℕ) where
  -- of the numbers below n that meet P one at which f is greatest
  greatest_below : (n : ℕ) → ((s : ℕ) × (s < n) × P s × ((t : ℕ) → t < n → P t → f t ≤ f s)) ⊎ ((t : ℕ) → t < n → ¬ P t)
  greatest_below zero = inr (λ t l. absurd (omega arith))
  greatest_below (suc n) = go (greatest_below n) (told n)
    where
      go : ((s : ℕ) × (s < n) × P s × ((t : ℕ) → t < n → P t → f t ≤ f s)) ⊎ ((t : ℕ) → t < n → ¬ P t) → P n ⊎ ¬ P n
          → ((s : ℕ) × (s < suc n) × P s × ((t : ℕ) → t < suc n → P t → f t ≤ f s)) ⊎ ((t : ℕ) → t < suc n → ¬ P t)
      go (inl r) (inl p) = elim (cases_lt (f r.0) (f n)) [
        | inl more ↦ inl (
          n,
          omega arith,
          p,
          λ t l h. elim (cases_eq t n) [
            | inl e ↦ subst (λ x. f x ≤ f n) (sym e) (omega arith)
            | inr d ↦ (let k = r.3 t (omega (arith, l, d)) h in omega (arith, k, more))
          ],
        )
        | inr most ↦ inl (
          r.0,
          omega (arith, r.1),
          r.2,
          λ t l h. elim (cases_eq t n) [
            | inl e ↦ subst (λ x. f x ≤ f r.0) (sym e) most
            | inr d ↦ r.3 t (omega (arith, l, d)) h
          ],
        )
      ]
      go (inl r) (inr q) = inl (
        r.0,
        omega (arith, r.1),
        r.2,
        λ t l h. elim (cases_eq t n) [
          | inl e ↦ absurd (q (subst P e h))
          | inr d ↦ r.3 t (omega (arith, l, d)) h
        ],
      )
      go (inr none) (inl p) = inl (
        n,
        omega arith,
        p,
        λ t l h. elim (cases_eq t n) [
          | inl e ↦ subst (λ x. f x ≤ f n) (sym e) (omega arith)
          | inr d ↦ absurd (none t (omega (arith, l, d)) h)
        ],
      )
      go (inr none) (inr q) = inr (λ t l h. elim (cases_eq t n) [
        | inl e ↦ q (subst P e h)
        | inr d ↦ none t (omega (arith, l, d)) h
      ])

  -- of the numbers below n that meet P the first at which f is least
  first_least_below : (n : ℕ) → ((s : ℕ) × (s < n) × P s × ((t : ℕ) → t < n → P t → f s ≤ f t) × ((t : ℕ) → t < s → P t → f s < f t)) ⊎ ((t : ℕ) → t < n → ¬ P t)
  first_least_below zero = inr (λ t l. absurd (omega arith))
  first_least_below (suc n) = go (first_least_below n) (told n)
    where
      go : ((s : ℕ) × (s < n) × P s × ((t : ℕ) → t < n → P t → f s ≤ f t) × ((t : ℕ) → t < s → P t → f s < f t)) ⊎ ((t : ℕ) → t < n → ¬ P t) → P n ⊎ ¬ P n
          → ((s : ℕ) × (s < suc n) × P s × ((t : ℕ) → t < suc n → P t → f s ≤ f t) × ((t : ℕ) → t < s → P t → f s < f t)) ⊎ ((t : ℕ) → t < suc n → ¬ P t)
      go (inl r) (inl p) = elim (cases_lt (f n) (f r.0)) [
        | inl less ↦ inl (
          n,
          omega arith,
          p,
          λ t l h. elim (cases_eq t n) [
            | inl e ↦ subst (λ x. f n ≤ f x) (sym e) (omega arith)
            | inr d ↦ (let k = r.3 t (omega (arith, l, d)) h in omega (arith, k, less))
          ],
          λ t l h. let k = r.3 t l h in omega (arith, k, less),
        )
        | inr least ↦ inl (
          r.0,
          omega (arith, r.1),
          r.2,
          λ t l h. elim (cases_eq t n) [
            | inl e ↦ subst (λ x. f r.0 ≤ f x) (sym e) least
            | inr d ↦ r.3 t (omega (arith, l, d)) h
          ],
          r.4,
        )
      ]
      go (inl r) (inr q) = inl (
        r.0,
        omega (arith, r.1),
        r.2,
        λ t l h. elim (cases_eq t n) [
          | inl e ↦ absurd (q (subst P e h))
          | inr d ↦ r.3 t (omega (arith, l, d)) h
        ],
        r.4,
      )
      go (inr none) (inl p) = inl (
        n,
        omega arith,
        p,
        λ t l h. elim (cases_eq t n) [
          | inl e ↦ subst (λ x. f n ≤ f x) (sym e) (omega arith)
          | inr d ↦ absurd (none t (omega (arith, l, d)) h)
        ],
        λ t l h. absurd (none t l h),
      )
      go (inr none) (inr q) = inr (λ t l h. elim (cases_eq t n) [
        | inl e ↦ q (subst P e h)
        | inr d ↦ none t (omega (arith, l, d)) h
      ])

module _ (input : TableInput) (budget : BudgetInput) where
  buys_or_not : (t : ℕ) → Buys input budget t ⊎ ¬ Buys input budget t
  buys_or_not t = elim (cases_lt budget.expenditure (spending input.goods budget.prices (input.quantity t))) [
    | inl l ↦ inr (λ h. omega (arith, l, h))
    | inr l ↦ inl l
  ]

  counts_exist : (counts : List ℕ) × AreCounts input.n (IsWeak input.cost) counts
  counts_exist =
      let count = count_of input.n (IsWeak input.cost) (weak_decided input.cost 1 1) in
      let r = listed count input.n in (
        r.0,
        record {
          one_each = r.1;
          each = λ s l. subst (λ k. IsCount input.n (IsWeak input.cost) s k) (sym (r.2 s l)) (count_of-counts input.n (IsWeak input.cost) (weak_decided input.cost 1 1) s l);
        },
      )

  module _ (counts : List ℕ) where
    -- the bundles that the budget buys of observations with the count k
    abbrev BuysOf : ℕ → ℕ → Type 0
    BuysOf k t = Buys input budget t × (slice_index counts t ≡ k)

    buys_of_or_not : (k t : ℕ) → BuysOf k t ⊎ ¬ BuysOf k t
    buys_of_or_not k t = elim (buys_or_not t) [
      | inr n ↦ inr (λ h. n h.0)
      | inl b ↦ elim (cases_eq (slice_index counts t) k) [ inl e ↦ inl (b, e) | inr d ↦ inr (λ h. d h.1) ]
    ]

    start_exists : ((s : ℕ) × IsInnerStart input budget counts s) ⊎ ((s : ℕ) → s < input.n → ¬ Buys input budget s)
    start_exists = elim (greatest_below (Buys input budget) buys_or_not (slice_index counts) input.n) [
      | inr none ↦ inr none
      | inl g ↦ elim (first_least_below (BuysOf (slice_index counts g.0)) (buys_of_or_not (slice_index counts g.0)) (λ t. spending input.goods budget.prices (input.quantity t)) input.n) [
        | inr none ↦ absurd (none g.0 g.1 (g.2, refl))
        | inl r ↦ inl (
          r.0,
          record {
            observed = r.1;
            bought = r.2.0;
            greatest = λ t l b. let h = g.3 t l b in omega (arith, h, r.2.1);
            cheapest = λ t l b e. r.3 t l (b, e ∙ r.2.1);
            first = λ t l b e. r.4 t l (b, e ∙ r.2.1);
          },
        )
      ]
    ]

  pub inner_demand_exists : (bundle : FractionBundle) × IsInnerDemand input budget bundle
  inner_demand_exists =
      let c = counts_exist in
      elim (start_exists c.0) [
        | inl r ↦ (record { den = budget.prices 0; num = with_rest_on_first input budget r.0 }, record { over = refl; parts = inl (r.0, c.0, c.1, r.1, λ g l. refl) })
        | inr none ↦ (record { den = budget.prices 0; num = all_on_first budget }, record { over = refl; parts = inr (none, λ g l. refl) })
      ]

  pub has_inner_support : MeetsGarp input.n input.cost → 0 < input.goods → 0 < budget.prices 0 → ((t : ℕ) → t < input.n → 0 < input.price t 0) → HasInnerSupport input budget
  has_inner_support sound goods new old =
      let r = inner_demand_exists in (r.0, r.1, inner_demand_supports input budget sound goods new old r.0 r.1)

-- of a table within the limits
pub table_has_inner_support : (table : Observations) (prices : List ℕ) (m : ℕ) → IsTable table → length prices ≡ goods_of table → All (λ p. 1 ≤ p) prices
    → MeetsGarp (records_of table) (cost_of table) → HasInnerSupport (input_of_table table) (budget_of prices m)
table_has_inner_support table prices m valid each positive sound =
    has_inner_support (input_of_table table) (budget_of prices m) sound (omega (arith, valid.some_goods)) first old
  where
    first : 0 < slice_index prices 0
    first = let h = positive 0 0 (omega (arith, each, valid.some_goods)) in omega (arith, h)

    old : (t : ℕ) → t < records_of table → 0 < price_of table t 0
    old t t_in =
        let h = (valid.price_limits (t * goods_of table + 0) 0 (omega (arith, mul-add-lt t (goods_of table) 0 (records_of table) t_in (omega (arith, valid.some_goods)), valid.all_prices))).0 in
        omega (arith, h)
