-- What an equal pair of the program of mixtures shows.
use Rattle.std.proofs.Common.{◌≡◌, ◌≢◌, ◌<◌, ◌≤◌, ◌+◌, ◌*◌, ℕ, ℤ, zero, suc, pos, ◌+ℤ◌, ◌*ℤ◌, ◌≤ℤ◌, Bool, true, false, List, [], ◌∷◌, All, Contains, length, get_or, map, slice_index, slice_index_or, refl, sym, ap, subst, ◌∙◌, arith, if◌then◌else◌}
use Rattle.std.proofs.lemmas.Int.{ints}
use Rattle.std.proofs.lemmas.List.Elements.{All-map}
use Rattle.std.proofs.lemmas.List.{get_or-map, length-map, get_or_default}
use Rattle.rp_evidence.specs.declared.random.RandomPart.{RandomPart}
use Rattle.rp_evidence.specs.declared.random.RandomPart.TheVariants.{Mixture, Violated, Wide}
use Rattle.rp_evidence.specs.declared.random.Share.{Share}
use Rattle.rp_evidence.proofs.DemandBounds.{total_of_sum}
use Rattle.rp_farkas.specs.Best.{HasNoBound}
use Rattle.rp_farkas.specs.Limits.{FitsEvidence}
use Rattle.rp_farkas.specs.LinearProgram.{LinearProgram}
use Rattle.rp_farkas.specs.Listing.{IsListing, numerator_at}
use Rattle.rp_farkas.specs.PairCheck.{IsShownPair}
use Rattle.rp_farkas.specs.Prices.{IsFeasiblePrices, value_of_prices}
use Rattle.rp_farkas.specs.Total.{total}
use Rattle.rp_farkas.specs.declared.entry.Entry.{Entry}
use Rattle.rp_farkas.specs.declared.entry.Pair.{Pair}
use Rattle.rp_farkas.proofs.Duality.{weak_duality}
use Rattle.rp_farkas.proofs.Listings.{listed_total}
use Rattle.rp_farkas.proofs.SumSteps.{total-listing}
use Rattle.rp_table.specs.Sums.{sum_below}
use Rattle.rp_table.proofs.SumsBelow.{sum_below-same}
use Rattle.rp_patch.specs.Kinds.{AreAllOf, AreWhole, IsMixtureOf, IsPartialMixtureOf, Kinds, ProvesNoMixtureOf, all_units_weight, cells_weight, mixture_program, uses, weight_of, weight_using}
use Rattle.rp_patch.proofs.KindWeights.{at_most_all, is_greatest, makes_all, none_makes, of_cons, on_cons, weighed}
use Rattle.rp_simplex.specs.Outcome.{IsOutcome}
use Rattle.rp_simplex.specs.SameOutcome.{IsSameOutcome}
use Rattle.rp_simplex.specs.declared.outcome.Outcome.{Outcome}
use Rattle.rp_simplex.specs.declared.outcome.Outcome.TheVariants.{Optimal}
use Rattle.rp_find_mixture.specs.MixtureVerdict.{IsOutcomeVerdict, IsPairVerdict, IsRunVerdict, ProvesMixture, shares_of}

-- ---- totals as sums

listed_all : (kinds : List (List ℕ)) (es : List Entry) → listed_total (λ j. pos 1) es ≡ pos (weight_of (shares_of kinds es))
listed_all kinds [] = refl
listed_all kinds (e ∷ es) =
    one e.value (weight_of (shares_of kinds es)) _ (listed_all kinds es)
    ∙ ap pos (sym (of_cons (record { patches = slice_index_or kinds e.at []; weight = e.value }) (shares_of kinds es)))
  where
    one : (v r : ℕ) (rest : ℤ) → rest ≡ pos r → (pos 1 *ℤ pos v) +ℤ rest ≡ pos (v + r)
    one v r rest is = omega (arith, ints, is)

total_used : (cells : List ℕ) (x : ℕ → ℕ) (n : ℕ) → total n (λ i. (if uses cells i then pos 1 else pos 0) *ℤ pos (x i)) ≡ pos (sum_below n (λ i. if uses cells i then x i else 0))
unfolding total
total_used cells x zero = refl
total_used cells x (suc n) = by (uses cells n) (x n) (sum_below n (λ i. if uses cells i then x i else 0)) _ (total_used cells x n)
  where
    by : (b : Bool) (v r : ℕ) (rest : ℤ) → rest ≡ pos r → rest +ℤ ((if b then pos 1 else pos 0) *ℤ pos v) ≡ pos (r + (if b then v else 0))
    by true v r rest is = omega (arith, ints, is)
    by false v r rest is = omega (arith, ints, is)

-- ---- the run does not end unbounded

prices_bound : (p : LinearProgram) (den : ℕ) (x : ℕ → ℕ) → IsFeasiblePrices p den x → HasNoBound p → ⊥
prices_bound p den x feasible none =
    let beyond = none (value_of_prices p x) den feasible.den_positive in
    let h = weak_duality p beyond.den den beyond.point x beyond.feasible feasible in
    omega (arith, ints, h, beyond.above)

ones : (n : ℕ) → sum_below n (λ j. 1) ≡ n
ones zero = refl
ones (suc n) = omega (arith, ones n)

module _ (k : Kinds) where
  listed_on : (kinds : List (List ℕ)) (i : ℕ) (es : List Entry) → listed_total (λ j. if uses (k.used (slice_index_or kinds j [])) i then pos 1 else pos 0) es ≡ pos (weight_using k (shares_of kinds es) i)
  listed_on kinds i [] = refl
  listed_on kinds i (e ∷ es) =
      by (uses (k.used (slice_index_or kinds e.at [])) i) e.value (weight_using k (shares_of kinds es) i) _ (listed_on kinds i es)
      ∙ ap pos (sym (on_cons k (record { patches = slice_index_or kinds e.at []; weight = e.value }) (shares_of kinds es) i))
    where
      by : (b : Bool) (v r : ℕ) (rest : ℤ) → rest ≡ pos r → ((if b then pos 1 else pos 0) *ℤ pos v) +ℤ rest ≡ pos ((if b then v else 0) + r)
      by true v r rest is = omega (arith, ints, is)
      by false v r rest is = omega (arith, ints, is)

  module _ (is : AreWhole k) (kinds : List (List ℕ)) (all : AreAllOf k.IsKind kinds) where
    kind_at : (j : ℕ) → j < length kinds → k.IsKind (slice_index_or kinds j [])
    kind_at j l = (all.just_these (slice_index_or kinds j [])).0 (j, l, get_or_default kinds j (slice_index_or kinds j []) [] l)

    pub has_bound : HasNoBound (mixture_program k kinds) → ⊥
    has_bound = prices_bound (mixture_program k kinds) 1 (λ i. 1) (record { den_positive = omega arith; columns_hold = columns })
      where
        columns : (j : ℕ) → j < length kinds → (pos 1 *ℤ pos 1) ≤ℤ total k.cells (λ i. (if uses (k.used (slice_index_or kinds j [])) i then pos 1 else pos 0) *ℤ pos 1)
        columns j l =
            let cells = k.used (slice_index_or kinds j []) in
            let one = is.one_of_each (slice_index_or kinds j []) (kind_at j l) in
            let sum = weighed k (λ i. 1) cells one ∙ ones (length cells) in
            let many : 1 ≤ sum_below k.cells (λ i. if uses cells i then 1 else 0) = omega (arith, sum, one.one_each, is.some_groups) in
            rw (total_used cells (λ i. 1) k.cells) (omega (arith, ints, many))

    module _ (pair : Pair) (shown : IsShownPair (mixture_program k kinds) pair) where
      abbrev parts : List Share
      parts = shares_of kinds pair.y

      on : (i : ℕ) → total (length kinds) (λ j. (if uses (k.used (slice_index_or kinds j [])) i then pos 1 else pos 0) *ℤ pos (numerator_at pair.y j)) ≡ pos (weight_using k parts i)
      on i = total-listing (λ j. if uses (k.used (slice_index_or kinds j [])) i then pos 1 else pos 0) (length kinds) pair.y shown.y_listed ∙ listed_on kinds i pair.y

      within : (i : ℕ) → i < k.cells → weight_using k parts i ≤ pair.den * k.units i
      within i l =
          let row : pos (weight_using k parts i) ≤ℤ (pos (k.units i) *ℤ pos pair.den) =
          subst (λ (z : ℤ). z ≤ℤ (pos (k.units i) *ℤ pos pair.den)) (on i) (shown.equal.point.rows_hold i l) in
          omega (arith, ints, row)

      as_part : Entry → Share
      as_part entry = record { patches = slice_index_or kinds entry.at []; weight = entry.value }

      parts_are : parts ≡ map as_part pair.y
      unfolding as_part
      parts_are = refl

      kind_of : (entry : Entry) → (as_part entry).patches ≡ slice_index_or kinds entry.at []
      unfolding as_part
      kind_of entry = refl

      are_kinds : (part : Share) → Contains parts part → k.IsKind part.patches
      are_kinds part given =
          let h = subst (λ (qs : List Share). Contains qs part) parts_are given in
          let in_y : h.0 < length pair.y = omega (arith, h.1, length-map pair.y as_part) in
          let e0 : Entry = record { at = 0; value = 0 } in
          let entry = get_or pair.y h.0 e0 in
          let there = get_or-map as_part pair.y h.0 e0 part in_y in
          subst (λ (q : Share). k.IsKind q.patches) (sym there ∙ h.2)
          (subst (λ (t : List ℕ). k.IsKind t) (sym (kind_of entry)) (kind_at entry.at (shown.y_listed.columns h.0 e0 in_y)))

      pub partial : IsPartialMixtureOf k pair.den parts
      partial = record { fraction = shown.den_positive; kinds = are_kinds; within = within }

      value : total (length kinds) (λ j. pos 1 *ℤ pos (numerator_at pair.y j)) ≡ pos (weight_of parts)
      value = total-listing (λ j. pos 1) (length kinds) pair.y shown.y_listed ∙ listed_all kinds pair.y

      cost : total k.cells (λ i. pos (k.units i) *ℤ pos (slice_index pair.x i)) ≡ pos (all_units_weight k pair.x)
      cost = total_of_sum k.cells k.units (slice_index pair.x)
          ∙ ap pos (sum_below-same (λ i. k.units i * slice_index pair.x i) (λ i. slice_index pair.x i * k.units i) k.cells (λ i l. omega arith))

      pub same : weight_of parts ≡ all_units_weight k pair.x
      same = let e : pos (weight_of parts) ≡ pos (all_units_weight k pair.x) = sym value ∙ shown.equal.equal ∙ cost in omega (arith, ints, e)

      pub heavy : (kind : List ℕ) → k.IsKind kind → pair.den ≤ cells_weight pair.x (k.used kind)
      heavy kind r =
          let h = (all.just_these kind).1 r in
          let there : slice_index_or kinds h.0 [] ≡ kind = sym (get_or_default kinds h.0 kind [] h.1) ∙ h.2 in
          let column : (pos 1 *ℤ pos pair.den) ≤ℤ pos (sum_below k.cells (λ i. if uses (k.used (slice_index_or kinds h.0 [])) i then slice_index pair.x i else 0)) =
          subst (λ (z : ℤ). (pos 1 *ℤ pos pair.den) ≤ℤ z) (total_used (k.used (slice_index_or kinds h.0 [])) (slice_index pair.x) k.cells) (shown.equal.prices.columns_hold h.0 h.1) in
          let column' : (pos 1 *ℤ pos pair.den) ≤ℤ pos (sum_below k.cells (λ i. if uses (k.used kind) i then slice_index pair.x i else 0)) =
          subst (λ (t : List ℕ). (pos 1 *ℤ pos pair.den) ≤ℤ pos (sum_below k.cells (λ i. if uses (k.used t) i then slice_index pair.x i else 0))) there column in
          let sum = weighed k (slice_index pair.x) (k.used kind) (is.one_of_each kind r) in
          omega (arith, ints, column', sum)

      pub whole_mixture : weight_of parts ≡ pair.den * k.total → IsMixtureOf k pair.den parts
      whole_mixture whole = makes_all k is pair.den parts partial whole

      pub no_mixture : weight_of parts ≢ pair.den * k.total → ProvesNoMixtureOf k pair.den parts pair.x
      no_mixture less =
          let most = at_most_all k is pair.den parts partial in record {
            none = none_makes k is pair.den pair.x heavy parts same (omega (arith, less, most));
            partial = partial;
            greatest = is_greatest k is pair.den pair.x heavy parts same;
            one_each = shown.x_length;
            weighs = heavy;
          }

      pub proves_shown : (part : RandomPart) → IsPairVerdict k kinds pair part → ProvesMixture k part
      proves_shown (Mixture den found) h = subst (λ (d : ℕ). ProvesMixture k (Mixture d found)) (sym h.0)
          (subst (λ (ps : List Share). ProvesMixture k (Mixture pair.den ps)) (sym h.1) (whole_mixture (ap weight_of (sym h.1) ∙ h.2 ∙ ap (λ d. d * k.total) h.0)))
      proves_shown (Violated den found weights) h = subst (λ (d : ℕ). ProvesMixture k (Violated d found weights)) (sym h.0)
          (subst (λ (ps : List Share). ProvesMixture k (Violated pair.den ps weights)) (sym h.1)
          (subst (λ (ws : List ℕ). ProvesMixture k (Violated pair.den parts ws)) (sym h.2)
          (no_mixture (λ e. h.3 (ap weight_of h.1 ∙ e ∙ ap (λ d. d * k.total) (sym h.0))))))
      proves_shown (Wide step) h = absurd h

-- ---- sizes

pub fit_parts : (kinds : List (List ℕ)) (es : List Entry) (cols : ℕ) → IsListing cols es → All (λ part. FitsEvidence part.weight) (shares_of kinds es)
fit_parts kinds es cols listed =
    All-map (λ (part : Share). FitsEvidence part.weight) (λ (entry : Entry). record { patches = slice_index_or kinds entry.at []; weight = entry.value }) es listed.fitting

-- a verdict from an equal pair
pub made_verdict : (k : Kinds) (kinds : List (List ℕ)) (pair : Pair) (outcome : Outcome) (part : RandomPart) → outcome ≡ Optimal pair → IsOutcome (mixture_program k kinds) outcome
    → ((other : Outcome) → IsOutcome (mixture_program k kinds) other → IsSameOutcome (mixture_program k kinds) outcome other) → IsPairVerdict k kinds pair part → IsRunVerdict k kinds part
made_verdict k kinds pair outcome part is run only made = record {
  outcome = outcome;
  run = run;
  only = only;
  made = subst (λ (o : Outcome). IsOutcomeVerdict k kinds o part) (sym is) made;
}
