-- What is found for a value, put together from what is found for its parts.
use Rattle.std.proofs.Common.{◌≡◌, ◌<◌, ◌≤◌, ◌++◌, ◌∷◌, [], ℕ, Bool, List, Ok, All, arith, inl, inr, length, refl, sym, subst, slice_index, slice_index_or}
use Rattle.std.proofs.lemmas.Bool.{cases_eq}
use Rattle.std.proofs.lemmas.List.{get_or_append_left, get_or_default, get_or_push, length_push}
use Rattle.rp_check.specs.DemandFailure.{DemandFails, DemandPartFails, GoodFails}
use Rattle.rp_check.specs.WelfareFailure.{LowerHolds, WelfareFails, WelfarePartFails}
use Rattle.rp_clauses.specs.HomotheticFailure.{HomotheticFails}
use Rattle.rp_clauses.specs.PricesFailure.{PricesFail}
use Rattle.rp_clauses.proofs.BoundMeasures.{holds_alike}
use Rattle.rp_programs.proofs.LeastCosts.{measure_is}
use Rattle.rp_evidence.specs.BoundEvidence.{BoundHolds}
use Rattle.rp_evidence.specs.Demand.{IsBelow, spending}
use Rattle.rp_evidence.specs.DemandEvidence.{budget_of, withheld_bound}
use Rattle.rp_evidence.specs.Homothetic.{withheld_homothetic}
use Rattle.rp_evidence.specs.Input.{TableInput}
use Rattle.rp_evidence.specs.LeastCost.{least_cost_program}
use Rattle.rp_evidence.specs.Welfare.{EqualsOrReaches, ListsReached}
use Rattle.rp_evidence.specs.Enumeration.{Enumerates}
use Rattle.rp_evidence.proofs.Enumerations.{enumerates_few, enumerates_observed, enumeration_is_one}
use Rattle.rp_evidence.specs.declared.certificate.Item.{Item}
use Rattle.rp_evidence.specs.declared.certificate.Item.TheVariants.{Demand as DemandItem, Homothetic as HomotheticItem, Welfare as WelfareItem}
use Rattle.rp_evidence.specs.declared.demand.Bound.{Bound}
use Rattle.rp_evidence.specs.declared.demand.Bound.TheVariants.{Shown, Wide}
use Rattle.rp_evidence.specs.declared.demand.DemandPart.{DemandPart}
use Rattle.rp_evidence.specs.declared.demand.DemandPart.TheVariants.{Bounds, NoModel}
use Rattle.rp_evidence.specs.declared.demand.GoodBounds.{GoodBounds}
use Rattle.rp_evidence.specs.declared.demand.Point.{Point}
use Rattle.rp_evidence.specs.declared.demand.WelfarePart.{WelfarePart}
use Rattle.rp_evidence.specs.declared.demand.WelfarePart.TheVariants.{Bounds as WelfareBounds, NoModel as NoWelfare}
use Rattle.rp_evidence.specs.declared.homothetic.Homothetic.{Homothetic}
use Rattle.rp_evidence.specs.declared.homothetic.Homothetic.TheVariants.{Values, Cycle, Withheld}
use Rattle.rp_farkas.specs.Limits.{most_columns}
use Rattle.rp_farkas.specs.LinearProgram.{LinearProgram}
use Rattle.rp_farkas.specs.Listing.{IsListing}
use Rattle.rp_farkas.specs.Measure.{measured}
use Rattle.rp_farkas.specs.declared.entry.Entry.{Entry}
use Rattle.rp_farkas.specs.declared.measure.Measure.TheVariants.{Cost}
use Rattle.rp_json_programs.specs.Limits.{FitsBound, FitsEntry}
use Rattle.rp_json_tests.specs.Limits.{FitsHomothetic}
use Rattle.rp_rounded.specs.Reduced.{AreReduced}
use Rattle.rp_table.specs.Limits.{IsExpenditure, IsPrice}
use Rattle.rp_table.specs.NewPrices.{AreNewPrices}
use Rattle.rp_limits.specs.declared.table.TheConstants.{RECORDS}
use Rattle.rp_whole_tableau.specs.Reduced.{HasReducedValue}
use Rattle.rp_filled.specs.Filled.{IsFilledFrom, IsFilledItem}
use Rattle.rp_filled.specs.InnerFound.{AreListed, ArePaired, HasLists, IsFoundBound, IsFoundDemand, IsFoundGood, IsFoundHomothetic, IsFoundItem, IsFoundWelfare, ItemPasses}

-- ---- a value that stays, and one of which nothing is withheld in place of one of which something is

pub stays : {A : Type 0} (withheld : A → ℕ) (a : A) → IsFilledFrom withheld a a
stays withheld a = record { same = λ none. refl; given = inr refl }

pub given_for : {A : Type 0} (withheld : A → ℕ) (stated found : A) → withheld stated ≡ 1 → withheld found ≡ 0 → IsFilledFrom withheld stated found
given_for withheld stated found is none = record { same = λ other. absurd (omega (arith, is, other)); given = inl none }

pub bound_stays : (Holds : Bound → Type 0) (stated found : Bound) → found ≡ stated → IsFoundBound Holds stated found
bound_stays Holds stated found e =
    subst (λ (b : Bound). IsFoundBound Holds stated b) (sym e) (record { from_stated = stays withheld_bound stated; holds = λ h. h; fits = λ h. h })

pub bound_given : (Holds : Bound → Type 0) (stated found : Bound) → withheld_bound stated ≡ 1 → withheld_bound found ≡ 0 → Holds found → FitsBound found → IsFoundBound Holds stated found
bound_given Holds stated found is none holds fits = record { from_stated = given_for withheld_bound stated found is none; holds = λ h. holds; fits = λ h. fits }

-- by another way to say that a bound holds
pub bound_alike : (Holds Other : Bound → Type 0) → ((b : Bound) → Holds b → Other b) → ((b : Bound) → Other b → Holds b) → (stated found : Bound) → IsFoundBound Holds stated found → IsFoundBound Other stated found
bound_alike Holds Other there back stated found is = record {
  from_stated = is.from_stated;
  holds = λ h. there found (is.holds (back stated h));
  fits = is.fits;
}

-- what the price side of a program of least cost costs is what it costs at the new prices
pub least_cost_found : (input : TableInput) (prices : ℕ → ℕ) (listed : List ℕ) (stated found : Bound) → IsFoundBound (BoundHolds (least_cost_program input prices listed) (measured (least_cost_program input prices listed) Cost)) stated found
    → IsFoundBound (BoundHolds (least_cost_program input prices listed) (spending input.goods prices)) stated found
least_cost_found input prices listed stated found is =
    let p = least_cost_program input prices listed in
    let same = holds_alike p (measured p Cost) (spending input.goods prices) (measure_is input prices listed) in
    bound_alike (BoundHolds p (measured p Cost)) (BoundHolds p (spending input.goods prices)) (λ b. (same b).0) (λ b. (same b).1) stated found is

pub homothetic_stays : (input : TableInput) (stated found : Homothetic) → found ≡ stated → IsFoundHomothetic input stated found
homothetic_stays input stated found e =
    subst (λ (h : Homothetic). IsFoundHomothetic input stated h) (sym e) (record { from_stated = stays withheld_homothetic stated; passes = λ h. h; fits = λ h. h })

pub homothetic_given : (input : TableInput) (stated found : Homothetic) → withheld_homothetic stated ≡ 1 → withheld_homothetic found ≡ 0 → HomotheticFails input.n input.cost found (Ok tt) → FitsHomothetic found
    → IsFoundHomothetic input stated found
homothetic_given input stated found is none passes fits =
    record { from_stated = given_for withheld_homothetic stated found is none; passes = λ h. passes; fits = λ h. fits }

-- what is found can be read back
entries_fit : (cols : ℕ) (entries : List Entry) → cols ≤ most_columns → IsListing cols entries → All FitsEntry entries
entries_fit cols entries few listed k d within = (omega (arith, few, listed.columns k d within), omega (arith, listed.fitting k d within))

pub bound_fits : (p : LinearProgram) (measure : (ℕ → ℕ) → ℕ) (found : Bound) → p.cols ≤ most_columns → withheld_bound found ≡ 0 → BoundHolds p measure found → HasReducedValue found → FitsBound found
bound_fits p measure (Shown value pair) few none (shown, lowest) reduced = (
  omega (arith, shown.den_fits),
  reduced,
  (λ k d within. omega (arith, shown.x_fits k d within)),
  entries_fit p.cols pair.y few shown.y_listed,
)
bound_fits p measure (Wide step) few none holds reduced = absurd (omega (arith, none))

pub homothetic_fits : (n : ℕ) (c : ℕ → ℕ → ℕ) (found : Homothetic) → n ≤ RECORDS → withheld_homothetic found ≡ 0 → HomotheticFails n c found (Ok tt) → AreReduced found → FitsHomothetic found
homothetic_fits n c (Values values) few none passes reduced = reduced
homothetic_fits n c (Cycle start steps) few none passes reduced =
    ((λ k d within. omega (arith, few, passes.1.0.1.0 k within, get_or_default steps k d 0 within)), reduced)
homothetic_fits n c (Withheld steps from to) few none passes reduced = absurd (omega (arith, none))

-- ---- one value more in both lists

module _ {A : Type 0} (IsFrom : ℕ → A → A → Type 0) (xs ys : List A) (x y : A) (are : ArePaired IsFrom xs ys) (last : IsFrom (length xs) x y) where
  pub paired_more : (ws : List A) → ws ≡ ys ++ y ∷ [] → ArePaired IsFrom (xs ++ x ∷ []) ws
  paired_more ws e = subst (λ (zs : List A). ArePaired IsFrom (xs ++ x ∷ []) zs) (sym e) (record {
    one_each = omega (arith, length_push xs x, length_push ys y, are.one_each);
    each = each;
  })
    where
      each : (k : ℕ) (d b : A) → k < length (xs ++ x ∷ []) → IsFrom k (slice_index_or (xs ++ x ∷ []) k d) (slice_index_or (ys ++ y ∷ []) k b)
      each k d b l = elim (cases_eq k (length xs)) [
        | inl at ↦
            subst (λ (j : ℕ). IsFrom j (slice_index_or (xs ++ x ∷ []) j d) (slice_index_or (ys ++ y ∷ []) j b)) (sym at)
            (subst (λ (z : A). IsFrom (length xs) z (slice_index_or (ys ++ y ∷ []) (length xs) b)) (sym (get_or_push xs x d (length xs) refl))
            (subst (λ (w : A). IsFrom (length xs) x w) (sym (get_or_push ys y b (length xs) are.one_each)) last))
        | inr other ↦
            let before : k < length xs = omega (arith, l, length_push xs x, other) in
            subst (λ (z : A). IsFrom k z (slice_index_or (ys ++ y ∷ []) k b)) (sym (get_or_append_left xs (x ∷ []) d k before))
            (subst (λ (w : A). IsFrom k (slice_index_or xs k d) w) (sym (get_or_append_left ys (y ∷ []) b k (omega (arith, before, are.one_each)))) (are.each k d b before))
      ]

module _ {A : Type 0} (IsFrom : ℕ → A → A → Type 0) where
  pub none_paired : (ys : List A) → ys ≡ [] → ArePaired IsFrom [] ys
  none_paired ys e = subst (λ (zs : List A). ArePaired IsFrom [] zs) (sym e) (record { one_each = refl; each = λ k d b l. absurd (omega (arith, l)) })

-- ---- what evidence that passes has

new_prices : (goods : ℕ) (prices : List ℕ) → PricesFail goods prices (Ok tt) → AreNewPrices goods prices
new_prices goods prices passes = record {
  one_each = passes.0;
  fit = λ k d within. subst IsPrice (get_or_default prices k 0 d within) (passes.1.0 k (omega (arith, within, passes.0)));
}

listed : (input : TableInput) (P : ℕ → Type 0) (list : List ℕ) → input.n ≤ RECORDS → Enumerates input.n P list → AreListed input.n list
listed input P list few lists = record {
  observed = enumerates_observed input.n P list lists;
  few = omega (arith, few, enumerates_few input.n P list lists);
}

module _ (input : TableInput) (few : input.n ≤ RECORDS) (garp_shown : Bool) (prices : List ℕ) where
  lists_of : (m : ℕ) (part : DemandPart) → DemandPartFails input garp_shown (budget_of prices m) part (Ok tt) → HasLists input part
  lists_of m (Bounds below strict inner goods) passes = (listed input (IsBelow input (budget_of prices m)) below few passes.1.0.0, passes.1.1.1.0.0)
  lists_of m (NoModel walk) passes = tt

  pub demand_has : (m : ℕ) (part : DemandPart) → DemandFails input garp_shown prices m part (Ok tt) → AreNewPrices input.goods prices × IsExpenditure m × HasLists input part
  demand_has m part passes = (new_prices input.goods prices passes.0, passes.1.0, lists_of m part passes.1.1.0)

  observed_of : (t : ℕ) (part : WelfarePart) → WelfarePartFails input garp_shown (slice_index prices) t part (Ok tt) → t < input.n
  observed_of t (WelfareBounds upper at lower) passes = passes.0.0
  observed_of t (NoWelfare walk) passes = passes.0

  pub welfare_has : (t : ℕ) (part : WelfarePart) → WelfareFails input garp_shown prices t part (Ok tt) → AreNewPrices input.goods prices × (t < input.n)
  welfare_has t part passes = (new_prices input.goods prices passes.0, observed_of t part passes.1.0)

-- ---- demand

module _ (input : TableInput) (prices : List ℕ) (m : ℕ) where
  module _ (below strict : List ℕ) (inner : Point) (goods found : List GoodBounds) (are : ArePaired (IsFoundGood input (budget_of prices m) below) goods found) where
    pub demand_bounds : IsFoundDemand input prices m (Bounds below strict inner goods) (Bounds below strict inner found)
    demand_bounds = record {
      from_stated = (found, refl, record { one_each = are.one_each; each = λ k d e l. record { lower = (are.each k d e l).lower.from_stated; upper = (are.each k d e l).upper.from_stated } });
      passes = λ garp_shown h.
          let part = h.1.1.0 in
          let goods_pass = part.1.1.1.0 in
          (h.0, (h.1.0, ((part.0, (part.1.0, (part.1.1.0, ((omega (arith, are.one_each, goods_pass.0), (goods_hold (λ k l other. goods_pass.1.0 k l other) goods_pass.0, tt)), tt)))), tt)));
      fits = λ h. (h.0, h.1, goods_fit h.2, h.3, h.4, h.5);
    }
      where
        goods_hold : ((k : ℕ) → k < input.goods → (other : GoodBounds) → GoodFails input (budget_of prices m) below k (slice_index_or goods k other) (Ok tt)) → length goods ≡ input.goods
            → (k : ℕ) → k < input.goods → (other : GoodBounds) → GoodFails input (budget_of prices m) below k (slice_index_or found k other) (Ok tt)
        goods_hold hold count k l other =
            let from_stated = are.each k other other (omega (arith, l, count)) in
            let h = hold k l other in
            (from_stated.lower.holds h.0, (from_stated.upper.holds h.1.0, tt))

        goods_fit : All (λ (g : GoodBounds). FitsBound g.lower × FitsBound g.upper) goods → All (λ (g : GoodBounds). FitsBound g.lower × FitsBound g.upper) found
        goods_fit fit k d l =
            let within : k < length goods = omega (arith, l, are.one_each) in
            let from_stated = are.each k d d within in
            let h = fit k d within in
            (from_stated.lower.fits h.0, from_stated.upper.fits h.1)

  pub demand_from : (stated : DemandPart) (below below' strict : List ℕ) (inner : Point) (goods goods' found found' : List GoodBounds) → stated ≡ Bounds below strict inner goods → below' ≡ below → goods' ≡ goods → found' ≡ found
      → ArePaired (IsFoundGood input (budget_of prices m) below') goods' found → IsFoundDemand input prices m stated (Bounds below strict inner found')
  demand_from stated below below' strict inner goods goods' found found' is b g f are =
      subst (λ (part : DemandPart). IsFoundDemand input prices m part (Bounds below strict inner found')) (sym is)
      (subst (λ (xs : List GoodBounds). IsFoundDemand input prices m (Bounds below strict inner goods) (Bounds below strict inner xs)) (sym f)
      (demand_bounds below strict inner goods found
      (subst (λ (xs : List ℕ). ArePaired (IsFoundGood input (budget_of prices m) xs) goods found) b
      (subst (λ (xs : List GoodBounds). ArePaired (IsFoundGood input (budget_of prices m) below') xs found) g are))))

  none_there : (walk : List ℕ) → IsFoundDemand input prices m (NoModel walk) (NoModel walk)
  none_there walk = record { from_stated = refl; passes = λ garp_shown h. h; fits = λ h. h }

  pub no_demand : (stated : DemandPart) (walk : List ℕ) → stated ≡ NoModel walk → IsFoundDemand input prices m stated (NoModel walk)
  no_demand stated walk is = subst (λ (part : DemandPart). IsFoundDemand input prices m part (NoModel walk)) (sym is) (none_there walk)

-- ---- welfare

module _ (input : TableInput) (prices : List ℕ) (t : ℕ) where
  pub welfare_bounds : (upper at : ℕ) (lower found : Bound) → IsFoundBound (LowerHolds input (slice_index prices) t) lower found → IsFoundWelfare input prices t (WelfareBounds upper at lower) (WelfareBounds upper at found)
  welfare_bounds upper at lower found is = record {
    from_stated = (found, refl, is.from_stated);
    passes = λ garp_shown h.
        let part = h.1.0 in
        let bounds = part.1.0 in
        (h.0, ((part.0, ((bounds.0, (bounds.1.0, (bounds.1.1.0, (bounds.1.1.1.0, (is.holds bounds.1.1.1.1.0, tt))))), tt)), tt));
    fits = λ h. (h.0, is.fits h.1, h.2, h.3, h.4);
  }

  pub welfare_from : (stated : WelfarePart) (upper at : ℕ) (lower found : Bound) → stated ≡ WelfareBounds upper at lower → IsFoundBound (LowerHolds input (slice_index prices) t) lower found
      → IsFoundWelfare input prices t stated (WelfareBounds upper at found)
  welfare_from stated upper at lower found is lower_is =
      subst (λ (part : WelfarePart). IsFoundWelfare input prices t part (WelfareBounds upper at found)) (sym is) (welfare_bounds upper at lower found lower_is)

  none_so : (walk : List ℕ) → IsFoundWelfare input prices t (NoWelfare walk) (NoWelfare walk)
  none_so walk = record { from_stated = refl; passes = λ garp_shown h. h; fits = λ h. h }

  pub no_welfare : (stated : WelfarePart) (walk : List ℕ) → stated ≡ NoWelfare walk → IsFoundWelfare input prices t stated (NoWelfare walk)
  no_welfare stated walk is = subst (λ (part : WelfarePart). IsFoundWelfare input prices t part (NoWelfare walk)) (sym is) (none_so walk)

-- the lower bound over the one list of the observations that t reaches
pub lower_over : (input : TableInput) (prices : ℕ → ℕ) (t : ℕ) (reached : List ℕ) → ListsReached input t reached → (stated found : Bound)
    → IsFoundBound (BoundHolds (least_cost_program input prices reached) (spending input.goods prices)) stated found → IsFoundBound (LowerHolds input prices t) stated found
lower_over input prices t reached lists stated found is = record {
  from_stated = is.from_stated;
  holds = λ h. (reached, lists, is.holds (subst (λ (xs : List ℕ). BoundHolds (least_cost_program input prices xs) (spending input.goods prices) stated) (enumeration_is_one input.n (EqualsOrReaches input t) h.0 reached h.1 lists) h.2));
  fits = is.fits;
}

-- ---- items

module _ (input : TableInput) where
  -- an item that stays
  pub item_stays : (stated found : Item) → found ≡ stated → IsFilledItem stated stated → IsFoundItem input stated found
  item_stays stated found e same = subst (λ (item : Item). IsFoundItem input stated item) (sym e) (record { from_stated = same; shows = refl; passes = λ garp_shown h. h; fits = λ h. h })

  pub homothetic_item : (stated : Item) (verdict found : Homothetic) → stated ≡ HomotheticItem verdict → IsFoundHomothetic input verdict found → IsFoundItem input stated (HomotheticItem found)
  homothetic_item stated verdict found e is = subst (λ (item : Item). IsFoundItem input item (HomotheticItem found)) (sym e) (record {
    from_stated = (found, refl, is.from_stated);
    shows = refl;
    passes = λ garp_shown h. is.passes h;
    fits = λ h. (h.0, is.fits h.1);
  })

  pub demand_item : (stated : Item) (prices prices' : List ℕ) (m : ℕ) (part found : DemandPart) → stated ≡ DemandItem prices m part → prices' ≡ prices → IsFoundDemand input prices' m part found
      → IsFoundItem input stated (DemandItem prices m found)
  demand_item stated prices prices' m part found e p is' =
      let is = subst (λ (list : List ℕ). IsFoundDemand input list m part found) p is' in
      subst (λ (item : Item). IsFoundItem input item (DemandItem prices m found)) (sym e) (record {
        from_stated = (found, refl, is.from_stated);
        shows = refl;
        passes = λ garp_shown h. (h.0, (is.passes garp_shown h.1.0, tt));
        fits = λ h. (h.0, is.fits h.1);
      })

  pub welfare_item : (stated : Item) (prices prices' : List ℕ) (t : ℕ) (part found : WelfarePart) → stated ≡ WelfareItem prices t part → prices' ≡ prices → IsFoundWelfare input prices' t part found
      → IsFoundItem input stated (WelfareItem prices t found)
  welfare_item stated prices prices' t part found e p is' =
      let is = subst (λ (list : List ℕ). IsFoundWelfare input list t part found) p is' in
      subst (λ (item : Item). IsFoundItem input item (WelfareItem prices t found)) (sym e) (record {
        from_stated = (found, refl, is.from_stated);
        shows = refl;
        passes = λ garp_shown h. (h.0, (is.passes garp_shown h.1.0, tt));
        fits = λ h. (h.0, is.fits h.1);
      })

  -- what calls for their parts need
  module _ (few : input.n ≤ RECORDS) (stated : Item) (passes : ItemPasses input stated) where
    pub demand_needs : (prices : List ℕ) (m : ℕ) (part : DemandPart) → stated ≡ DemandItem prices m part → AreNewPrices input.goods prices × IsExpenditure m × HasLists input part
    demand_needs prices m part e =
        let h = subst (λ (item : Item). ItemPasses input item) e passes in
        demand_has input few h.0 prices m part h.1.1.0

    pub welfare_needs : (prices : List ℕ) (t : ℕ) (part : WelfarePart) → stated ≡ WelfareItem prices t part → AreNewPrices input.goods prices × (t < input.n)
    welfare_needs prices t part e =
        let h = subst (λ (item : Item). ItemPasses input item) e passes in
        welfare_has input few h.0 prices t part h.1.1.0
