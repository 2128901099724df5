-- The bytes of a long file decide its table of verdicts: each column has one value for a table within the limits, but
-- that of the homothetic test, which may be withheld where other evidence than the stated one is looked for.
use Rattle.std.proofs.Common.{◌≡◌, ◌<◌, ◌≤◌, ◌+◌, ◌*◌, ℕ, zero, suc, List, [], ◌∷◌, ◌++◌, Bool, true, false, Option, None, Some, Result, Ok, Err, inl, inr, length, refl, sym, subst, ap, ◌∙◌, arith, slice_index_or}
use Rattle.std.specs.Prelude.{map}
use Rattle.std.specs.List.{AllZip}
use Rattle.std.proofs.lemmas.Bool.{cases_lt}
use Rattle.std.proofs.lemmas.List.{get_or-map, length-map}
use Rattle.std.proofs.lemmas.Nat.{mul-add-lt}
use Rattle.rp_evidence.specs.Efficiency.{FailsGarpAt, IsEfficiencyIndex}
use Rattle.rp_evidence.specs.Garp.{MeetsGarpAt}
use Rattle.rp_evidence.specs.Homothetic.{IsFallingCycle, MeetsHomotheticTest}
use Rattle.rp_evidence.specs.Preference.{IsLevel, IsWeak}
use Rattle.rp_evidence.specs.Walk.{IsClosedWalk}
use Rattle.rp_evidence.specs.declared.homothetic.Homothetic.{Homothetic}
use Rattle.rp_evidence.specs.declared.homothetic.Homothetic.TheVariants as homothetic
use Rattle.rp_evidence.proofs.CountLists.{number_is_one}
use Rattle.rp_forms.specs.Forms.{table_form}
use Rattle.rp_homo.specs.HomotheticVerdict.{IsHomotheticVerdict}
use Rattle.rp_long.specs.InLongFile.{denoted_in_long_file}
use Rattle.rp_long.specs.Ids.{ids_below}
use Rattle.rp_long.specs.LongColumns.{Uses, uses_of}
use Rattle.rp_long.specs.LongFaults.{first_fault as first_long_fault}
use Rattle.rp_long.specs.Panels.{Household, Panel, denoted_panel, household_of, id_text, nobody, panel_with, unless_fault as unless_long_fault}
use Rattle.rp_long.specs.declared.fault.LongFault.{LongFault}
use Rattle.rp_num.specs.Fraction.{Fraction}
use Rattle.rp_num.proofs.Lowest.{same_lowest}
use Rattle.rp_offered.specs.declared.offered.Places.{Places}
use Rattle.rp_panel.specs.OfferedText.{columns_after, places_asked}
use Rattle.rp_panel.specs.PanelText.{AreRowsOf, IsPanelText, IsRowOfHousehold, unnamed_row}
use Rattle.rp_fit.specs.MoneyPump.{HasPumpRatio, IsPumpIndex, PumpsAtMost, gain_from, spent_from}
use Rattle.rp_power.specs.PowerCount.{IsPowerCount}
use Rattle.rp_fit.specs.WalkSums.{steps_sum}
use Rattle.rp_fit.proofs.PumpIndex.{at_most_to, gain_split, ratio_to, some_spent}
use Rattle.rp_rows.specs.RowText.{rows_text}
use Rattle.rp_rows.specs.Rows.{IsFound}
use Rattle.rp_rows.specs.Verdicts.{Answers, AreVerdicts, Decides, IsHomotheticFound, IsPowerFound, IsPumpFound, Tells, given_as_stated}
use Rattle.rp_rows.specs.Words.{homothetic_verdict}
use Rattle.rp_rows.specs.declared.asked.Asked.{Asked}
use Rattle.rp_rows.specs.declared.asked.Draws.{Draws}
use Rattle.rp_rows.specs.declared.row.Found.{Found}
use Rattle.rp_rows.specs.declared.row.Found.TheVariants.{Verdicts as VerdictsFound, Fault as FaultFound}
use Rattle.rp_rows.specs.declared.row.Row.{Row}
use Rattle.rp_rows.specs.declared.verdict.Verdict.{Verdict}
use Rattle.rp_rows.specs.declared.verdict.Verdict.TheVariants.{Holds, Violated, Withheld}
use Rattle.rp_rows.specs.declared.verdicts.Power.{Power}
use Rattle.rp_rows.specs.declared.verdicts.Verdicts.{Verdicts}
use Rattle.rp_sheet.specs.Fields.{figures_of, rows_in}
use Rattle.rp_sheet.specs.Headers.{headers_of}
use Rattle.rp_sheet.specs.SheetFiles.{denoted_by}
use Rattle.rp_sheet.specs.Sheets.{first_fault, unless_fault}
use Rattle.rp_sheet.specs.declared.fault.TableFault.{TableFault}
use Rattle.rp_sheet.proofs.GoodHeaders.{good_headers}
use Rattle.rp_sheet.proofs.StagesPassed.{counted, passed}
use Rattle.rp_table.specs.Cost.{cost_of}
use Rattle.rp_table.specs.Tables.{IsTable, Observations, bundle_size, goods_of, price_of, quantity_of, records_of}
use Rattle.rp_table.proofs.SumsBelow.{sum_below-mono}
use Rattle.rp_text.specs.Denotation.{denoted_table, table_of}
use Rattle.rp_text.proofs.TableFacts.{table_is}
use Rattle.rp_bound_rows.specs.declared.asked.BoundsAsked.{BoundsAsked}
use Rattle.rp_sheet.specs.Records.{records_in}
use Rattle.rp_panel_run.specs.Endings.{Contents, IsTextBy, IsTextOf}
use Rattle.rp_panel_run.specs.Questions.{Asking, given_by, id_name, more_asked}
use Rattle.rp_panel_run.specs.Alike.{AreSameButWithheld, AreSameVerdicts, IsSameFound, IsSameRow, IsSameUnlessWithheld}

-- ---- verdicts

decided : (v w : Verdict) (Met Failed : Type 0) → (Met → Failed → ⊥) → Decides v Met Failed → Decides w Met Failed → v ≡ w
decided Holds Holds Met Failed apart p q = refl
decided Holds Violated Met Failed apart p q = absurd (apart p q)
decided Holds Withheld Met Failed apart p q = absurd q
decided Violated Holds Met Failed apart p q = absurd (apart q p)
decided Violated Violated Met Failed apart p q = refl
decided Violated Withheld Met Failed apart p q = absurd q
decided Withheld w Met Failed apart p q = absurd p

told : (v w : Verdict) (Met Failed : Type 0) → (Met → Failed → ⊥) → Tells v Met Failed → Tells w Met Failed → IsSameUnlessWithheld v w
told Holds Holds Met Failed apart p q = inl refl
told Holds Violated Met Failed apart p q = absurd (apart p q)
told Holds Withheld Met Failed apart p q = inr (inr refl)
told Violated Holds Met Failed apart p q = absurd (apart q p)
told Violated Violated Met Failed apart p q = inl refl
told Violated Withheld Met Failed apart p q = inr (inr refl)
told Withheld w Met Failed apart p q = inr (inl refl)

answered : (a b : Bool) (Met Failed : Type 0) → (Met → Failed → ⊥) → Answers a Met Failed → Answers b Met Failed → a ≡ b
answered true true Met Failed apart p q = refl
answered true false Met Failed apart p q = absurd (apart p q)
answered false true Met Failed apart p q = absurd (apart q p)
answered false false Met Failed apart p q = refl

-- the stated evidence of the homothetic test has one verdict
stated : (n : ℕ) (c : ℕ → ℕ → ℕ) (e f : Homothetic) (Met Failed : Type 0) → (Met → Failed → ⊥) → Tells (homothetic_verdict e) Met Failed → Tells (homothetic_verdict f) Met Failed
    → IsHomotheticVerdict n c e → IsHomotheticVerdict n c f → homothetic_verdict e ≡ homothetic_verdict f
stated n c (homothetic.Values a) (homothetic.Values b) Met Failed apart t u p q = refl
stated n c (homothetic.Values a) (homothetic.Cycle s w) Met Failed apart t u p q = absurd (apart t u)
stated n c (homothetic.Values a) (homothetic.Withheld k t s) Met Failed apart x u p q = absurd (p.none_too_wide k t s q.first.too_wide)
stated n c (homothetic.Cycle s w) (homothetic.Values b) Met Failed apart t u p q = absurd (apart u t)
stated n c (homothetic.Cycle s w) (homothetic.Cycle s' w') Met Failed apart t u p q = refl
stated n c (homothetic.Cycle start w) (homothetic.Withheld k t s) Met Failed apart x u p q =
    elim p.comes [
      | inl pair ↦ absurd (q.no_pair pair.s pair.t pair.first_pair.in_order pair.first_pair.within pair.first_pair.falls)
      | inr long ↦ absurd (long.none_too_wide k t s q.first.too_wide)
    ]
stated n c (homothetic.Withheld k t s) (homothetic.Values b) Met Failed apart x u p q = absurd (q.none_too_wide k t s p.first.too_wide)
stated n c (homothetic.Withheld k t s) (homothetic.Cycle start w) Met Failed apart x u p q =
    elim q.comes [
      | inl pair ↦ absurd (p.no_pair pair.s pair.t pair.first_pair.in_order pair.first_pair.within pair.first_pair.falls)
      | inr long ↦ absurd (long.none_too_wide k t s p.first.too_wide)
    ]
stated n c (homothetic.Withheld k t s) (homothetic.Withheld k' t' s') Met Failed apart x u p q = refl

-- ---- indices

between : (n : ℕ) (c : ℕ → ℕ → ℕ) (a b p q : ℕ) → IsEfficiencyIndex n c a b → IsEfficiencyIndex n c p q → a * q < p * b → ⊥
between n c a b p q one other less =
    let level : IsLevel (a + p) (b + q) = (omega (arith, one.level.0), omega (arith, one.level.1, other.level.1)) in
    let fails = one.fails_above (a + p) (b + q) level (omega (arith, less)) in
    other.holds_below (a + p) (b + q) level (omega (arith, less)) fails.0 fails.1

index_same : (n : ℕ) (c : ℕ → ℕ → ℕ) (a b p q : ℕ) → IsEfficiencyIndex n c a b → IsEfficiencyIndex n c p q → a * q ≡ p * b
index_same n c a b p q one other = elim (cases_lt (a * q) (p * b)) [
  | inl less ↦ absurd (between n c a b p q one other less)
  | inr l ↦ elim (cases_lt (p * b) (a * q)) [
    | inl more ↦ absurd (between n c p q a b other one more)
    | inr m ↦ omega (arith, l, m)
  ]
]

mul_mono : (x y k : ℕ) → x ≤ y → x * k ≤ y * k
mul_mono x y zero l = omega arith
mul_mono x y (suc k) l = let r = mul_mono x y k l in omega (arith, r, l)

no_less : (spent swapped a b p q : ℕ) → 0 < spent → spent * b ≡ a * spent + swapped * b → spent * q ≤ p * spent + swapped * q → p * b < a * q → ⊥
no_less spent swapped a b p q some has most less =
    let e = ap (λ n. n * q) has in
    let l = mul_mono (spent * q) (p * spent + swapped * q) b most in
    let m = mul_mono (p * b + 1) (a * q) spent (omega (arith, less)) in
    omega (arith, e, l, m, some)

pump_most : (n : ℕ) (c : ℕ → ℕ → ℕ) (a b p q : ℕ) → ((s : ℕ) → s < n → 0 < c s s) → IsPumpIndex n c a b → IsPumpIndex n c p q → p * b < a * q → ⊥
pump_most n c a b p q costs one other less = by one.reached.0 one.reached.1 one.reached.2 (other.greatest one.reached.0 one.reached.1)
  where
    by : (walk : List ℕ) → IsClosedWalk n (IsWeak c) walk → HasPumpRatio c a b walk → PumpsAtMost c p q walk → ⊥
    by [] closed has most = absurd closed.1
    by (s ∷ rest) closed has most =
        no_less (spent_from c s rest) (steps_sum c s rest) a b p q
        (some_spent n c costs s closed.0 rest closed.1.1 (omega (arith, closed.2)))
        (ratio_to (gain_from c s rest) (spent_from c s rest) (steps_sum c s rest) a b (gain_split c s rest) has)
        (at_most_to (gain_from c s rest) (spent_from c s rest) (steps_sum c s rest) p q (gain_split c s rest) most) less

pump_same : (n : ℕ) (c : ℕ → ℕ → ℕ) (a b p q : ℕ) → ((s : ℕ) → s < n → 0 < c s s) → IsPumpIndex n c a b → IsPumpIndex n c p q → a * q ≡ p * b
pump_same n c a b p q costs one other = elim (cases_lt (a * q) (p * b)) [
  | inl less ↦ absurd (pump_most n c p q a b costs other one less)
  | inr l ↦ elim (cases_lt (p * b) (a * q)) [
    | inl more ↦ absurd (pump_most n c a b p q costs one other more)
    | inr m ↦ omega (arith, l, m)
  ]
]

-- ---- tables within the limits

-- what was spent at an observation is not 0
spent_some : (table : Observations) → IsTable table → (s : ℕ) → s < records_of table → 0 < cost_of table s s
spent_some table valid s within =
    let bought = valid.bought s within in
    let more : bundle_size table s ≤ cost_of table s s = sum_below-mono (quantity_of table s) (λ g. price_of table s g * quantity_of table s g) (goods_of table) each in
    omega (arith, bought, more)
  where
    each : (g : ℕ) → g < goods_of table → quantity_of table s g ≤ price_of table s g * quantity_of table s g
    each g inside =
        let price = valid.price_limits (s * goods_of table + g) 0 (let all = valid.all_prices in omega (arith, all, mul-add-lt s (goods_of table) g (records_of table) within inside)) in
        at_least (price_of table s g) (quantity_of table s g) price.0
      where
        at_least : (p q : ℕ) → 1 ≤ p → q ≤ p * q
        at_least zero q some = absurd (omega (arith, some))
        at_least (suc p) q some = omega arith

fine_table : (records : List (List (List ℕ))) → first_fault table_form [] records ≡ None → IsTable (table_of (headers_of records) (figures_of table_form (headers_of records) records))
fine_table records fine =
    let stages = passed table_form [] records fine in
    let count = counted table_form records stages.3 in
    table_is (headers_of records) records (good_headers table_form (headers_of records) refl refl refl stages.1 stages.2) stages.4 stages.5 count.0 count.1

denoted_within : (records : List (List (List ℕ))) (table : Observations) → denoted_table records ≡ Ok table → IsTable table
unfolding denoted_table denoted_by
denoted_within records table is = by (first_fault table_form [] records) refl is
  where
    by : (f : Option TableFault) → first_fault table_form [] records ≡ f → unless_fault f (table_of (headers_of records) (figures_of table_form (headers_of records) records)) ≡ Ok table → IsTable table
    by None fine is = let same : table_of (headers_of records) (figures_of table_form (headers_of records) records) ≡ table = cc is in subst IsTable same (fine_table records fine)
    by (Some f) fine is = absurd (cc is)

in_file_within : (rows columns : List ℕ) (denoted : Result Observations TableFault) (table : Observations) → denoted_in_long_file rows columns denoted ≡ Ok table → denoted ≡ Ok table
in_file_within rows columns (Ok t) table is = is
in_file_within rows columns (Err f) table is = absurd (cc is)

module _ (uses : Uses) (records : List (List (List ℕ))) where
  abbrev ids : List (List ℕ)
  ids = ids_below (id_text uses.id records) (rows_in records)

  at_household : (h : ℕ) → h < length ids → (table : Observations) → (slice_index_or (map (household_of uses records) ids) h nobody).table ≡ Ok table → IsTable table
  at_household h inside table has =
      let same = ap (λ (k : Household). k.table) (get_or-map (household_of uses records) ids h [] nobody inside) in
      denoted_within _ table (in_file_within _ _ _ table (sym same ∙ has))

  each_within : (h : ℕ) → h < length (panel_with uses records).households → (table : Observations) → (slice_index_or (panel_with uses records).households h nobody).table ≡ Ok table → IsTable table
  each_within h inside = at_household h (omega (arith, inside, length-map ids (household_of uses records)))

-- the tables of the households of a panel are within the limits
household_within : (id : List ℕ) (kept : List (List ℕ)) (records : List (List (List ℕ))) (panel : Panel) → denoted_panel id kept records ≡ Ok panel
    → (h : ℕ) → h < length panel.households → (table : Observations) → (slice_index_or panel.households h nobody).table ≡ Ok table → IsTable table
unfolding denoted_panel
household_within id kept records panel is = by (first_long_fault id kept records) is
  where
    by : (f : Option LongFault) → unless_long_fault f (panel_with (uses_of id kept (headers_of records)) records) ≡ Ok panel → (h : ℕ) → h < length panel.households → (table : Observations) → (slice_index_or panel.households h nobody).table ≡ Ok table → IsTable table
    by None is =
        let same : panel_with (uses_of id kept (headers_of records)) records ≡ panel = cc is in
        subst (λ (p : Panel). (h : ℕ) → h < length p.households → (table : Observations) → (slice_index_or p.households h nobody).table ≡ Ok table → IsTable table) same (each_within (uses_of id kept (headers_of records)) records)
    by (Some f) is = absurd (cc is)

-- ---- rows

pump_found : (asked : Bool) (table : Observations) (found other : Option Fraction) → IsTable table → IsPumpFound asked table found → IsPumpFound asked table other → found ≡ other
pump_found asked table None None valid p q = refl
pump_found asked table None (Some g) valid p q = absurd (cc (sym p ∙ q.0))
pump_found asked table (Some f) None valid p q = absurd (cc (sym q ∙ p.0))
pump_found asked table (Some f) (Some g) valid p q =
    ap Some (same_lowest f g p.1.positive q.1.positive p.2 q.2 (pump_same (records_of table) (cost_of table) f.num f.den g.num g.den (spent_some table valid) p.1 q.1))

power_found : (asked : Option Draws) (table : Observations) (found other : Option Power) → IsPowerFound asked table found → IsPowerFound asked table other → found ≡ other
power_found asked table None None p q = refl
power_found asked table None (Some w) p q = absurd (cc (sym p ∙ q.1))
power_found asked table (Some v) None p q = absurd (cc (sym q ∙ p.1))
power_found asked table (Some v) (Some w) p q =
    let same : ◌≡◌ {A = Draws} (record { draws = v.draws; seed = p.0 }) (record { draws = w.draws; seed = q.0 }) = cc (sym p.1 ∙ q.1) in
    let draws = ap (λ (d : Draws). d.draws) same in
    let seeds = ap (λ (d : Draws). d.seed) same in
    let count = number_is_one w.draws _ v.violations w.violations (subst (λ (n : ℕ). IsPowerCount table q.0 n v.violations) draws (subst (λ (s : ℕ). IsPowerCount table s v.draws v.violations) seeds p.2)) q.2 in
    λ i. Some (record { violations = count i; draws = draws i })

-- what holds of two verdicts of the homothetic test on a table
abbrev AreHomotheticAs : (Observations → Homothetic → Type 0) → (Verdict → Verdict → Type 0) → Type 0
AreHomotheticAs given Same = (table : Observations) (v w : Verdict) → IsHomotheticFound given table v → IsHomotheticFound given table w → Same v w

module _ (given : Observations → Homothetic → Type 0) (Same : Verdict → Verdict → Type 0) (alike : AreHomotheticAs given Same) (asked : Asked) where
  verdicts_same : (table : Observations) (v w : Verdicts) → IsTable table → AreVerdicts given asked table v → AreVerdicts given asked table w → AreSameVerdicts Same v w
  verdicts_same table v w valid p q =
      let n = records_of table in
      let c = cost_of table in
      let e = p.efficiency in
      let f = q.efficiency in
      let level : v.efficiency ≡ w.efficiency = same_lowest v.efficiency w.efficiency (omega (arith, e.index.level.0, e.index.level.1)) (omega (arith, f.index.level.0, f.index.level.1)) e.coprime f.coprime
      (index_same n c v.efficiency.num v.efficiency.den w.efficiency.num w.efficiency.den e.index f.index) in
      record {
        observations = p.observations ∙ sym q.observations;
        goods = p.goods ∙ sym q.goods;
        garp = decided v.garp w.garp _ _ (λ met failed. met failed.0 failed.1) p.garp.of_table q.garp.of_table;
        efficiency = level;
        attained = answered v.attained w.attained _ _ (λ met failed. met failed.0 failed.1)
            (subst (λ (l : Fraction). Answers v.attained (MeetsGarpAt n c l.num l.den) (FailsGarpAt n c l.num l.den)) level e.at_index) f.at_index;
        homothetic = alike table v.homothetic w.homothetic p.homothetic q.homothetic;
        quasilinear = decided v.quasilinear w.quasilinear _ _ (λ met failed. met failed.0 failed.1) p.quasilinear.of_table q.quasilinear.of_table;
        pump = pump_found asked.pump table v.pump w.pump valid p.pump q.pump;
        power = power_found asked.power table v.power w.power p.power q.power;
      }

  found_same : (denoted : Result Observations TableFault) (found other : Found) → ((table : Observations) → denoted ≡ Ok table → IsTable table) → IsFound given asked denoted found → IsFound given asked denoted other → IsSameFound Same found other
  found_same (Ok table) (VerdictsFound v) (VerdictsFound w) valid p q = verdicts_same table v w (valid table refl) p.1 q.1
  found_same (Ok table) (VerdictsFound v) (FaultFound g) valid p q = absurd (q.0 p.0)
  found_same (Ok table) (FaultFound f) (VerdictsFound w) valid p q = absurd (p.0 q.0)
  found_same (Ok table) (FaultFound f) (FaultFound g) valid p q = p.1 ∙ sym q.1
  found_same (Err fault) (VerdictsFound v) other valid p q = absurd (cc p)
  found_same (Err fault) (FaultFound f) (VerdictsFound w) valid p q = absurd (cc q)
  found_same (Err fault) (FaultFound f) (FaultFound g) valid p q = cc (p ∙ sym q)

  row_same : (offered : Option Places) (household : Household) (row other : Row) → ((table : Observations) → household.table ≡ Ok table → IsTable table) → IsRowOfHousehold given asked offered household row → IsRowOfHousehold given asked offered household other → IsSameRow Same row other
  row_same offered household row other valid p q = record {
    household = p.household_is ∙ sym q.household_is;
    kept = p.kept_are ∙ sym q.kept_are;
    found = found_same household.table row.found other.found valid p.found_is q.found_is;
  }

  zipped : (xs ys : List Row) → length xs ≡ length ys → ((h : ℕ) (d : Row) → h < length xs → IsSameRow Same (slice_index_or xs h d) (slice_index_or ys h d)) → AllZip (IsSameRow Same) xs ys
  zipped [] [] e each = tt
  zipped [] (y ∷ ys) e each = absurd (omega (arith, e))
  zipped (x ∷ xs) [] e each = absurd (omega (arith, e))
  zipped (x ∷ xs) (y ∷ ys) e each = (each 0 x (omega arith), zipped xs ys (omega (arith, e)) (λ h d l. each (suc h) d (omega (arith, l))))

  rows_same : (offered : Option Places) (households : List Household) (rows others : List Row) → ((h : ℕ) → h < length households → (table : Observations) → (slice_index_or households h nobody).table ≡ Ok table → IsTable table)
      → AreRowsOf given asked offered households rows → AreRowsOf given asked offered households others → AllZip (IsSameRow Same) rows others
  rows_same offered households rows others valid p q = zipped rows others (p.one_each ∙ sym q.one_each) each
    where
      each : (h : ℕ) (d : Row) → h < length rows → IsSameRow Same (slice_index_or rows h d) (slice_index_or others h d)
      each h d l =
          let inside : h < length households = omega (arith, l, p.one_each) in
          row_same offered (slice_index_or households h nobody) (slice_index_or rows h d) (slice_index_or others h d) (valid h inside) (p.each h d inside) (q.each h d inside)

-- ---- texts

itself_same : (Same : Verdict → Verdict → Type 0) → ((v : Verdict) → Same v v) → (f : Found) → IsSameFound Same f f
itself_same Same same (VerdictsFound v) = record { observations = refl; goods = refl; garp = refl; efficiency = refl; attained = refl; homothetic = same v.homothetic; quasilinear = refl; pump = refl; power = refl }
itself_same Same same (FaultFound f) = refl

with_rest : (Same : Verdict → Verdict → Type 0) → ((v : Verdict) → Same v v) → (xs ys rest : List Row) → AllZip (IsSameRow Same) xs ys → AllZip (IsSameRow Same) (xs ++ rest) (ys ++ rest)
with_rest Same same [] [] [] zip = tt
with_rest Same same [] [] (row ∷ rest) zip = (record { household = refl; kept = refl; found = itself_same Same same row.found }, with_rest Same same [] [] rest tt)
with_rest Same same [] (y ∷ ys) rest zip = absurd zip
with_rest Same same (x ∷ xs) [] rest zip = absurd zip
with_rest Same same (x ∷ xs) (y ∷ ys) rest zip = (zip.0, with_rest Same same xs ys rest zip.1)

found_equal : (f g : Found) → IsSameFound (λ v w. v ≡ w) f g → f ≡ g
found_equal (VerdictsFound v) (VerdictsFound w) s = λ i. VerdictsFound (record {
  observations = s.observations i;
  goods = s.goods i;
  garp = s.garp i;
  efficiency = s.efficiency i;
  attained = s.attained i;
  homothetic = s.homothetic i;
  quasilinear = s.quasilinear i;
  pump = s.pump i;
  power = s.power i;
})
found_equal (VerdictsFound v) (FaultFound g) s = absurd s
found_equal (FaultFound f) (VerdictsFound w) s = absurd s
found_equal (FaultFound f) (FaultFound g) s = ap FaultFound s

rows_equal : (xs ys : List Row) → AllZip (IsSameRow (λ v w. v ≡ w)) xs ys → xs ≡ ys
rows_equal [] [] zip = refl
rows_equal [] (y ∷ ys) zip = absurd zip
rows_equal (x ∷ xs) [] zip = absurd zip
rows_equal (x ∷ xs) (y ∷ ys) zip =
    let found = found_equal x.found y.found zip.0.found in
    λ i. record { household = zip.0.household i; kept = zip.0.kept i; found = found i } ∷ rows_equal xs ys zip.1 i

stated_alike : AreHomotheticAs given_as_stated (λ v w. v ≡ w)
stated_alike table v w p q =
    let met = MeetsHomotheticTest (records_of table) (cost_of table) in
    let failed = (walk : List ℕ) × IsFallingCycle (records_of table) (cost_of table) walk in
    let same = stated (records_of table) (cost_of table) p.evidence q.evidence met failed no_falling
    (subst (λ (x : Verdict). Tells x met failed) p.verdict_is p.of_table) (subst (λ (x : Verdict). Tells x met failed) q.verdict_is q.of_table) p.is_given q.is_given in
    p.verdict_is ∙ same ∙ sym q.verdict_is
  where
    no_falling : MeetsHomotheticTest (records_of table) (cost_of table) → (walk : List ℕ) × IsFallingCycle (records_of table) (cost_of table) walk → ⊥
    no_falling holds falling = let l = holds falling.0 falling.1.closed in let m = falling.1.falls in omega (arith, l, m)

told_alike : (given : Observations → Homothetic → Type 0) → AreHomotheticAs given IsSameUnlessWithheld
told_alike given table v w p q = told v w _ _ no_falling p.of_table q.of_table
  where
    no_falling : MeetsHomotheticTest (records_of table) (cost_of table) → (walk : List ℕ) × IsFallingCycle (records_of table) (cost_of table) walk → ⊥
    no_falling holds falling = let l = holds falling.0 falling.1.closed in let m = falling.1.falls in omega (arith, l, m)

pub one_text : (id : List ℕ) (kept : List (List ℕ)) (records : List (List (List ℕ))) (asked : Asked) (offered : Bool) (panel : Panel) → denoted_panel id kept records ≡ Ok panel → (text other : List ℕ)
    → IsPanelText given_as_stated asked offered kept panel text → IsPanelText given_as_stated asked offered kept panel other → text ≡ other
one_text id kept records asked offered panel denoted text other p q =
    let same = rows_equal p.rows q.rows (rows_same given_as_stated (λ v w. v ≡ w) stated_alike asked (places_asked offered panel.households) panel.households p.rows q.rows (household_within id kept records panel denoted) p.of_households q.of_households) in
    p.text_is ∙ ap (λ (rows : List Row). rows_text (columns_after offered kept) (rows ++ map (unnamed_row (length (columns_after offered kept))) panel.unnamed)) same ∙ sym q.text_is

pub one_verdict : (id : List ℕ) (kept : List (List ℕ)) (records : List (List (List ℕ))) (given : Observations → Homothetic → Type 0) (asked : Asked) (offered : Bool) (panel : Panel) → denoted_panel id kept records ≡ Ok panel → (text other : List ℕ)
    → IsPanelText given asked offered kept panel text → IsPanelText given asked offered kept panel other → AreSameButWithheld (columns_after offered kept) text other
one_verdict id kept records given asked offered panel denoted text other p q = record {
  rows = p.rows ++ map (unnamed_row (length (columns_after offered kept))) panel.unnamed;
  other_rows = q.rows ++ map (unnamed_row (length (columns_after offered kept))) panel.unnamed;
  text_is = p.text_is;
  other_is = q.text_is;
  same = with_rest IsSameUnlessWithheld (λ v. inl refl) p.rows q.rows (map (unnamed_row (length (columns_after offered kept))) panel.unnamed)
      (rows_same given IsSameUnlessWithheld (told_alike given) asked (places_asked offered panel.households) panel.households p.rows q.rows (household_within id kept records panel denoted) p.of_households q.of_households);
}

-- ---- by the words

by_bounds : (bounds : Option BoundsAsked) → bounds ≡ None → (a : Asking) (new : List ℕ) (panel : Panel) (text : List ℕ) → IsTextBy bounds a new panel text → IsPanelText (given_by a.wide) (more_asked a) a.offered a.kept panel text
by_bounds None none a new panel text is = is
by_bounds (Some asked) none a new panel text is = absurd (cc none)

module _ (a : Asking) (held : Contents) (text told_text other other_told : List ℕ) (none : a.bounds ≡ None) (is : IsTextOf a held text told_text) (also : IsTextOf a held other other_told) where
  same_panel : also.panel ≡ is.panel
  same_panel = let denoted = is.denoted in let again = also.denoted in cc

  here : IsPanelText (given_by a.wide) (more_asked a) a.offered a.kept is.panel text
  here = by_bounds a.bounds none a held.new is.panel text is.answers.is_text

  there : IsPanelText (given_by a.wide) (more_asked a) a.offered a.kept is.panel other
  there = subst (λ (p : Panel). IsPanelText (given_by a.wide) (more_asked a) a.offered a.kept p other) same_panel (by_bounds a.bounds none a held.new also.panel other also.answers.is_text)

  pub panels_text : a.wide ≡ false → text ≡ other
  panels_text stated =
      one_text (id_name a) a.kept (records_in held.long) (more_asked a) a.offered is.panel is.denoted text other
      (subst (λ (wide : Bool). IsPanelText (given_by wide) (more_asked a) a.offered a.kept is.panel text) stated here)
      (subst (λ (wide : Bool). IsPanelText (given_by wide) (more_asked a) a.offered a.kept is.panel other) stated there)

  pub panels_verdicts : AreSameButWithheld (columns_after a.offered a.kept) text other
  panels_verdicts = one_verdict (id_name a) a.kept (records_in held.long) (given_by a.wide) (more_asked a) a.offered is.panel is.denoted text other here there
