-- The bytes of a long file and of a file of new prices decide the text of bounds, but for amounts that one text gives and
-- another withholds where other evidence than the stated one is looked for.
use Rattle.std.proofs.Common.{◌≡◌, ◌≢◌, ◌<◌, ◌⊎◌, inl, inr, ℕ, zero, suc, List, [], ◌∷◌, ◌++◌, ◌+◌, Result, Ok, Err, length, refl, sym, subst, ap, ◌∙◌, arith, slice_index_or}
use Rattle.std.specs.Prelude.{Some, map, replicate, slice_get, slice_index, true, false}
use Rattle.std.specs.List.{AllZip}
use Rattle.rp_bound_rows.specs.AsStated.{demand_as_stated, welfare_as_stated}
use Rattle.rp_bound_rows.specs.BoundRows.{GivenDemand, GivenWelfare, HasSizeOf, IsFound, IsFoundAt, IsFoundDemand, IsFoundOn, IsFoundWelfare, IsNewFault}
use Rattle.rp_bound_rows.specs.DemandLines.{AreDemandLines, AreDemandLinesAt, AreGoodSides, IsGoodLine}
use Rattle.rp_bound_rows.specs.PricePlaces.{price_places_beside}
use Rattle.rp_bound_rows.specs.RowText.{bound_rows_text}
use Rattle.rp_bound_rows.specs.WelfareLines.{AreWelfareLines, AreWelfareSides, AreWelfareLinesAt, IsObservationLine}
use Rattle.rp_bound_rows.specs.declared.asked.BoundsAsked.{BoundsAsked}
use Rattle.rp_bound_rows.specs.declared.asked.BoundsAsked.TheVariants.{Demand, Welfare}
use Rattle.rp_bound_rows.specs.declared.fault.BoundFault.{BoundFault}
use Rattle.rp_bound_rows.specs.declared.fault.BoundFault.TheVariants.{OfHousehold, OfNewPrices}
use Rattle.rp_bound_rows.specs.declared.line.Line.{Line}
use Rattle.rp_bound_rows.specs.declared.row.BoundRow.{BoundRow}
use Rattle.rp_bound_rows.specs.declared.row.Bounds.{Bounds}
use Rattle.rp_bound_rows.specs.declared.row.FoundBounds.{FoundBounds}
use Rattle.rp_bound_rows.specs.declared.row.FoundBounds.TheVariants.{Bounds as BoundsFound, Fault as FaultFound}
use Rattle.rp_bound_rows.specs.declared.side.Side.{Side}
use Rattle.rp_bound_rows.specs.declared.side.Sides.{Sides}
use Rattle.rp_bounds_panel.specs.BoundsAlike.{AreSameBounds, AreSameButWithheld, IsSameFound, IsSameLine, IsSameRow, IsSameUnlessWithheld, IsSameUpper}
use Rattle.rp_bounds_panel.specs.BoundsText.{AreRowsOf, IsBoundsText, IsRowOfHousehold, unnamed_row}
use Rattle.rp_bounds_panel.proofs.SameSides.{demand_stated, demand_unless, welfare_stated, welfare_unless}
use Rattle.rp_evidence.specs.DemandEvidence.{ProvesDemand, ProvesWelfare}
use Rattle.rp_evidence.specs.Input.{input_of_table}
use Rattle.rp_evidence.specs.declared.demand.DemandPart.{DemandPart}
use Rattle.rp_evidence.specs.declared.demand.WelfarePart.{WelfarePart}
use Rattle.rp_long.specs.Panels.{Household, Panel, nobody}
use Rattle.rp_long.specs.declared.fault.Unnamed.{Unnamed}
use Rattle.rp_rows.specs.declared.fault.Fault.TheVariants.{OfTable, OwnLevels}
use Rattle.rp_sheet.specs.declared.fault.TableFault.{TableFault}
use Rattle.rp_table.specs.PriceLists.{PriceList}
use Rattle.rp_table.specs.Rows.{row_of, rows_count}
use Rattle.rp_table.specs.Tables.{Observations, goods_of, records_of}
use Rattle.rp_text.specs.Denotation.{prices_beside}

zipped : {A : Type 0} (R : A → A → Type 0) (xs ys : List A) → length xs ≡ length ys → ((k : ℕ) (d : A) → k < length xs → R (slice_index_or xs k d) (slice_index_or ys k d)) → AllZip R xs ys
zipped R [] [] e each = tt
zipped R [] (y ∷ ys) e each = absurd (omega (arith, e))
zipped R (x ∷ xs) [] e each = absurd (omega (arith, e))
zipped R (x ∷ xs) (y ∷ ys) e each = (each 0 x (omega arith), zipped R xs ys (omega (arith, e)) (λ k d l. each (suc k) d (omega (arith, l))))

abbrev Alike : Type 1
Alike = Side → Side → Type 0

-- what holds of the two bounds that any two pieces of given evidence on demand tell of a good
abbrev DemandAlike : GivenDemand → Alike → Alike → Type 0
DemandAlike given Lower Upper = (table : Observations) (prices : List ℕ) (m g places : ℕ) → g < goods_of table → (e f : DemandPart) → ProvesDemand (input_of_table table) prices m e → ProvesDemand (input_of_table table) prices m f → given table prices m e → given table prices m f
    → (s t : Sides) → AreGoodSides places g e s → AreGoodSides places g f t → Lower s.lower t.lower × Upper s.upper t.upper

-- the same on the money metric of an observation
abbrev WelfareAlike : GivenWelfare → Alike → Alike → Type 0
WelfareAlike given Lower Upper = (table : Observations) (prices : List ℕ) (at places : ℕ) → (e f : WelfarePart) → ProvesWelfare (input_of_table table) prices at e → ProvesWelfare (input_of_table table) prices at f → given table prices at e → given table prices at f
    → (s t : Sides) → AreWelfareSides places e s → AreWelfareSides places f t → Lower s.lower t.lower × Upper s.upper t.upper

size_same : (table : Observations) (b c : Bounds) → HasSizeOf table b → HasSizeOf table c → (b.observations ≡ c.observations) × (b.goods ≡ c.goods)
size_same table b c p q = (p.observations ∙ sym q.observations, p.goods ∙ sym q.goods)

fault_same : (denoted : Result PriceList TableFault) (f g : BoundFault) → IsNewFault denoted f → IsNewFault denoted g → f ≡ g
fault_same denoted f g p q =
    let first : p.0 ≡ q.0 = cc (sym p.1 ∙ q.1) in
    p.2 ∙ ap OfNewPrices first ∙ sym q.2

module _ (Lower Upper : Alike) where
  module _ (given : GivenDemand) (alike : DemandAlike given Lower Upper) (table : Observations) where
    good_line : (i : ℕ) (prices : List ℕ) (m g : ℕ) → g < goods_of table → (e f : DemandPart) → ProvesDemand (input_of_table table) prices m e → ProvesDemand (input_of_table table) prices m f → given table prices m e → given table prices m f
        → (line other : Line) → IsGoodLine table i e g line → IsGoodLine table i f g other → IsSameLine Lower Upper line other
    good_line i prices m g inside e f p q v w line other one also =
        let sides = alike table prices m g table.quantity_places inside e f p q v w line.bounds other.bounds one.bounds_are also.bounds_are in
        record {
          price = one.price_is ∙ sym also.price_is;
          about = cc (sym one.about_is ∙ also.about_is);
          lower = sides.0;
          upper = sides.1;
        }

    good_lines : (i : ℕ) (prices : List ℕ) (m : ℕ) (lines others : List Line) → AreDemandLinesAt given table i prices m lines → AreDemandLinesAt given table i prices m others → AllZip (IsSameLine Lower Upper) lines others
    good_lines i prices m lines others p q =
        zipped (IsSameLine Lower Upper) lines others (p.lines_are.one_each ∙ sym q.lines_are.one_each)
        (λ g d l.
        let inside : g < goods_of table = omega (arith, l, p.lines_are.one_each) in
        good_line i prices m g inside p.evidence q.evidence p.proves q.proves p.is_given q.is_given (slice_index_or lines g d) (slice_index_or others g d) (p.lines_are.each g d inside) (q.lines_are.each g d inside))

    demand_lines : (new : PriceList) (at others : List (List Line)) → AreDemandLines given table new at → AreDemandLines given table new others → AllZip (AllZip (IsSameLine Lower Upper)) at others
    demand_lines new at others p q =
        zipped (AllZip (IsSameLine Lower Upper)) at others (p.one_each ∙ sym q.one_each)
        (λ i d l.
        let inside : i < rows_count new.prices new.goods = omega (arith, l, p.one_each) in
        good_lines i (row_of new.prices new.goods i) (slice_index new.m i) (slice_index_or at i d) (slice_index_or others i d) (p.each i d inside) (q.each i d inside))

    found_demand : (bytes : List ℕ) (found other : FoundBounds) → IsFoundDemand given table bytes found → IsFoundDemand given table bytes other → IsSameFound Lower Upper found other
    found_demand bytes (BoundsFound b) (BoundsFound c) p q =
        let new : q.0 ≡ p.0 = cc (sym q.1 ∙ p.1) in
        let size = size_same table b c p.2 q.2 in
        record {
          observations = size.0;
          goods = size.1;
          at = demand_lines p.0 b.at c.at p.3 (subst (λ (n : PriceList). AreDemandLines given table n c.at) new q.3);
        }
    found_demand bytes (BoundsFound b) (FaultFound f) p q = absurd (cc (sym p.1 ∙ q.1))
    found_demand bytes (FaultFound f) (BoundsFound b) p q = absurd (cc (sym p.1 ∙ q.1))
    found_demand bytes (FaultFound f) (FaultFound g) p q = fault_same (prices_beside true table bytes) f g p q

  module _ (given : GivenWelfare) (alike : WelfareAlike given Lower Upper) (table : Observations) where
    observation_line : (places i : ℕ) (prices : List ℕ) (t : ℕ) (line other : Line) → IsObservationLine given table places i prices t line → IsObservationLine given table places i prices t other → IsSameLine Lower Upper line other
    observation_line places i prices t line other one also =
        let sides = alike table prices t places one.evidence also.evidence one.proves also.proves one.is_given also.is_given line.bounds other.bounds one.bounds_are also.bounds_are in
        record {
          price = one.price_is ∙ sym also.price_is;
          about = one.about_is ∙ sym also.about_is;
          lower = sides.0;
          upper = sides.1;
        }

    observation_lines : (places i : ℕ) (prices : List ℕ) (lines others : List Line) → AreWelfareLinesAt given table places i prices lines → AreWelfareLinesAt given table places i prices others → AllZip (IsSameLine Lower Upper) lines others
    observation_lines places i prices lines others p q =
        zipped (IsSameLine Lower Upper) lines others (p.one_each ∙ sym q.one_each)
        (λ t d l.
        let inside : t < records_of table = omega (arith, l, p.one_each) in
        observation_line places i prices t (slice_index_or lines t d) (slice_index_or others t d) (p.each t d inside) (q.each t d inside))

    welfare_lines : (places : ℕ) (new : PriceList) (at others : List (List Line)) → AreWelfareLines given table places new at → AreWelfareLines given table places new others → AllZip (AllZip (IsSameLine Lower Upper)) at others
    welfare_lines places new at others p q =
        zipped (AllZip (IsSameLine Lower Upper)) at others (p.one_each ∙ sym q.one_each)
        (λ i d l.
        let inside : i < rows_count new.prices new.goods = omega (arith, l, p.one_each) in
        observation_lines places i (row_of new.prices new.goods i) (slice_index_or at i d) (slice_index_or others i d) (p.each i d inside) (q.each i d inside))

    found_welfare : (bytes : List ℕ) (found other : FoundBounds) → IsFoundWelfare given table bytes found → IsFoundWelfare given table bytes other → IsSameFound Lower Upper found other
    found_welfare bytes (BoundsFound b) (BoundsFound c) p q =
        let new : q.0 ≡ p.0 = cc (sym q.2 ∙ p.2) in
        let places : q.1 ≡ p.1 = cc (sym q.3 ∙ p.3) in
        let size = size_same table b c p.4 q.4 in
        record {
          observations = size.0;
          goods = size.1;
          at = welfare_lines (p.1 + table.quantity_places) p.0 b.at c.at p.5
              (subst (λ (n : PriceList). AreWelfareLines given table (p.1 + table.quantity_places) n c.at) new
              (subst (λ (k : ℕ). AreWelfareLines given table (k + table.quantity_places) q.0 c.at) places q.5));
        }
    found_welfare bytes (BoundsFound b) (FaultFound f) p q = absurd (cc (sym p.2 ∙ q.1))
    found_welfare bytes (FaultFound f) (BoundsFound b) p q = absurd (cc (sym p.1 ∙ q.2))
    found_welfare bytes (FaultFound f) (FaultFound g) p q = fault_same (prices_beside false table bytes) f g p q

-- ---- rows

-- what holds of what two rows tell of one table
abbrev FoundAlike : GivenDemand → GivenWelfare → BoundsAsked → Alike → Alike → Type 0
FoundAlike of_demand of_welfare asked Lower Upper = (table : Observations) (bytes : List ℕ) (found other : FoundBounds) → IsFoundAt of_demand of_welfare asked table bytes found → IsFoundAt of_demand of_welfare asked table bytes other → IsSameFound Lower Upper found other

module _ (of_demand : GivenDemand) (of_welfare : GivenWelfare) (asked : BoundsAsked) (Lower Upper : Alike) (alike : FoundAlike of_demand of_welfare asked Lower Upper) (bytes : List ℕ) where
  one_fault : (fault : BoundFault) (found other : FoundBounds) → found ≡ FaultFound fault → other ≡ FaultFound fault → IsSameFound Lower Upper found other
  one_fault fault (BoundsFound b) other p q = absurd (cc p)
  one_fault fault (FaultFound f) (BoundsFound b) p q = absurd (cc q)
  one_fault fault (FaultFound f) (FaultFound g) p q = cc (p ∙ sym q)

  found_on : (table : Observations) (found other : FoundBounds) → IsFoundOn of_demand of_welfare asked table bytes found → IsFoundOn of_demand of_welfare asked table bytes other → IsSameFound Lower Upper found other
  found_on table found other (inl p) (inl q) = one_fault (OfHousehold OwnLevels) found other p.1 q.1
  found_on table found other (inl p) (inr q) = absurd (p.0 q.0)
  found_on table found other (inr p) (inl q) = absurd (q.0 p.0)
  found_on table found other (inr p) (inr q) = alike table bytes found other p.1 q.1

  found_same : (denoted : Result Observations TableFault) (found other : FoundBounds) → IsFound of_demand of_welfare asked bytes denoted found → IsFound of_demand of_welfare asked bytes denoted other → IsSameFound Lower Upper found other
  found_same (Ok table) found other p q = found_on table found other p q
  found_same (Err fault) found other p q = one_fault (OfHousehold (OfTable fault)) found other p q

  rows_same : (households : List Household) (rows others : List BoundRow) → AreRowsOf of_demand of_welfare asked bytes households rows → AreRowsOf of_demand of_welfare asked bytes households others → AllZip (IsSameRow Lower Upper) rows others
  rows_same households rows others p q =
      zipped (IsSameRow Lower Upper) rows others (p.one_each ∙ sym q.one_each)
      (λ h d l.
      let inside : h < length households = omega (arith, l, p.one_each) in
      row_same (slice_index_or households h nobody) (slice_index_or rows h d) (slice_index_or others h d) (p.each h d inside) (q.each h d inside))
    where
      row_same : (household : Household) (row other : BoundRow) → IsRowOfHousehold of_demand of_welfare asked bytes household row → IsRowOfHousehold of_demand of_welfare asked bytes household other → IsSameRow Lower Upper row other
      row_same household row other p q = record {
        household = p.household_is ∙ sym q.household_is;
        kept = p.kept_are ∙ sym q.kept_are;
        found = found_same household.table row.found other.found p.found_is q.found_is;
      }

-- ---- with any evidence, and with the stated one

demand_any : (given : GivenDemand) → DemandAlike given IsSameUnlessWithheld IsSameUnlessWithheld
demand_any given table prices m g places inside e f p q v w = demand_unless table prices m g places inside e f p q

welfare_any : (given : GivenWelfare) → WelfareAlike given IsSameUnlessWithheld (λ s t. s ≡ t)
welfare_any given table prices at places e f p q v w = welfare_unless table prices at places e f p q

found_any : (of_demand : GivenDemand) (of_welfare : GivenWelfare) (asked : BoundsAsked) → FoundAlike of_demand of_welfare asked IsSameUnlessWithheld (IsSameUpper asked)
found_any of_demand of_welfare Demand table = found_demand IsSameUnlessWithheld IsSameUnlessWithheld of_demand (demand_any of_demand) table
found_any of_demand of_welfare Welfare table = found_welfare IsSameUnlessWithheld (λ s t. s ≡ t) of_welfare (welfare_any of_welfare) table

found_stated : (asked : BoundsAsked) → FoundAlike demand_as_stated welfare_as_stated asked (λ s t. s ≡ t) (λ s t. s ≡ t)
found_stated Demand table = found_demand (λ s t. s ≡ t) (λ s t. s ≡ t) demand_as_stated demand_stated table
found_stated Welfare table = found_welfare (λ s t. s ≡ t) (λ s t. s ≡ t) welfare_as_stated welfare_stated table

-- ---- equal rows

lines_equal : (xs ys : List Line) → AllZip (IsSameLine (λ s t. s ≡ t) (λ s t. s ≡ t)) xs ys → xs ≡ ys
lines_equal [] [] zip = refl
lines_equal [] (y ∷ ys) zip = absurd zip
lines_equal (x ∷ xs) [] zip = absurd zip
lines_equal (x ∷ xs) (y ∷ ys) zip =
    let rest = lines_equal xs ys zip.1 in
    λ i. record { price = zip.0.price i; about = zip.0.about i; bounds = record { lower = zip.0.lower i; upper = zip.0.upper i } } ∷ rest i

all_lines_equal : (xs ys : List (List Line)) → AllZip (AllZip (IsSameLine (λ s t. s ≡ t) (λ s t. s ≡ t))) xs ys → xs ≡ ys
all_lines_equal [] [] zip = refl
all_lines_equal [] (y ∷ ys) zip = absurd zip
all_lines_equal (x ∷ xs) [] zip = absurd zip
all_lines_equal (x ∷ xs) (y ∷ ys) zip =
    let first = lines_equal x y zip.0 in
    let rest = all_lines_equal xs ys zip.1 in
    λ i. first i ∷ rest i

found_equal : (f g : FoundBounds) → IsSameFound (λ s t. s ≡ t) (λ s t. s ≡ t) f g → f ≡ g
found_equal (BoundsFound b) (BoundsFound c) s =
    let at = all_lines_equal b.at c.at s.at in
    λ i. BoundsFound (record { observations = s.observations i; goods = s.goods i; at = at i })
found_equal (BoundsFound b) (FaultFound g) s = absurd s
found_equal (FaultFound f) (BoundsFound c) s = absurd s
found_equal (FaultFound f) (FaultFound g) s = ap FaultFound s

rows_equal : (xs ys : List BoundRow) → AllZip (IsSameRow (λ s t. s ≡ t) (λ s t. s ≡ t)) xs ys → xs ≡ ys
rows_equal [] [] zip = refl
rows_equal [] (y ∷ ys) zip = absurd zip
rows_equal (x ∷ xs) [] zip = absurd zip
rows_equal (x ∷ xs) (y ∷ ys) zip =
    let found = found_equal x.found y.found zip.0.found in
    let rest = rows_equal xs ys zip.1 in
    λ i. record { household = zip.0.household i; kept = zip.0.kept i; found = found i } ∷ rest i

-- ---- texts

pub one_text : (asked : BoundsAsked) (new : List ℕ) (kept : List (List ℕ)) (panel : Panel) (text other : List ℕ)
    → IsBoundsText demand_as_stated welfare_as_stated asked new kept panel text → IsBoundsText demand_as_stated welfare_as_stated asked new kept panel other → text ≡ other
one_text asked new kept panel text other p q =
    let same = rows_equal p.rows q.rows (rows_same demand_as_stated welfare_as_stated asked (λ s t. s ≡ t) (λ s t. s ≡ t) (found_stated asked) new panel.households p.rows q.rows p.of_households q.of_households) in
    p.text_is ∙ ap (λ (rows : List BoundRow). bound_rows_text asked kept (rows ++ map (unnamed_row (length kept)) panel.unnamed)) same ∙ sym q.text_is

refused_same : (asked : BoundsAsked) (kept : ℕ) (u : Unnamed) → IsSameRow IsSameUnlessWithheld (IsSameUpper asked) (unnamed_row kept u) (unnamed_row kept u)
refused_same asked kept u = record { household = refl; kept = refl; found = refl }

with_refused : (asked : BoundsAsked) (kept : ℕ) (xs ys : List BoundRow) (refused : List Unnamed) → AllZip (IsSameRow IsSameUnlessWithheld (IsSameUpper asked)) xs ys → AllZip (IsSameRow IsSameUnlessWithheld (IsSameUpper asked)) (xs ++ map (unnamed_row kept) refused) (ys ++ map (unnamed_row kept) refused)
with_refused asked kept [] [] [] zip = tt
with_refused asked kept [] [] (u ∷ refused) zip = (refused_same asked kept u, with_refused asked kept [] [] refused tt)
with_refused asked kept [] (y ∷ ys) refused zip = absurd zip
with_refused asked kept (x ∷ xs) [] refused zip = absurd zip
with_refused asked kept (x ∷ xs) (y ∷ ys) refused zip = (zip.0, with_refused asked kept xs ys refused zip.1)

pub one_bound : (of_demand : GivenDemand) (of_welfare : GivenWelfare) (asked : BoundsAsked) (new : List ℕ) (kept : List (List ℕ)) (panel : Panel) (text other : List ℕ)
    → IsBoundsText of_demand of_welfare asked new kept panel text → IsBoundsText of_demand of_welfare asked new kept panel other → AreSameButWithheld asked kept text other
one_bound of_demand of_welfare asked new kept panel text other p q = record {
  rows = p.rows ++ map (unnamed_row (length kept)) panel.unnamed;
  other_rows = q.rows ++ map (unnamed_row (length kept)) panel.unnamed;
  text_is = p.text_is;
  other_is = q.text_is;
  same = with_refused asked (length kept) p.rows q.rows panel.unnamed
      (rows_same of_demand of_welfare asked IsSameUnlessWithheld (IsSameUpper asked) (found_any of_demand of_welfare asked) new panel.households p.rows q.rows p.of_households q.of_households);
}
