-- The text of a certificate within the limits is UTF-8, and it is read as the certificate's value. Each kind of value
-- has one lemma that says both with its depth (`ReadsBack`), from numbers over entries and items up to the certificate.
use Rattle.std.proofs.Common.{◌≡◌, ℕ, suc, ◌+◌, ℤ, pos, negsuc, Bool, true, false, List, [], ◌∷◌, All, Some, if◌then◌else◌, ◌==◌, IsUtf8, refl, arith, codes}
use Rattle.std.specs.Fmt.{decimal, signed_decimal}
use Rattle.std.proofs.lemmas.Fmt.{IsAscii-decimal_wide}
use Rattle.std.proofs.lemmas.Str.{IsUtf8-append, IsUtf8-from_ascii}
use Rattle.json.proofs.Printed.Utf8.{IsUtf8-are_ascii}
use Rattle.rp_num.specs.Fraction.{Fraction, fraction_text}
use Rattle.rp_num.specs.Spelled.{FitsSum, FitsWhole, IsReduced}
use Rattle.rp_evidence.specs.declared.efficiency.Efficiency.{Efficiency}
use Rattle.rp_evidence.specs.declared.garp.Garp.{Garp}
use Rattle.rp_evidence.specs.declared.garp.Garp.TheVariants.{Ranks, Cycle}
use Rattle.rp_fit.specs.declared.item.FitItem.{FitItem}
use Rattle.rp_fit.specs.declared.item.FitItem.TheVariants.{Violations as ViolationsItem, Efficiency as EfficiencyItem, Kept as KeptItem, Levels as LevelsItem, Steps as StepsItem, Pump as PumpItem, QuasilinearLevel as QuasilinearLevelItem, HomotheticLevel as HomotheticLevelItem}
use Rattle.rp_fit.specs.declared.kept.Group.{Group}
use Rattle.rp_fit.specs.declared.kept.GroupKind.{GroupKind}
use Rattle.rp_fit.specs.declared.kept.GroupKind.TheVariants.{Pairs, Cycle as Violation}
use Rattle.rp_fit.specs.declared.levels.Lack.{Lack}
use Rattle.rp_fit.specs.declared.levels.Lack.TheVariants.{Mean, Squares}
use Rattle.rp_fit.specs.declared.weighted.WeightedWalk.{WeightedWalk}
use Rattle.serde_json.specs.Data.{object, member}
use Rattle.serde_json.specs.Read.{read}
use Rattle.rp_json_entries.specs.Values.{count_value, counts_value, fraction_value, list_value, natural_value, naturals_value, observation_value, observations_value, signed_value, sums_value}
use Rattle.rp_json_entries.specs.Reading.{FitObservations, FitsCount, FitsLong, FitsObservation}
use Rattle.rp_json_tests.specs.EfficiencyValue.{at_members, below_members}
use Rattle.rp_json_tests.specs.Limits.{FitsEfficiency, FitsGarp}
use Rattle.rp_json_indices.specs.CycleValue.{cycle_value}
use Rattle.rp_json_indices.specs.GroupValue.{group_value}
use Rattle.rp_json_indices.specs.Limits.{FitsCycle, FitsGroup}
use Rattle.rp_json_indices.specs.MeasureValue.{measure_value}
use Rattle.rp_json_indices.specs.PlacesValue.{place_numbers, places_value}
use Rattle.rp_json_indices.proofs.PlacesReads.{numbers_fit}
use Rattle.rp_json.proofs.DataReadBack.{ReadsBack, text_reads, number_reads, list_reads, object_reads, line_utf8, line_reads}
use Rattle.rp_json_fit.specs.FitLimits.{FitsItem}
use Rattle.rp_json_fit.specs.FitValue.{fit_item_value, fit_text, fit_value}

-- ---- numbers

decimal_utf8 : (n : ℕ) → FitsWhole n → IsUtf8 (decimal n)
decimal_utf8 n h = IsUtf8-from_ascii _ (IsAscii-decimal_wide n (omega arith))

signed_utf8 : (z : ℤ) → FitsSum z → IsUtf8 (signed_decimal z)
signed_utf8 (pos n) h = decimal_utf8 n (omega (arith, h))
signed_utf8 (negsuc n) h = IsUtf8-append (45 ∷ []) _ (IsUtf8-are_ascii (45 ∷ []) refl) (decimal_utf8 (suc n) (omega (arith, h)))

either_utf8 : (b : Bool) (xs ys : List ℕ) → IsUtf8 xs → IsUtf8 ys → IsUtf8 (if b then xs else ys)
either_utf8 true xs ys hx hy = hx
either_utf8 false xs ys hx hy = hy

fraction_utf8 : (f : Fraction) → IsReduced f → IsUtf8 (fraction_text f)
fraction_utf8 f h =
    let num = decimal_utf8 f.num (omega (arith, h.1.num_fits)) in
    let den = IsUtf8-append (47 ∷ []) _ (IsUtf8-are_ascii (47 ∷ []) refl) (decimal_utf8 f.den (omega (arith, h.1.den_fits))) in
    either_utf8 (f.den == 1) _ _ num (IsUtf8-append _ _ num den)

count_reads : (k n : ℕ) → FitsCount n → ReadsBack k (count_value n)
count_reads k n h = number_reads k n (omega arith)

observation_reads : (k s : ℕ) → FitsObservation s → ReadsBack k (observation_value s)
observation_reads k s h = number_reads k (s + 1) (omega arith)

whole_reads : (k n : ℕ) → FitsWhole n → ReadsBack k (natural_value n)
whole_reads k n h = text_reads k _ (decimal_utf8 n h)

natural_reads : (k n : ℕ) → FitsLong n → ReadsBack k (natural_value n)
natural_reads k n h = whole_reads k n (omega arith)

small_reads : (k n : ℕ) → FitsCount n → ReadsBack k (natural_value n)
small_reads k n h = whole_reads k n (omega arith)

signed_reads : (k : ℕ) (z : ℤ) → FitsSum z → ReadsBack k (signed_value z)
signed_reads k z h = text_reads k _ (signed_utf8 z h)

fraction_reads : (k : ℕ) (f : Fraction) → IsReduced f → ReadsBack k (fraction_value f)
fraction_reads k f h = text_reads k _ (fraction_utf8 f h)

counts_read : (k : ℕ) (xs : List ℕ) → All FitsCount xs → ReadsBack (suc k) (counts_value xs)
counts_read k xs h = list_reads k count_value FitsCount (count_reads k) xs h

observations_read : (k : ℕ) (xs : List ℕ) → FitObservations xs → ReadsBack (suc k) (observations_value xs)
observations_read k xs h = list_reads k observation_value FitsObservation (observation_reads k) xs h

naturals_read : (k : ℕ) (xs : List ℕ) → All FitsLong xs → ReadsBack (suc k) (naturals_value xs)
naturals_read k xs h = list_reads k natural_value FitsLong (natural_reads k) xs h

sums_read : (k : ℕ) (xs : List ℤ) → All FitsSum xs → ReadsBack (suc k) (sums_value xs)
sums_read k xs h = list_reads k signed_value FitsSum (signed_reads k) xs h

places_read : (k : ℕ) (at : List ℕ) → FitObservations at → ReadsBack (suc k) (places_value at)
places_read k at h = counts_read k (place_numbers 0 at) (numbers_fit 0 at h)

-- ---- entries

group_reads : (group : Group) → FitsGroup group → ReadsBack 4 (group_value group)
group_reads group h = go group.weight group.kind group.members h
  where
    go : (weight : ℕ) (kind : GroupKind) (members : List ℕ) → FitsGroup (record { weight = weight; kind = kind; members = members })
        → ReadsBack 4 (group_value (record { weight = weight; kind = kind; members = members }))
    go weight Pairs members h = object_reads 3 _ (observations_read 2 members h.0, (small_reads 3 weight h.1, tt)) refl refl
    go weight Violation members h = object_reads 3 _ (observations_read 2 members h.0, (small_reads 3 weight h.1, tt)) refl refl

cycle_reads : (each : WeightedWalk) → FitsCycle each → ReadsBack 4 (cycle_value each)
cycle_reads each h = object_reads 3 _ (observations_read 2 each.walk h.0, (natural_reads 3 each.weight h.1, tt)) refl refl

cycles_read : (xs : List WeightedWalk) → All FitsCycle xs → ReadsBack 5 (list_value cycle_value xs)
cycles_read xs h = list_reads 4 cycle_value FitsCycle cycle_reads xs h

measure_reads : (lack : Lack) → ReadsBack 5 (measure_value lack)
measure_reads Mean = text_reads 5 (codes "mean") (IsUtf8-are_ascii _ refl)
measure_reads Squares = text_reads 5 (codes "squares") (IsUtf8-are_ascii _ refl)

at_reads : (at : Garp) (v : Efficiency) → FitsEfficiency v → FitsGarp at → ReadsBack 6 (object (member (codes "above") (observations_value v.above) (at_members at (below_members v))))
at_reads (Ranks ranks) v h fits =
    let name = text_reads 5 (codes "efficiency") (IsUtf8-are_ascii _ refl) in
    object_reads 5 _ (observations_read 4 v.above h.0, (counts_read 4 ranks fits, (counts_read 4 v.below h.2, (name, (fraction_reads 5 _ h.3.0, tt))))) refl refl
at_reads (Cycle cycle) v h fits =
    let name = text_reads 5 (codes "efficiency") (IsUtf8-are_ascii _ refl) in
    object_reads 5 _ (observations_read 4 v.above h.0, (observations_read 4 cycle fits, (counts_read 4 v.below h.2, (name, (fraction_reads 5 _ h.3.0, tt))))) refl refl

-- ---- items

item_reads : (i : FitItem) → FitsItem i → ReadsBack 6 (fit_item_value i)
item_reads (ViolationsItem v) h =
    let name = text_reads 5 (codes "violations") (IsUtf8-are_ascii _ refl) in
    object_reads 5 _ (small_reads 5 v.garp h.0, (name, (small_reads 5 v.observations h.1, (small_reads 5 v.sarp h.2, (small_reads 5 v.warp h.3, (small_reads 5 v.weak_garp h.4, tt)))))) refl refl
item_reads (EfficiencyItem v) h = at_reads v.at v h h.1
item_reads (KeptItem v) h =
    let name = text_reads 5 (codes "kept") (IsUtf8-are_ascii _ refl) in
    let groups = list_reads 4 group_value FitsGroup group_reads v.groups h.1 in
    object_reads 5 _ (small_reads 5 v.den h.0, (groups, (name, (observations_read 4 v.kept h.2, (small_reads 5 v.most h.3, (counts_read 4 v.ranks h.4, tt)))))) refl refl
item_reads (LevelsItem v) h =
    let name = text_reads 5 (codes "levels") (IsUtf8-are_ascii _ refl) in
    object_reads 5 _ (places_read 4 v.at h.0, (cycles_read v.walks h.1, (natural_reads 5 v.den h.2, (name, (measure_reads v.lack, (counts_read 4 v.ranks h.3, tt)))))) refl refl
item_reads (StepsItem v) h =
    let name = text_reads 5 (codes "steps") (IsUtf8-are_ascii _ refl) in
    let taken = list_reads 4 observations_value FitObservations (observations_read 3) v.taken h.4 in
    object_reads 5 _ (whole_reads 5 v.cost h.0, (cycles_read v.walks h.1, (natural_reads 5 v.den h.2, (name, (counts_read 4 v.ranks h.3, (taken, tt)))))) refl refl
item_reads (PumpItem v) h =
    let name = text_reads 5 (codes "pump") (IsUtf8-are_ascii _ refl) in
    object_reads 5 _ (observations_read 4 v.cycle h.0, (natural_reads 5 v.den h.1, (name, (natural_reads 5 v.num h.2, (sums_read 4 v.values h.3, tt))))) refl refl
item_reads (QuasilinearLevelItem v) h =
    let name = text_reads 5 (codes "quasilinear_level") (IsUtf8-are_ascii _ refl) in
    object_reads 5 _ (observations_read 4 v.walk h.0, (natural_reads 5 v.den h.1, (name, (natural_reads 5 v.num h.2, (sums_read 4 v.values h.3, tt))))) refl refl
item_reads (HomotheticLevelItem v) h =
    let name = text_reads 5 (codes "homothetic_level") (IsUtf8-are_ascii _ refl) in
    object_reads 5 _ (observations_read 4 v.walk h.0, (natural_reads 5 v.high h.1, (name, (natural_reads 5 v.low h.2, (naturals_read 4 v.values h.3, tt))))) refl refl

-- ---- certificates

top_reads : (items : List FitItem) → All FitsItem items → ReadsBack 8 (fit_value items)
top_reads items h =
    let first = list_reads 6 fit_item_value FitsItem item_reads items h in
    let name = text_reads 7 (codes "fit") (IsUtf8-are_ascii _ refl) in
    object_reads 7 _ (first, (name, (count_reads 7 1 (omega arith), tt))) refl refl

pub fit_text_utf8 : (items : List FitItem) → All FitsItem items → IsUtf8 (fit_text items)
fit_text_utf8 items h = line_utf8 8 (fit_value items) (top_reads items h)

pub fit_text_read : (items : List FitItem) → All FitsItem items → read (fit_text items) ≡ Some (fit_value items)
fit_text_read items h = line_reads 8 (fit_value items) (omega arith) (top_reads items h)
