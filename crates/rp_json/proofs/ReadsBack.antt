-- The text of a certificate within the limits is UTF-8, and it is read as the certificate's value. Each kind of value
-- has one lemma that says both with its depth (`ReadsBack`), from numbers over entries and items up to the certificate.
use Rattle.std.proofs.Common.{◌≡◌, inl, inr, map, subst, sym, ℕ, suc, ◌+◌, ◌<◌, ◌^◌, ℤ, pos, negsuc, Bool, true, false, List, [], ◌∷◌, All, Some, if◌then◌else◌, ◌==◌, IsUtf8, refl, arith, codes}
use Rattle.std.specs.Fmt.{decimal, signed_decimal}
use Rattle.std.proofs.lemmas.Fmt.{IsAscii-decimal_wide}
use Rattle.std.proofs.lemmas.Str.{IsUtf8-append, IsUtf8-from_ascii}
use Rattle.json.proofs.Printed.Utf8.{IsUtf8-are_ascii}
use Rattle.rp_num.specs.Fraction.{Fraction, fraction_text}
use Rattle.rp_num.specs.Spelled.{FitsSum, IsReduced}
use Rattle.rp_evidence.specs.declared.afriat.AfriatPart.{AfriatPart}
use Rattle.rp_evidence.specs.declared.afriat.AfriatPart.TheVariants.{Model, NoModel, Wide}
use Rattle.rp_evidence.specs.declared.certificate.Certificate.{Certificate}
use Rattle.rp_evidence.specs.declared.certificate.Item.{Item}
use Rattle.rp_evidence.specs.declared.certificate.Item.TheVariants.{Garp as GarpItem, Afriat as AfriatItem, Efficiency as EfficiencyItem, Homothetic as HomotheticItem, Quasi as QuasiItem, Demand as DemandItem, Welfare as WelfareItem, Random as RandomItem}
use Rattle.rp_evidence.specs.declared.certificate.Kind.{Kind}
use Rattle.rp_evidence.specs.declared.certificate.Kind.TheVariants.{Table, Random}
use Rattle.rp_evidence.specs.declared.demand.Bound.{Bound}
use Rattle.rp_evidence.specs.declared.demand.Bound.TheVariants.{Shown, Wide as WideBound}
use Rattle.rp_evidence.specs.declared.demand.DemandPart.{DemandPart}
use Rattle.rp_evidence.specs.declared.demand.DemandPart.TheVariants.{Bounds, NoModel as NoDemand}
use Rattle.rp_evidence.specs.declared.demand.GoodBounds.{GoodBounds}
use Rattle.rp_evidence.specs.declared.demand.Point.{Point}
use Rattle.rp_evidence.specs.declared.demand.WelfarePart.{WelfarePart}
use Rattle.rp_evidence.specs.declared.demand.WelfarePart.TheVariants.{Bounds as WelfareBounds, NoModel as NoWelfare}
use Rattle.rp_evidence.specs.declared.efficiency.Efficiency.{Efficiency}
use Rattle.rp_evidence.specs.declared.garp.Garp.{Garp}
use Rattle.rp_evidence.specs.declared.garp.Garp.TheVariants.{Ranks, Cycle}
use Rattle.rp_evidence.specs.declared.homothetic.Homothetic.{Homothetic}
use Rattle.rp_evidence.specs.declared.homothetic.Homothetic.TheVariants.{Values, Cycle as Falls, Withheld}
use Rattle.rp_evidence.specs.declared.quasilinear.Quasi.{Quasi}
use Rattle.rp_evidence.specs.declared.quasilinear.Quasi.TheVariants.{Values as Sums, Cycle as Negative}
use Rattle.rp_evidence.specs.declared.random.RandomPart.{RandomPart}
use Rattle.rp_evidence.specs.declared.random.RandomPart.TheVariants.{Mixture, Violated, Wide as WideRandom}
use Rattle.rp_evidence.specs.declared.random.Share.{Share}
use Rattle.rp_farkas.specs.declared.entry.Entry.{Entry}
use Rattle.serde_json.specs.Data.{object, member}
use Rattle.serde_json.specs.Read.{read}
use Rattle.rp_json_tests.specs.AfriatValue.{afriat_value}
use Rattle.rp_json_programs.specs.BoundValue.{bound_value, entry_value, good_value, point_value}
use Rattle.rp_json.specs.CertificateValue.{certificate_text, certificate_value, item_value, kind_name, top_value}
use Rattle.rp_json.specs.Denoted.{FitLevels}
use Rattle.rp_table.specs.OwnLevels.{IsOwnLevel}
use Rattle.rp_json_programs.specs.DemandValue.{demand_value, welfare_value}
use Rattle.rp_json_tests.specs.EfficiencyValue.{at_members, below_members, efficiency_value}
use Rattle.rp_json_tests.specs.GarpValue.{garp_value}
use Rattle.rp_json_tests.specs.HomotheticValue.{homothetic_value}
use Rattle.rp_json_entries.specs.Reading.{FitObservations, FitsCount, FitsLong, FitsObservation}
use Rattle.rp_json_tests.specs.Limits.{FitsAfriat, FitsEfficiency, FitsGarp, FitsHomothetic, FitsQuasilinear}
use Rattle.rp_json_programs.specs.Limits.{FitsBound, FitsDemand, FitsEntry, FitsGood, FitsPoint, FitsRandom, FitsShare, FitsWelfare}
use Rattle.rp_json.specs.Limits.{FitsItem}
use Rattle.rp_json_tests.specs.QuasilinearValue.{quasilinear_value}
use Rattle.rp_json_programs.specs.RandomValue.{random_value, share_value}
use Rattle.rp_json_entries.specs.Values.{count_value, counts_value, fraction_value, natural_value, naturals_value, observation_value, observations_value, signed_value}
use Rattle.rp_json.proofs.DataReadBack.{ReadsBack, text_reads, number_reads, array_reads, list_reads, object_reads, line_utf8, line_reads}

-- ---- numbers

decimal_utf8 : (n : ℕ) → n < 2 ^ 127 → IsUtf8 (decimal n)
decimal_utf8 n h = IsUtf8-from_ascii _ (IsAscii-decimal_wide n (omega arith))

signed_utf8 : (z : ℤ) → FitsSum z → IsUtf8 (signed_decimal z)
signed_utf8 (pos n) h = decimal_utf8 n h
signed_utf8 (negsuc n) h = IsUtf8-append (45 ∷ []) _ (IsUtf8-are_ascii (45 ∷ []) refl) (decimal_utf8 (suc n) h)

either_utf8 : (b : Bool) (xs ys : List ℕ) → IsUtf8 xs → IsUtf8 ys → IsUtf8 (if b then xs else ys)
either_utf8 true xs ys hx hy = hx
either_utf8 false xs ys hx hy = hy

fraction_utf8 : (f : Fraction) → IsReduced f → IsUtf8 (fraction_text f)
fraction_utf8 f h =
    let num = decimal_utf8 f.num h.1.num_fits in
    let den = IsUtf8-append (47 ∷ []) _ (IsUtf8-are_ascii (47 ∷ []) refl) (decimal_utf8 f.den h.1.den_fits) in
    either_utf8 (f.den == 1) _ _ num (IsUtf8-append _ _ num den)

count_reads : (k n : ℕ) → FitsCount n → ReadsBack k (count_value n)
count_reads k n h = number_reads k n (omega arith)

observation_reads : (k s : ℕ) → FitsObservation s → ReadsBack k (observation_value s)
observation_reads k s h = number_reads k (s + 1) (omega arith)

natural_reads : (k n : ℕ) → FitsLong n → ReadsBack k (natural_value n)
natural_reads k n h = text_reads k _ (decimal_utf8 n (omega arith))

signed_reads : (k : ℕ) (z : ℤ) → FitsSum z → ReadsBack k (signed_value z)
signed_reads k z h = text_reads k _ (signed_utf8 z h)

fraction_reads : (k : ℕ) (f : Fraction) → IsReduced f → ReadsBack k (fraction_value f)
fraction_reads k f h = text_reads k _ (fraction_utf8 f h)

counts_read : (k : ℕ) (xs : List ℕ) → All FitsCount xs → ReadsBack (suc k) (counts_value xs)
counts_read k xs h = list_reads k count_value FitsCount (count_reads k) xs h

observations_read : (k : ℕ) (xs : List ℕ) → FitObservations xs → ReadsBack (suc k) (observations_value xs)
observations_read k xs h = list_reads k observation_value FitsObservation (observation_reads k) xs h

naturals_read : (k : ℕ) (xs : List ℕ) → All FitsLong xs → ReadsBack (suc k) (naturals_value xs)
naturals_read k xs h = list_reads k natural_value FitsLong (natural_reads k) xs h

-- ---- items

garp_reads : (v : Garp) → FitsGarp v → ReadsBack 6 (garp_value v)
garp_reads (Ranks ranks) h = object_reads 5 _ (text_reads 5 (codes "garp") (IsUtf8-are_ascii _ refl), (counts_read 4 ranks h, tt)) refl refl
garp_reads (Cycle cycle) h = object_reads 5 _ (observations_read 4 cycle h, (text_reads 5 (codes "garp") (IsUtf8-are_ascii _ refl), tt)) refl refl

afriat_reads : (v : AfriatPart) → FitsAfriat v → ReadsBack 6 (afriat_value v)
afriat_reads (Model numbers) h =
    let name = text_reads 5 (codes "afriat") (IsUtf8-are_ascii _ refl) in
    object_reads 5 _ (name, (naturals_read 4 numbers.lambda h.0, (list_reads 4 signed_value FitsSum (signed_reads 4) numbers.u h.1, tt))) refl refl
afriat_reads (NoModel cycle) h = object_reads 5 _ (observations_read 4 cycle h, (text_reads 5 (codes "afriat") (IsUtf8-are_ascii _ refl), tt)) refl refl
afriat_reads (Wide at) h = object_reads 5 _ (text_reads 5 (codes "afriat") (IsUtf8-are_ascii _ refl), (observation_reads 5 at h, tt)) refl refl

at_reads : (at : Garp) (v : Efficiency) → FitsEfficiency v → FitsGarp at → ReadsBack 6 (object (member (codes "above") (observations_value v.above) (at_members at (below_members v))))
at_reads (Ranks ranks) v h fits =
    let name = text_reads 5 (codes "efficiency") (IsUtf8-are_ascii _ refl) in
    object_reads 5 _ (observations_read 4 v.above h.0, (counts_read 4 ranks fits, (counts_read 4 v.below h.2, (name, (fraction_reads 5 _ h.3.0, tt))))) refl refl
at_reads (Cycle cycle) v h fits =
    let name = text_reads 5 (codes "efficiency") (IsUtf8-are_ascii _ refl) in
    object_reads 5 _ (observations_read 4 v.above h.0, (observations_read 4 cycle fits, (counts_read 4 v.below h.2, (name, (fraction_reads 5 _ h.3.0, tt))))) refl refl

efficiency_reads : (v : Efficiency) → FitsEfficiency v → ReadsBack 6 (efficiency_value v)
efficiency_reads v h = at_reads v.at v h h.1

homothetic_reads : (v : Homothetic) → FitsHomothetic v → ReadsBack 6 (homothetic_value v)
homothetic_reads (Values values) h =
    let name = text_reads 5 (codes "homothetic") (IsUtf8-are_ascii _ refl) in
    object_reads 5 _ (name, (list_reads 4 fraction_value IsReduced (fraction_reads 4) values h, tt)) refl refl
homothetic_reads (Falls start steps) h =
    let name = text_reads 5 (codes "homothetic") (IsUtf8-are_ascii _ refl) in
    object_reads 5 _ (observations_read 4 steps h.0, (name, (fraction_reads 5 start h.1, tt))) refl refl
homothetic_reads (Withheld steps from to) h =
    let name = text_reads 5 (codes "homothetic") (IsUtf8-are_ascii _ refl) in
    object_reads 5 _ (name, (array_reads 4 _ (count_reads 4 steps h.0, (observation_reads 4 from h.1, (observation_reads 4 to h.2, tt))), tt)) refl refl

quasilinear_reads : (v : Quasi) → FitsQuasilinear v → ReadsBack 6 (quasilinear_value v)
quasilinear_reads (Sums values) h =
    let name = text_reads 5 (codes "quasilinear") (IsUtf8-are_ascii _ refl) in
    object_reads 5 _ (name, (list_reads 4 signed_value FitsSum (signed_reads 4) values h, tt)) refl refl
quasilinear_reads (Negative cycle) h =
    object_reads 5 _ (observations_read 4 cycle h, (text_reads 5 (codes "quasilinear") (IsUtf8-are_ascii _ refl), tt)) refl refl

entry_reads : (k : ℕ) (e : Entry) → FitsEntry e → ReadsBack (suc k) (entry_value e)
entry_reads k e h = array_reads k _ (observation_reads k e.at h.0, (natural_reads k e.value h.1, tt))

bound_reads : (k : ℕ) (b : Bound) → FitsBound b → ReadsBack (suc (suc (suc k))) (bound_value b)
bound_reads k (Shown value pair) h =
    let columns = naturals_read (suc k) pair.x h.2 in
    let rows = list_reads (suc k) entry_value FitsEntry (entry_reads k) pair.y h.3 in
    object_reads (suc (suc k)) _ (natural_reads (suc (suc k)) pair.den h.0, (fraction_reads (suc (suc k)) value h.1, (columns, (rows, tt)))) refl refl
bound_reads k (WideBound step) h = object_reads (suc (suc k)) _ (natural_reads (suc (suc k)) step h, tt) refl refl

good_reads : (b : GoodBounds) → FitsGood b → ReadsBack 4 (good_value b)
good_reads b h = object_reads 3 _ (bound_reads 0 b.lower h.0, (bound_reads 0 b.upper h.1, tt)) refl refl

point_reads : (p : Point) → FitsPoint p → ReadsBack 5 (point_value p)
point_reads p h = object_reads 4 _ (natural_reads 4 p.den h.0, (naturals_read 3 p.num h.1, tt)) refl refl

demand_reads : (prices : List ℕ) (m : ℕ) (part : DemandPart) → FitsDemand prices m part → ReadsBack 6 (demand_value prices m part)
demand_reads prices m (Bounds below strict inner goods) h =
    let name = text_reads 5 (codes "demand") (IsUtf8-are_ascii _ refl) in
    let all_goods = list_reads 4 good_value FitsGood good_reads goods h.2 in
    let listed = list_reads 4 natural_value FitsCount (λ n fits. natural_reads 4 n (omega arith)) prices h.4 in
    object_reads 5 _ (observations_read 4 below h.0, (natural_reads 5 m h.1, (all_goods, (point_reads inner h.3, (name, (listed, (observations_read 4 strict h.5, tt))))))) refl refl
demand_reads prices m (NoDemand cycle) h =
    let name = text_reads 5 (codes "demand") (IsUtf8-are_ascii _ refl) in
    let listed = list_reads 4 natural_value FitsCount (λ n fits. natural_reads 4 n (omega arith)) prices h.2 in
    object_reads 5 _ (observations_read 4 cycle h.0, (natural_reads 5 m h.1, (name, (listed, tt)))) refl refl

welfare_reads : (prices : List ℕ) (of : ℕ) (part : WelfarePart) → FitsWelfare prices of part → ReadsBack 6 (welfare_value prices of part)
welfare_reads prices of (WelfareBounds upper at lower) h =
    let name = text_reads 5 (codes "welfare") (IsUtf8-are_ascii _ refl) in
    let listed = list_reads 4 natural_value FitsCount (λ n fits. natural_reads 4 n (omega arith)) prices h.3 in
    object_reads 5 _ (observation_reads 5 at h.0, (name, (bound_reads 2 lower h.1, (observation_reads 5 of h.2, (listed, (natural_reads 5 upper h.4, tt)))))) refl refl
welfare_reads prices of (NoWelfare cycle) h =
    let name = text_reads 5 (codes "welfare") (IsUtf8-are_ascii _ refl) in
    let listed = list_reads 4 natural_value FitsCount (λ n fits. natural_reads 4 n (omega arith)) prices h.2 in
    object_reads 5 _ (observations_read 4 cycle h.0, (name, (observation_reads 5 of h.1, (listed, tt)))) refl refl

share_reads : (s : Share) → FitsShare s → ReadsBack 4 (share_value s)
share_reads s h = array_reads 3 _ (observations_read 2 s.patches h.0, (natural_reads 3 s.weight h.1, tt))

random_reads : (total : ℕ) (part : RandomPart) → FitsRandom total part → ReadsBack 6 (random_value total part)
random_reads total (Mixture den parts) h =
    let name = text_reads 5 (codes "random") (IsUtf8-are_ascii _ refl) in
    object_reads 5 _ (natural_reads 5 den h.0, (name, (list_reads 4 share_value FitsShare share_reads parts h.1, (natural_reads 5 total h.2, tt)))) refl refl
random_reads total (Violated den parts weights) h =
    let name = text_reads 5 (codes "random") (IsUtf8-are_ascii _ refl) in
    let shares = list_reads 4 share_value FitsShare share_reads parts h.1 in
    object_reads 5 _ (natural_reads 5 den h.0, (name, (shares, (natural_reads 5 total h.2, (naturals_read 4 weights h.3, tt))))) refl refl
random_reads total (WideRandom step) h =
    let name = text_reads 5 (codes "random") (IsUtf8-are_ascii _ refl) in
    object_reads 5 _ (name, (natural_reads 5 total h.0, (natural_reads 5 step h.1, tt))) refl refl

item_reads : (i : Item) → FitsItem i → ReadsBack 6 (item_value i)
item_reads (GarpItem v) h = garp_reads v h
item_reads (AfriatItem v) h = afriat_reads v h
item_reads (EfficiencyItem v) h = efficiency_reads v h
item_reads (HomotheticItem v) h = homothetic_reads v h
item_reads (QuasiItem v) h = quasilinear_reads v h
item_reads (DemandItem prices m part) h = demand_reads prices m part h
item_reads (WelfareItem prices of part) h = welfare_reads prices of part h
item_reads (RandomItem total part) h = random_reads total part h

-- ---- certificates

kind_utf8 : (k : Kind) → IsUtf8 (kind_name k)
kind_utf8 Table = IsUtf8-are_ascii (codes "table") refl
kind_utf8 Random = IsUtf8-are_ascii (codes "random") refl

abbrev TopReads : Kind → ℕ → List ℕ → List Item → Type 0
TopReads kind version levels items = ReadsBack 8 (top_value kind version levels (map item_value items))

levels_read : (levels : List ℕ) → All IsOwnLevel levels → ReadsBack 7 (counts_value levels)
levels_read levels h = list_reads 6 count_value IsOwnLevel (λ n own. count_reads 6 n (omega (arith, own.1))) levels h

top_reads : (kind kind' : Kind) (version : ℕ) (levels : List ℕ) (items : List Item) → FitLevels kind' version levels → All FitsItem items → TopReads kind version levels items
top_reads kind kind' version levels items (inl (v, none)) h =
    let first = list_reads 6 item_value FitsItem item_reads items h in
    let name = text_reads 7 (kind_name kind) (kind_utf8 kind) in
    subst (λ n. TopReads kind n levels items) (sym v) (object_reads 7 _ (first, (name, (count_reads 7 1 (omega arith), tt))) refl refl)
top_reads kind kind' version levels items (inr (v, table, some)) h =
    let first = list_reads 6 item_value FitsItem item_reads items h in
    let name = text_reads 7 (kind_name kind) (kind_utf8 kind) in
    subst (λ n. TopReads kind n levels items) (sym v)
    (object_reads 7 _ (first, (name, (levels_read levels some.1, (count_reads 7 2 (omega arith), tt)))) refl refl)

pub certificate_text_utf8 : (kind : Kind) (c : Certificate) → FitLevels kind c.version c.levels → All FitsItem c.items → IsUtf8 (certificate_text c)
certificate_text_utf8 kind c levels h = line_utf8 8 (certificate_value c) (top_reads c.kind kind c.version c.levels c.items levels h)

pub certificate_text_read : (kind : Kind) (c : Certificate) → FitLevels kind c.version c.levels → All FitsItem c.items → read (certificate_text c) ≡ Some (certificate_value c)
certificate_text_read kind c levels h = line_reads 8 (certificate_value c) (omega arith) (top_reads c.kind kind c.version c.levels c.items levels h)
