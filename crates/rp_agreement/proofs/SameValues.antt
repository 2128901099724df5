-- No two items within their limits have one JSON value, so the text of a certificate that can be read back denotes it.
use Rattle.std.proofs.Common.{◌≡◌, ◌+◌, ℕ, zero, suc, List, [], ◌∷◌, All, map, Ok, arith, ap, sym, refl, subst}
use Rattle.rp_evidence.specs.declared.afriat.AfriatPart.TheVariants.{Model, NoModel, Wide}
use Rattle.rp_evidence.specs.declared.certificate.Certificate.{Certificate}
use Rattle.rp_evidence.specs.declared.certificate.Item.{Item}
use Rattle.rp_evidence.specs.declared.certificate.Item.TheVariants.{Garp as GarpItem, Afriat as AfriatItem, Efficiency as EfficiencyItem, Homothetic as HomotheticItem, Quasi as QuasiItem, Demand as DemandItem, Welfare as WelfareItem, Random as RandomItem}
use Rattle.rp_evidence.specs.declared.certificate.Kind.{Kind}
use Rattle.rp_evidence.specs.declared.certificate.Kind.TheVariants.{Table, Random as RandomKind}
use Rattle.rp_evidence.specs.declared.demand.Bound.TheVariants.{Shown, Wide as WideBound}
use Rattle.rp_evidence.specs.declared.demand.DemandPart.TheVariants.{Bounds, NoModel as NoDemand}
use Rattle.rp_evidence.specs.declared.demand.WelfarePart.TheVariants.{Bounds as WelfareBounds, NoModel as NoWelfare}
use Rattle.rp_evidence.specs.declared.efficiency.Efficiency.{Efficiency}
use Rattle.rp_evidence.specs.declared.garp.Garp.{Garp}
use Rattle.rp_evidence.specs.declared.garp.Garp.TheVariants.{Ranks, Cycle}
use Rattle.rp_evidence.specs.declared.homothetic.Homothetic.TheVariants.{Values, Cycle as Falls, Withheld}
use Rattle.rp_evidence.specs.declared.level.Level.{Level}
use Rattle.rp_evidence.specs.declared.quasilinear.Quasi.TheVariants.{Values as Sums, Cycle as Negative}
use Rattle.rp_evidence.specs.declared.random.RandomPart.TheVariants.{Mixture, Violated, Wide as WideRandom}
use Rattle.rp_num.specs.Fraction.{Fraction}
use Rattle.rp_num.specs.Spelled.{FitsSum, IsReduced}
use Rattle.serde_json.specs.Data.{Data, Items, Members, array, item, member, no_items, no_members, null, number, object, string, unsigned}
use Rattle.rp_json_tests.specs.AfriatValue.{afriat_value}
use Rattle.rp_json_programs.specs.BoundValue.{bound_value, entry_value, good_value, point_value}
use Rattle.rp_json.specs.CertificateValue.{certificate_text, certificate_value, item_value, top_value}
use Rattle.rp_json.specs.Denoted.{FitsKind, IsDenoted, IsDenotedBy, IsReadable}
use Rattle.rp_json_tests.specs.EfficiencyValue.{efficiency_value}
use Rattle.rp_json_tests.specs.GarpValue.{garp_value}
use Rattle.rp_json_tests.specs.HomotheticValue.{homothetic_value}
use Rattle.rp_json_entries.specs.Reading.{FitObservations, FitsCount, FitsLong, FitsObservation}
use Rattle.rp_json_tests.specs.Limits.{FitsAfriat, FitsEfficiency, FitsGarp, FitsHomothetic, FitsQuasilinear}
use Rattle.rp_json_programs.specs.Limits.{FitsBound, FitsEntry, FitsGood, FitsPoint, FitsShare}
use Rattle.rp_json_tests.specs.QuasilinearValue.{quasilinear_value}
use Rattle.rp_json_programs.specs.RandomValue.{share_value}
use Rattle.rp_json_entries.specs.Values.{count_value, counts_value, fraction_value, list_value, natural_value, naturals_value, observation_value, observations_value, signed_value}
use Rattle.rp_json_entries.proofs.ShapeDifferences.{differ, first_letter, late_letter, members_count, second_letter}
use Rattle.rp_json_programs.proofs.DemandReads.{FitsDemandOf, demand_of}
use Rattle.rp_json_entries.proofs.FractionTexts.{one_fraction}
use Rattle.rp_json.proofs.ItemListLemmas.{all_items, certificate_found, read_back, text_spells}
use Rattle.rp_json.proofs.ItemReads.{found_afriat, found_demand, found_efficiency, found_garp, found_homothetic, found_quasilinear, found_random, found_welfare}
use Rattle.rp_json_entries.proofs.ListLemmas.{all_first, all_rest, same_array, same_items}
use Rattle.rp_json_entries.proofs.NumberLemmas.{one_sum, one_whole}
use Rattle.rp_json_programs.proofs.RandomReads.{FitsRandomOf, random_of}
use Rattle.rp_json_programs.proofs.WelfareReads.{FitsWelfareOf, welfare_of}
use Rattle.rp_agreement.specs.ReadBack.{IsReadBack}

-- no two entries within the limits are shown alike
abbrev AreApart : {X : Type 0} → (X → Data) → (X → Type 0) → Type 0
AreApart shown fits = (x y : _) → fits x → fits y → shown x ≡ shown y → x ≡ y

-- ---- parts of values

abbrev member_in : ℕ → Members → Data
member_in k no_members = null
member_in zero (member name d ms) = d
member_in (suc k) (member name d ms) = member_in k ms

-- the value of member k of an object
abbrev part : ℕ → Data → Data
part k (object ms) = member_in k ms
part k _ = null

abbrev item_in : ℕ → Items → Data
item_in k no_items = null
item_in zero (item d ds) = d
item_in (suc k) (item d ds) = item_in k ds

-- item k of an array
abbrev place : ℕ → Data → Data
place k (array ds) = item_in k ds
place k _ = null

abbrev number_in : Data → ℕ
number_in (number (unsigned n)) = n
number_in _ = 0

abbrev text_in : Data → List ℕ
text_in (string s) = s
text_in _ = []

-- ---- numbers and lists

count_apart : AreApart count_value FitsCount
count_apart m n hm hn e = ap number_in e

observation_apart : AreApart observation_value FitsObservation
observation_apart s t hs ht e = let q : s + 1 ≡ t + 1 = ap number_in e in omega (arith, q)

natural_apart : AreApart natural_value FitsLong
natural_apart m n hm hn e = one_whole m n (omega (arith, hm)) (omega (arith, hn)) (ap text_in e)

price_apart : AreApart natural_value FitsCount
price_apart m n hm hn e = one_whole m n (omega (arith, hm)) (omega (arith, hn)) (ap text_in e)

signed_apart : AreApart signed_value FitsSum
signed_apart y z hy hz e = one_sum y z hy hz (ap text_in e)

fraction_apart : AreApart fraction_value IsReduced
fraction_apart f g hf hg e = one_fraction f g hf hg (ap text_in e)

abbrev head_of : Data → List Data → Data
head_of d [] = d
head_of d (x ∷ xs) = x

abbrev tail_of : List Data → List Data
tail_of [] = []
tail_of (x ∷ xs) = xs

module _ {X : Type 0} (shown : X → Data) (fits : X → Type 0) (apart : AreApart shown fits) where
  pub same_entries : (xs ys : List X) → All fits xs → All fits ys → map shown xs ≡ map shown ys → xs ≡ ys
  same_entries [] [] hx hy e = refl
  same_entries [] (y ∷ ys) hx hy e = absurd cc
  same_entries (x ∷ xs) [] hx hy e = absurd cc
  same_entries (x ∷ xs) (y ∷ ys) hx hy e =
      let a = apart x y (all_first fits x xs hx) (all_first fits y ys hy) (ap (head_of null) e) in
      let b = same_entries xs ys (all_rest fits x xs hx) (all_rest fits y ys hy) (ap tail_of e) in
      λ i. a i ∷ b i

  list_apart : AreApart (list_value shown) (All fits)
  list_apart xs ys hx hy e = same_entries xs ys hx hy (same_items (map shown xs) (map shown ys) (same_array _ _ e))

counts_apart : AreApart counts_value (All FitsCount)
counts_apart = list_apart count_value FitsCount count_apart

observations_apart : AreApart observations_value FitObservations
observations_apart = list_apart observation_value FitsObservation observation_apart

naturals_apart : AreApart naturals_value (All FitsLong)
naturals_apart = list_apart natural_value FitsLong natural_apart

prices_apart : AreApart naturals_value (All FitsCount)
prices_apart = list_apart natural_value FitsCount price_apart

-- ---- verdicts

garp_apart : AreApart garp_value FitsGarp
garp_apart (Ranks v) (Ranks w) hv hw e = ap Ranks (counts_apart v w hv hw (ap (part 1) e))
garp_apart (Ranks v) (Cycle w) hv hw e = absurd (differ first_letter _ _ e (λ q. omega (arith, q)))
garp_apart (Cycle v) (Ranks w) hv hw e = absurd (differ first_letter _ _ e (λ q. omega (arith, q)))
garp_apart (Cycle v) (Cycle w) hv hw e = ap Cycle (observations_apart v w hv hw (ap (part 0) e))

afriat_apart : AreApart afriat_value FitsAfriat
afriat_apart (Model v) (Model w) hv hw e =
    let lambdas = naturals_apart v.lambda w.lambda hv.0 hw.0 (ap (part 1) e) in
    let utilities = list_apart signed_value FitsSum signed_apart v.u w.u hv.1 hw.1 (ap (part 2) e) in
    λ i. Model (record { u = utilities i; lambda = lambdas i })
afriat_apart (Model v) (NoModel w) hv hw e = absurd (differ first_letter _ _ e (λ q. omega (arith, q)))
afriat_apart (Model v) (Wide t) hv hw e = absurd (differ second_letter _ _ e (λ q. omega (arith, q)))
afriat_apart (NoModel v) (Model w) hv hw e = absurd (differ first_letter _ _ e (λ q. omega (arith, q)))
afriat_apart (NoModel v) (NoModel w) hv hw e = ap NoModel (observations_apart v w hv hw (ap (part 0) e))
afriat_apart (NoModel v) (Wide t) hv hw e = absurd (differ first_letter _ _ e (λ q. omega (arith, q)))
afriat_apart (Wide s) (Model w) hv hw e = absurd (differ second_letter _ _ e (λ q. omega (arith, q)))
afriat_apart (Wide s) (NoModel w) hv hw e = absurd (differ first_letter _ _ e (λ q. omega (arith, q)))
afriat_apart (Wide s) (Wide t) hv hw e = ap Wide (observation_apart s t hv hw (ap (part 1) e))

same_level : (v w : Level) → ◌≡◌ {A = Fraction} (record { num = v.num; den = v.den }) (record { num = w.num; den = w.den }) → v ≡ w
same_level v w e = λ i. record { num = ap (λ (f : Fraction). f.num) e i; den = ap (λ (f : Fraction). f.den) e i }

module _ (level level' : Level) (below below' above above' : List ℕ) where
  abbrev with_at : Garp → Efficiency
  with_at at = record { level = level; below = below; above = above; at = at }

  abbrev with_at' : Garp → Efficiency
  with_at' at = record { level = level'; below = below'; above = above'; at = at }

  at_apart : (at at' : Garp) → FitsEfficiency (with_at at) → FitsEfficiency (with_at' at') → efficiency_value (with_at at) ≡ efficiency_value (with_at' at') → with_at at ≡ with_at' at'
  at_apart (Ranks v) (Ranks w) hv hw e =
      let aboves = observations_apart above above' hv.0 hw.0 (ap (part 0) e) in
      let ranks = counts_apart v w hv.1 hw.1 (ap (part 1) e) in
      let belows = counts_apart below below' hv.2 hw.2 (ap (part 2) e) in
      let levels = same_level level level' (fraction_apart _ _ hv.3.0 hw.3.0 (ap (part 4) e)) in
      λ i. record { level = levels i; below = belows i; above = aboves i; at = Ranks (ranks i) }
  at_apart (Ranks v) (Cycle w) hv hw e = absurd (differ late_letter _ _ e (λ q. omega (arith, q)))
  at_apart (Cycle v) (Ranks w) hv hw e = absurd (differ late_letter _ _ e (λ q. omega (arith, q)))
  at_apart (Cycle v) (Cycle w) hv hw e =
      let aboves = observations_apart above above' hv.0 hw.0 (ap (part 0) e) in
      let walks = observations_apart v w hv.1 hw.1 (ap (part 1) e) in
      let belows = counts_apart below below' hv.2 hw.2 (ap (part 2) e) in
      let levels = same_level level level' (fraction_apart _ _ hv.3.0 hw.3.0 (ap (part 4) e)) in
      λ i. record { level = levels i; below = belows i; above = aboves i; at = Cycle (walks i) }

efficiency_apart : AreApart efficiency_value FitsEfficiency
efficiency_apart v w hv hw e = at_apart v.level w.level v.below w.below v.above w.above v.at w.at hv hw e

homothetic_apart : AreApart homothetic_value FitsHomothetic
homothetic_apart (Values v) (Values w) hv hw e = ap Values (list_apart fraction_value IsReduced fraction_apart v w hv hw (ap (part 1) e))
homothetic_apart (Values v) (Falls start w) hv hw e = absurd (differ first_letter _ _ e (λ q. omega (arith, q)))
homothetic_apart (Values v) (Withheld steps from to) hv hw e = absurd (differ second_letter _ _ e (λ q. omega (arith, q)))
homothetic_apart (Falls start v) (Values w) hv hw e = absurd (differ first_letter _ _ e (λ q. omega (arith, q)))
homothetic_apart (Falls start v) (Falls other w) hv hw e =
    let walks = observations_apart v w hv.0 hw.0 (ap (part 0) e) in
    let starts = fraction_apart start other hv.1 hw.1 (ap (part 2) e) in
    λ i. Falls (starts i) (walks i)
homothetic_apart (Falls start v) (Withheld steps from to) hv hw e = absurd (differ first_letter _ _ e (λ q. omega (arith, q)))
homothetic_apart (Withheld steps from to) (Values w) hv hw e = absurd (differ second_letter _ _ e (λ q. omega (arith, q)))
homothetic_apart (Withheld steps from to) (Falls start w) hv hw e = absurd (differ first_letter _ _ e (λ q. omega (arith, q)))
homothetic_apart (Withheld steps from to) (Withheld steps' from' to') hv hw e =
    let a = count_apart steps steps' hv.0 hw.0 (ap (λ d. place 0 (part 1 d)) e) in
    let b = observation_apart from from' hv.1 hw.1 (ap (λ d. place 1 (part 1 d)) e) in
    let c = observation_apart to to' hv.2 hw.2 (ap (λ d. place 2 (part 1 d)) e) in
    λ i. Withheld (a i) (b i) (c i)

quasilinear_apart : AreApart quasilinear_value FitsQuasilinear
quasilinear_apart (Sums v) (Sums w) hv hw e = ap Sums (list_apart signed_value FitsSum signed_apart v w hv hw (ap (part 1) e))
quasilinear_apart (Sums v) (Negative w) hv hw e = absurd (differ first_letter _ _ e (λ q. omega (arith, q)))
quasilinear_apart (Negative v) (Sums w) hv hw e = absurd (differ first_letter _ _ e (λ q. omega (arith, q)))
quasilinear_apart (Negative v) (Negative w) hv hw e = ap Negative (observations_apart v w hv hw (ap (part 0) e))

-- ---- bounds

entry_apart : AreApart entry_value FitsEntry
entry_apart x y hx hy e =
    let a = observation_apart x.at y.at hx.0 hy.0 (ap (place 0) e) in
    let b = natural_apart x.value y.value hx.1 hy.1 (ap (place 1) e) in
    λ i. record { at = a i; value = b i }

bound_apart : AreApart bound_value FitsBound
bound_apart (Shown v p) (Shown w q) hv hw e =
    let dens = natural_apart p.den q.den hv.0 hw.0 (ap (part 0) e) in
    let values = fraction_apart v w hv.1 hw.1 (ap (part 1) e) in
    let xs = naturals_apart p.x q.x hv.2 hw.2 (ap (part 2) e) in
    let ys = list_apart entry_value FitsEntry entry_apart p.y q.y hv.3 hw.3 (ap (part 3) e) in
    λ i. Shown (values i) (record { den = dens i; y = ys i; x = xs i })
bound_apart (Shown v p) (WideBound step) hv hw e = absurd (differ first_letter _ _ e (λ q. omega (arith, q)))
bound_apart (WideBound step) (Shown w q) hv hw e = absurd (differ first_letter _ _ e (λ q. omega (arith, q)))
bound_apart (WideBound step) (WideBound other) hv hw e = ap WideBound (natural_apart step other hv hw (ap (part 0) e))

good_apart : AreApart good_value FitsGood
good_apart v w hv hw e =
    let a = bound_apart v.lower w.lower hv.0 hw.0 (ap (part 0) e) in
    let b = bound_apart v.upper w.upper hv.1 hw.1 (ap (part 1) e) in
    λ i. record { lower = a i; upper = b i }

point_apart : AreApart point_value FitsPoint
point_apart v w hv hw e =
    let a = natural_apart v.den w.den hv.0 hw.0 (ap (part 0) e) in
    let b = naturals_apart v.num w.num hv.1 hw.1 (ap (part 1) e) in
    λ i. record { den = a i; num = b i }

demand_apart : AreApart demand_of FitsDemandOf
demand_apart (ps, m, Bounds below strict inner goods) (ps', m', Bounds below' strict' inner' goods') hv hw e =
    let belows = observations_apart below below' hv.0 hw.0 (ap (part 0) e) in
    let spent = natural_apart m m' hv.1 hw.1 (ap (part 1) e) in
    let each = list_apart good_value FitsGood good_apart goods goods' hv.2 hw.2 (ap (part 2) e) in
    let points = point_apart inner inner' hv.3 hw.3 (ap (part 3) e) in
    let priced = prices_apart ps ps' hv.4 hw.4 (ap (part 5) e) in
    let stricts = observations_apart strict strict' hv.5 hw.5 (ap (part 6) e) in
    λ i. (priced i, spent i, Bounds (belows i) (stricts i) (points i) (each i))
demand_apart (ps, m, Bounds below strict inner goods) (ps', m', NoDemand walk) hv hw e = absurd (differ first_letter _ _ e (λ q. omega (arith, q)))
demand_apart (ps, m, NoDemand walk) (ps', m', Bounds below strict inner goods) hv hw e = absurd (differ first_letter _ _ e (λ q. omega (arith, q)))
demand_apart (ps, m, NoDemand walk) (ps', m', NoDemand walk') hv hw e =
    let walks = observations_apart walk walk' hv.0 hw.0 (ap (part 0) e) in
    let spent = natural_apart m m' hv.1 hw.1 (ap (part 1) e) in
    let priced = prices_apart ps ps' hv.2 hw.2 (ap (part 3) e) in
    λ i. (priced i, spent i, NoDemand (walks i))

welfare_apart : AreApart welfare_of FitsWelfareOf
welfare_apart (ps, t, WelfareBounds upper at lower) (ps', t', WelfareBounds upper' at' lower') hv hw e =
    let ats = observation_apart at at' hv.0 hw.0 (ap (part 0) e) in
    let lowers = bound_apart lower lower' hv.1 hw.1 (ap (part 2) e) in
    let ofs = observation_apart t t' hv.2 hw.2 (ap (part 3) e) in
    let priced = prices_apart ps ps' hv.3 hw.3 (ap (part 4) e) in
    let uppers = natural_apart upper upper' hv.4 hw.4 (ap (part 5) e) in
    λ i. (priced i, ofs i, WelfareBounds (uppers i) (ats i) (lowers i))
welfare_apart (ps, t, WelfareBounds upper at lower) (ps', t', NoWelfare walk) hv hw e = absurd (differ first_letter _ _ e (λ q. omega (arith, q)))
welfare_apart (ps, t, NoWelfare walk) (ps', t', WelfareBounds upper at lower) hv hw e = absurd (differ first_letter _ _ e (λ q. omega (arith, q)))
welfare_apart (ps, t, NoWelfare walk) (ps', t', NoWelfare walk') hv hw e =
    let walks = observations_apart walk walk' hv.0 hw.0 (ap (part 0) e) in
    let ofs = observation_apart t t' hv.1 hw.1 (ap (part 2) e) in
    let priced = prices_apart ps ps' hv.2 hw.2 (ap (part 3) e) in
    λ i. (priced i, ofs i, NoWelfare (walks i))

-- ---- random choices

share_apart : AreApart share_value FitsShare
share_apart v w hv hw e =
    let a = observations_apart v.patches w.patches hv.0 hw.0 (ap (place 0) e) in
    let b = natural_apart v.weight w.weight hv.1 hw.1 (ap (place 1) e) in
    λ i. record { patches = a i; weight = b i }

random_apart : AreApart random_of FitsRandomOf
random_apart (t, Mixture den parts) (t', Mixture den' parts') hv hw e =
    let dens = natural_apart den den' hv.0 hw.0 (ap (part 0) e) in
    let shares = list_apart share_value FitsShare share_apart parts parts' hv.1 hw.1 (ap (part 2) e) in
    let totals = natural_apart t t' hv.2 hw.2 (ap (part 3) e) in
    λ i. (totals i, Mixture (dens i) (shares i))
random_apart (t, Mixture den parts) (t', Violated den' parts' weights') hv hw e = absurd (differ members_count _ _ e (λ q. omega (arith, q)))
random_apart (t, Mixture den parts) (t', WideRandom step) hv hw e = absurd (differ first_letter _ _ e (λ q. omega (arith, q)))
random_apart (t, Violated den parts weights) (t', Mixture den' parts') hv hw e = absurd (differ members_count _ _ e (λ q. omega (arith, q)))
random_apart (t, Violated den parts weights) (t', Violated den' parts' weights') hv hw e =
    let dens = natural_apart den den' hv.0 hw.0 (ap (part 0) e) in
    let shares = list_apart share_value FitsShare share_apart parts parts' hv.1 hw.1 (ap (part 2) e) in
    let totals = natural_apart t t' hv.2 hw.2 (ap (part 3) e) in
    let weighs = naturals_apart weights weights' hv.3 hw.3 (ap (part 4) e) in
    λ i. (totals i, Violated (dens i) (shares i) (weighs i))
random_apart (t, Violated den parts weights) (t', WideRandom step) hv hw e = absurd (differ first_letter _ _ e (λ q. omega (arith, q)))
random_apart (t, WideRandom step) (t', Mixture den' parts') hv hw e = absurd (differ first_letter _ _ e (λ q. omega (arith, q)))
random_apart (t, WideRandom step) (t', Violated den' parts' weights') hv hw e = absurd (differ first_letter _ _ e (λ q. omega (arith, q)))
random_apart (t, WideRandom step) (t', WideRandom step') hv hw e =
    let totals = natural_apart t t' hv.0 hw.0 (ap (part 1) e) in
    let steps = natural_apart step step' hv.1 hw.1 (ap (part 2) e) in
    λ i. (totals i, WideRandom (steps i))

-- ---- items and certificates

item_apart : (kind : Kind) (x y : Item) → FitsKind kind x → FitsKind kind y → item_value x ≡ item_value y → x ≡ y
item_apart Table x (GarpItem v) hx hy e = (found_garp _ v (refl, hy.1, λ w hw. garp_apart w v hw hy.1)).2 x hx e
item_apart Table x (AfriatItem v) hx hy e = (found_afriat _ v (refl, hy.1, λ w hw. afriat_apart w v hw hy.1)).2 x hx e
item_apart Table x (EfficiencyItem v) hx hy e = (found_efficiency _ v (refl, hy.1, λ w hw. efficiency_apart w v hw hy.1)).2 x hx e
item_apart Table x (HomotheticItem v) hx hy e = (found_homothetic _ v (refl, hy.1, λ w hw. homothetic_apart w v hw hy.1)).2 x hx e
item_apart Table x (QuasiItem v) hx hy e = (found_quasilinear _ v (refl, hy.1, λ w hw. quasilinear_apart w v hw hy.1)).2 x hx e
item_apart Table x (DemandItem ps m p) hx hy e = (found_demand _ (ps, m, p) (refl, hy.1, λ w hw. demand_apart w (ps, m, p) hw hy.1)).2 x hx e
item_apart Table x (WelfareItem ps t p) hx hy e = (found_welfare _ (ps, t, p) (refl, hy.1, λ w hw. welfare_apart w (ps, t, p) hw hy.1)).2 x hx e
item_apart Table x (RandomItem t p) hx hy e = absurd hy.0
item_apart RandomKind x (GarpItem v) hx hy e = absurd hy.0
item_apart RandomKind x (AfriatItem v) hx hy e = absurd hy.0
item_apart RandomKind x (EfficiencyItem v) hx hy e = absurd hy.0
item_apart RandomKind x (HomotheticItem v) hx hy e = absurd hy.0
item_apart RandomKind x (QuasiItem v) hx hy e = absurd hy.0
item_apart RandomKind x (DemandItem ps m p) hx hy e = absurd hy.0
item_apart RandomKind x (WelfareItem ps t p) hx hy e = absurd hy.0
item_apart RandomKind x (RandomItem t p) hx hy e = (found_random _ (t, p) (refl, hy.1, λ w hw. random_apart w (t, p) hw hy.1)).2 x hx e

module _ (kind : Kind) (c : Certificate) (readable : IsReadable kind c) where
  value_denotes : IsDenotedBy kind (certificate_value c) (Ok c)
  value_denotes =
      let values : List Data = map item_value c.items in
      let is : certificate_value c ≡ top_value kind c.version c.levels values = λ i. top_value (readable.of_kind i) c.version c.levels values in
      let one : (ys : List Item) → All (FitsKind kind) ys → map item_value ys ≡ values → ys ≡ c.items =
      λ ys fit e. same_entries item_value (FitsKind kind) (item_apart kind) ys c.items fit readable.items e in
      let found = certificate_found kind (certificate_value c) c.version c.levels values c.items is readable.levels (all_items kind values c.items (refl, readable.items, one)) in
      let same : ◌≡◌ {A = Certificate} (record { kind = kind; version = c.version; levels = c.levels; items = c.items }) c =
      λ i. record { kind = sym readable.of_kind i; version = c.version; levels = c.levels; items = c.items } in
      subst (λ (x : Certificate). IsDenotedBy kind (certificate_value c) (Ok x)) same found

  pub text_denotes : IsDenoted kind (certificate_text c) (Ok c)
  text_denotes = (certificate_value c, text_spells kind c readable, value_denotes)

  pub text_read_back : IsReadBack kind c
  text_read_back = record {
    denotes = text_denotes;
    nothing_else = λ result denoted. read_back kind c result readable denoted;
  }
