-- Rounds that add rational types, and how they end.
use Rattle.std.proofs.Common.{inl, inr, true, false, Bool, ℤ, pos, ◌+ℤ◌, ◌≤ℤ◌, ◌<ℤ◌, map, take, ◌≡◌, ℕ, zero, suc, ◌+◌, ◌<◌, ◌≤◌, List, [], ◌∷◌, ◌++◌, length, length-append, get_or, slice_index, Vec, Option, None, Some, ap, refl, sym, subst, ◌∙◌, arith, add-one}
use Rattle.std.proofs.lemmas.Bool.{cases_lt, false≢true}
use Rattle.std.proofs.lemmas.List.{map-append, take_all, take_more}
use Rattle.std.proofs.lemmas.List.Sorted.{IsPermutation-insert, IsPermutation-push_more, IsPermutation-refl}
use Rattle.std.specs.List.{insert}
use Rattle.std.specs.List.Sorted.{IsPermutation}
use Rattle.std.proofs.lemmas.Int.{ints}
use Rattle.std.specs.Prelude.{Result, Ok, Err, IfOk, MatchBool, MatchOption}
use Rattle.std.specs.declared.alloc.Global.{Global}
use Rattle.rp_evidence.specs.declared.random.RandomPart.{RandomPart}
use Rattle.rp_evidence.specs.declared.random.RandomPart.TheVariants.{Mixture, Violated, Wide}
use Rattle.rp_evidence.specs.declared.random.Share.{Share}
use Rattle.rp_farkas.specs.declared.entry.Entry.{Entry}
use Rattle.rp_patch.specs.Patches.{PatchList}
use Rattle.rp_farkas.specs.Total.{total}
use Rattle.rp_patch.specs.Kinds.{cells_weight}
use Rattle.rp_patch.specs.Types.{IsRationalType, IsType}
use Rattle.rp_table.specs.Sums.{sum_below}
use Rattle.rp_generated.specs.InnerLight.{AreLighter, HasEndedBelow}
use Rattle.rp_generated.specs.InnerLooks.{WereMadeIn}
use Rattle.rp_generated.specs.InnerRounds.{AddsFirst, EndsWith, FindsBy, HasPrices, StayTypes}
use Rattle.rp_generated.specs.InnerTypes.{AddsLast}
use Rattle.rp_generated.specs.Rounds.{AddsTypes, AreLightTypes, AreParts, AreTypes, AreWeightsReadOff, HasGrown, HasNoEvidence, HasNoLightType, IsFirstProgram, IsMixtureReadOff, IsVerdict, ShowsNoMixture, ShowsNoWeights, SomePriceIsWide, share_of, weight_by}
use Rattle.rp_generated.specs.Steps.{IsWithheldAfter, SomeHasFound, WithheldAt}
use Rattle.rp_generated.specs.declared.looked.Lightest.{Lightest}
use Rattle.rp_generated.proofs.Looks.{withheld_found}
use Rattle.rp_whole_tableau.specs.Programs.{AddsColumn, HasSoMuch, IsLeft, IsSolvedBy, NumberPasses, price_of}
use Rattle.rp_whole_tableau.specs.Pivots.{entry_in}
use Rattle.rp_whole_tableau.specs.declared.grown.Grown.{Grown}

pub ok_so : {A E : Type 0} (r : Result A E) (P Q : A → Type 0) → IfOk r P → ((x : A) → P x → Q x) → IfOk r Q
ok_so (Ok x) P Q is so = so x is
ok_so (Err e) P Q is so = tt

pub ok_both : {A E : Type 0} (r : Result A E) (P Q R : A → Type 0) → IfOk r P → IfOk r Q → ((x : A) → P x → Q x → R x) → IfOk r R
ok_both (Ok x) P Q R is too so = so x is too
ok_both (Err e) P Q R is too so = tt

-- ---- the units

pub units_more : (units : List ℕ) (f : ℕ → ℕ) (i x : ℕ) → length units ≡ i → ((k : ℕ) → k < i → slice_index units k ≡ f k) → x ≡ f i → (k : ℕ) → k < i + 1 → slice_index (units ++ x ∷ []) k ≡ f k
units_more units f i x long so_far is k l = elim (cases_lt k i) [
  | inl below ↦ before units k (omega (arith, below, long)) ∙ so_far k below
  | inr over ↦ (let same : i ≡ k = omega (arith, l, over) in subst (λ (m : ℕ). slice_index (units ++ x ∷ []) m ≡ f k) (long ∙ same) (last units ∙ is ∙ ap f same))
]
  where
    before : (xs : List ℕ) (k : ℕ) → k < length xs → slice_index (xs ++ x ∷ []) k ≡ slice_index xs k
    before [] k l = absurd (omega (arith, l))
    before (y ∷ xs) zero l = refl
    before (y ∷ xs) (suc k) l = before xs k (omega (arith, l))

    last : (xs : List ℕ) → slice_index (xs ++ x ∷ []) (length xs) ≡ x
    last [] = refl
    last (y ∷ xs) = last xs

-- ---- types

types_more : (p : PatchList) (types : List (Vec ℕ Global)) (type : Vec ℕ Global) → AreTypes p types → IsRationalType p type.items → AreTypes p (types ++ type ∷ [])
types_more p [] type are is = (is, tt)
types_more p (first ∷ types) type are is = (are.0, types_more p types type are.1 is)

pub type_taken : (p : PatchList) (numbers : List ℕ) (before after : Lightest) → IsRationalType p numbers → AddsLast numbers before.types.items after.types.items → StayTypes p before after
type_taken p numbers before after is adds are =
    subst (λ (types : List (Vec ℕ Global)). AreTypes p types) (sym adds.2) (types_more p before.types.items adds.0 are (subst (λ (xs : List ℕ). IsRationalType p xs) (sym adds.1) is))

-- ---- light types

abbrev IsLightType : PatchList → Grown → List ℕ → Type 0
IsLightType p g type = IsRationalType p type × (weight_by g type <ℤ pos g.tableau.den)

light_more : (p : PatchList) (g : Grown) (types : List (Vec ℕ Global)) (type : Vec ℕ Global) → AreLightTypes p g types → IsLightType p g type.items → AreLightTypes p g (types ++ type ∷ [])
light_more p g [] type are is = (is, tt)
light_more p g (first ∷ types) type are is = (are.0, light_more p g types type are.1 is)

type_at : (p : PatchList) (g : Grown) (types : List (Vec ℕ Global)) (k : ℕ) (type : Vec ℕ Global) → AreLightTypes p g types → k < length types → type ≡ get_or types k type → IsLightType p g type.items
type_at p g [] k type are l e = absurd (omega (arith, l))
type_at p g (first ∷ types) zero type are l e = subst (λ (v : Vec ℕ Global). IsLightType p g v.items) (sym e) are.0
type_at p g (first ∷ types) (suc k) type are l e = type_at p g types k type are.1 (omega (arith, l)) e

total_same : (n : ℕ) (f : ℕ → ℤ) (h : ℕ → ℕ) → ((j : ℕ) → j < n → f j ≡ pos (h j)) → total n f ≡ pos (sum_below n h)
unfolding total
total_same zero f h same = refl
total_same (suc n) f h same = ap (λ z. z +ℤ f n) (total_same n f h (λ j l. same j (omega (arith, l)))) ∙ ap (λ z. pos (sum_below n h) +ℤ z) (same n (omega arith))

-- by the prices of a program a type weighs what its patches do
weighs_same : (p : PatchList) (g : Grown) (weights type : List ℕ) → HasPrices p g weights → IsType p type → weight_by g type ≡ pos (cells_weight weights type)
weighs_same p g weights type are is = total_same (length type) (λ j. price_of g (slice_index type j)) (λ j. slice_index weights (slice_index type j))
    (λ j l. sym (are (slice_index type j) (is.patch j (let e = is.one_each in omega (arith, e, l)))))

light_by : (p : PatchList) (g : Grown) (weights : List ℕ) (types : List (Vec ℕ Global)) → HasPrices p g weights → AreLighter p weights g.tableau.den types → AreLightTypes p g types
light_by p g weights [] are lighter = tt
light_by p g weights (type ∷ types) are lighter = (
  (lighter.0.0, subst (λ (z : ℤ). z <ℤ pos g.tableau.den) (sym (weighs_same p g weights type.items are lighter.0.0.0)) (less_pos (cells_weight weights type.items) g.tableau.den lighter.0.1)),
  light_by p g weights types are lighter.1,
)
  where
    less_pos : (a b : ℕ) → a < b → pos a <ℤ pos b
    less_pos a b l = omega (arith, ints, l)

pub priced_more : (g : Grown) (prices : List ℕ) (i price : ℕ) → length prices ≡ i → ((k : ℕ) → k < i → pos (slice_index prices k) ≡ price_of g k) → pos price ≡ price_of g i
    → (length (prices ++ price ∷ []) ≡ i + 1) × ((k : ℕ) → k < i + 1 → pos (slice_index (prices ++ price ∷ []) k) ≡ price_of g k)
priced_more g prices i price many so_far is = (
  length-append prices (price ∷ []) ∙ (let e : length prices + 1 ≡ i + 1 = omega (arith, many) in e),
  λ k l. elim (cases_lt k i) [
    | inl below ↦ ap pos (before prices k (omega (arith, below, many))) ∙ so_far k below
    | inr over ↦ (let same : i ≡ k = omega (arith, l, over) in subst (λ (m : ℕ). pos (slice_index (prices ++ price ∷ []) m) ≡ price_of g m) same
        (ap (λ m. pos (slice_index (prices ++ price ∷ []) m)) (sym many) ∙ ap pos (last prices) ∙ is))
  ],
)
  where
    before : (xs : List ℕ) (k : ℕ) → k < length xs → slice_index (xs ++ price ∷ []) k ≡ slice_index xs k
    before [] k l = absurd (omega (arith, l))
    before (y ∷ xs) zero l = refl
    before (y ∷ xs) (suc k) l = before xs k (omega (arith, l))

    last : (xs : List ℕ) → slice_index (xs ++ price ∷ []) (length xs) ≡ price
    last [] = refl
    last (y ∷ xs) = last xs

-- what a search by the prices of a program found
pub found_light : (p : PatchList) (g : Grown) (weights : List ℕ) (below : ℕ) (light : Lightest) → HasPrices p g weights → below ≡ g.tableau.den → HasEndedBelow p weights below light → FindsBy p g light
found_light p g weights below light are same ended = record {
  light = light_by p g weights light.types.items are (subst (λ (n : ℕ). AreLighter p weights n light.types.items) same ended.light);
  none = λ lacking. elim (ended.settled lacking) [
    | inl spent ↦ inl spent
    | inr least ↦ inr (λ type rational. subst (λ (z : ℤ). pos g.tableau.den ≤ℤ z) (sym (weighs_same p g weights type are rational.0))
        (most_pos g.tableau.den (cells_weight weights type) (let l = least type rational tt in omega (arith, l, same))))
  ];
}
  where
    most_pos : (a b : ℕ) → a ≤ b → pos a ≤ℤ pos b
    most_pos a b l = omega (arith, ints, l)

pub only_types : (p : PatchList) (g : Grown) (types : List (Vec ℕ Global)) → AreLightTypes p g types → AreTypes p types
only_types p g [] are = tt
only_types p g (type ∷ types) are = (are.0.0, only_types p g types are.1)

-- by the prices of the first program every type is light
nothing_weighs : (n : ℕ) (f : ℕ → ℤ) → ((j : ℕ) → f j ≡ pos 0) → total n f ≡ pos 0
unfolding total
nothing_weighs zero f none = refl
nothing_weighs (suc n) f none = ap (λ z. z +ℤ f n) (nothing_weighs n f none) ∙ ap (λ z. pos 0 +ℤ z) (none n)

first_light : (p : PatchList) (g : Grown) (type : List ℕ) → IsFirstProgram p g → weight_by g type <ℤ pos g.tableau.den
first_light p g type is =
    let first = is.first in
    let objective : (j : ℕ) → price_of g j ≡ pos 0 = λ j. ap (λ n. entry_in g.tableau.rows.items n (j + 1)) first.many ∙ first.objective (j + 1) in
    let none : weight_by g type ≡ pos 0 = nothing_weighs (length type) (λ j. price_of g (slice_index type j)) (λ j. objective (slice_index type j)) in
    subst (λ (z : ℤ). z <ℤ pos g.tableau.den) (sym none) (subst (λ (d : ℕ). pos 0 <ℤ pos d) (sym first.den_is) some)
  where
    some : pos 0 <ℤ pos 1
    some = omega (arith, ints)

pub all_first_light : (p : PatchList) (g : Grown) (types : List (Vec ℕ Global)) → IsFirstProgram p g → AreTypes p types → AreLightTypes p g types
all_first_light p g [] is are = tt
all_first_light p g (type ∷ types) is are = ((are.0, first_light p g type.items is), all_first_light p g types is are.1)

append_twice : (xs ys : List (Vec ℕ Global)) (y : Vec ℕ Global) → (xs ++ ys) ++ y ∷ [] ≡ xs ++ (ys ++ y ∷ [])
append_twice [] ys y = refl
append_twice (x ∷ xs) ys y = ap (λ (them : List (Vec ℕ Global)). x ∷ them) (append_twice xs ys y)

no_more : (xs : List (Vec ℕ Global)) → xs ≡ xs ++ []
no_more [] = refl
no_more (x ∷ xs) = ap (λ (them : List (Vec ℕ Global)). x ∷ them) (no_more xs)

pub adds_none : (p : PatchList) (by g : Grown) → AddsFirst p by 0 g g
adds_none p by g = record { same = refl; types = []; many = refl; light = tt; columns = no_more g.columns.items }

pub adds_more : (p : PatchList) (by : Grown) (types : List (Vec ℕ Global)) (k : ℕ) (g mid next : Grown) (type : Vec ℕ Global) (numbers : List ℕ) → k < length types → type ≡ get_or types k type → numbers ≡ type.items
    → next.tableau ≡ mid.tableau → AddsColumn numbers mid next → AreLightTypes p by types → AddsFirst p by k g mid → AddsFirst p by (k + 1) g next
adds_more p by types k g mid next type numbers inside read same_numbers same adds are so_far = record {
  same = same ∙ so_far.same;
  types = so_far.types ++ adds.0 ∷ [];
  many = length-append so_far.types (adds.0 ∷ []) ∙ (let many = so_far.many in omega (arith, many));
  light = light_more p by so_far.types adds.0 so_far.light (subst (λ (xs : List ℕ). IsLightType p by xs) (sym (adds.1 ∙ same_numbers)) (type_at p by types k type are inside read));
  columns = adds.2 ∙ ap (λ (them : List (Vec ℕ Global)). them ++ adds.0 ∷ []) so_far.columns ∙ append_twice g.columns.items so_far.types adds.0;
}

adds_types : (p : PatchList) (n : ℕ) (g next : Grown) → 0 < n → AddsFirst p g n g next → AddsTypes p g next
adds_types p n g next some adds = record {
  same = adds.same;
  types = adds.types;
  some = (let many = adds.many in omega (arith, some, many));
  light = adds.light;
  columns = adds.columns;
}

pub first_grown : (p : PatchList) (n : ℕ) (first g : Grown) → IsFirstProgram p first → 0 < n → AddsFirst p first n first g → HasGrown p 0 g
first_grown p n first g is some adds = (first, is, adds_types p n first g some adds)

solved : (B : Type 0) (much : ℕ) (g next : Grown) (ends : Bool) → ends ≡ true → MatchBool ends (IsSolvedBy much g next) B → IsSolvedBy much g next
solved B much g next true e is = is
solved B much g next false e is = absurd (false≢true e)

pub next_grown : (B : Type 0) (p : PatchList) (round n : ℕ) (before solved_one g : Grown) (ends : Bool) → HasGrown p round before → ends ≡ true → MatchBool ends (IsSolvedBy p.total before solved_one) B → 0 < n → AddsFirst p solved_one n solved_one g → HasGrown p (round + 1) g
next_grown B p round n before solved_one g ends grown e is some adds =
    let one_more : HasGrown p (suc round) g = (before, solved_one, grown, solved B p.total before solved_one ends e is, adds_types p n solved_one g some adds) in
    rw add-one one_more

-- ---- parts

pub parts_none : (g : Grown) → AreParts g [] []
parts_none g = IsPermutation-refl []

-- a column's type is put among the parts
pub parts_more : (g : Grown) (entries : List Entry) (k place : ℕ) (d : Entry) (share : Share) (parts : List Share) → k < length entries → share ≡ share_of g (get_or entries k d) → AreParts g (take k entries) parts → AreParts g (take (k + 1) entries) (insert parts place share)
parts_more g entries k place d share parts inside is so_far =
    subst (λ (shares : List Share). IsPermutation shares (insert parts place share))
    (sym (ap (map (share_of g)) (take_more entries k d inside) ∙ map-append (share_of g) (take k entries) (get_or entries k d ∷ []) ∙ ap (λ x. map (share_of g) (take k entries) ++ x ∷ []) (sym is)))
    (IsPermutation-push_more (map (share_of g) (take k entries)) parts (insert parts place share) share so_far (IsPermutation-insert parts place share))

pub parts_all : (g : Grown) (entries : List Entry) (k : ℕ) (parts : List Share) → k ≡ length entries → AreParts g (take k entries) parts → AreParts g entries parts
parts_all g entries k parts all are = subst (λ (them : List Entry). AreParts g them parts) (take_all k entries (omega (arith, all))) are

-- ---- the ends

mixture_is : (g : Grown) (part : RandomPart) → IsMixtureReadOff g part → IsVerdict part
mixture_is g (Mixture den parts) is = tt
mixture_is g (Violated den parts weights) is = absurd is
mixture_is g (Wide step) is = absurd is

weights_are : (g : Grown) (part : RandomPart) → AreWeightsReadOff g part → IsVerdict part
weights_are g (Mixture den parts) is = absurd is
weights_are g (Violated den parts weights) is = tt
weights_are g (Wide step) is = absurd is

pub mixture_ends : (p : PatchList) (most steps : ℕ) (g : Grown) (part : Option RandomPart) → MatchOption part (NumberPasses g) (IsMixtureReadOff g) → (ShowsNoMixture p most steps g → IsWithheldAfter p most steps) → EndsWith p most part steps
mixture_ends p most steps g None passes so = so (inl passes)
mixture_ends p most steps g (Some part) is so = (mixture_is g part is, λ fails. so (inr (part, is, fails)))

pub weights_end : (p : PatchList) (most steps : ℕ) (g : Grown) (part : Option RandomPart) → MatchOption part (NumberPasses g) (AreWeightsReadOff g) → (ShowsNoWeights p most steps g → IsWithheldAfter p most steps) → EndsWith p most part steps
weights_end p most steps g None passes so = so (inl passes)
weights_end p most steps g (Some part) is so = (weights_are g part is, λ fails. so (inr (part, is, fails)))

module _ (p : PatchList) (most rounds made round : ℕ) (g : Grown) (few_searches : rounds ≤ 65537) (is : WereMadeIn p most rounds made (SomeHasFound p)) (grown : HasGrown p round g) (few : round < 65536) where
  pub ended_by_rounds : round ≡ 65535 → IsWithheldAfter p most made
  ended_by_rounds all = withheld_found p most rounds made few_searches is (record { round = round; program = g; grown = grown; few = few; why = inl all })

  pub ended_by_pivots : (A : Type 0) (ends : Bool) → ends ≡ false → MatchBool ends A (IsLeft g) → IsWithheldAfter p most made
  ended_by_pivots A true e left = absurd (false≢true (sym e))
  ended_by_pivots A false e left = withheld_found p most rounds made few_searches is (record { round = round; program = g; grown = grown; few = few; why = inr (inl left) })

  module _ (B : Type 0) (next : Grown) (ends_well : Bool) (well : ends_well ≡ true) (solves : MatchBool ends_well (IsSolvedBy p.total g next) B) where
    ended_by : HasNoEvidence p most made next → IsWithheldAfter p most made
    ended_by nothing = withheld_found p most rounds made few_searches is (record { round = round; program = g; grown = grown; few = few; why = inr (inr (next, solved B p.total g next ends_well well solves, nothing)) })

    pub ended_by_price : SomePriceIsWide p next → IsWithheldAfter p most made
    ended_by_price wide = ended_by (inr (inl wide))

    pub ended_by_mixture : HasSoMuch next p.total → ShowsNoMixture p most made next → IsWithheldAfter p most made
    ended_by_mixture whole nothing = ended_by (inl (whole, nothing))

    pub ended_by_weights : HasNoLightType p next → ShowsNoWeights p most made next → IsWithheldAfter p most made
    ended_by_weights none nothing = ended_by (inr (inr (none, nothing)))

-- a verdict is not withheld
pub verdict_given : (part : RandomPart) (holds : ℕ → Type 0) → IsVerdict part → WithheldAt part holds
verdict_given (Mixture den parts) holds is = tt
verdict_given (Violated den parts weights) holds is = tt
verdict_given (Wide step) holds is = absurd is

pub adds_seen : (p : PatchList) (types seen : List (Vec ℕ Global)) (g next : Grown) → seen ≡ types → ((q : PatchList) (by : Grown) → AreLightTypes q by seen → AddsFirst q by (length seen) g next) → AreLightTypes p g types → AddsFirst p g (length types) g next
adds_seen p types seen g next same adds are =
    subst (λ (them : List (Vec ℕ Global)). AddsFirst p g (length them) g next) same (adds p g (subst (λ (them : List (Vec ℕ Global)). AreLightTypes p g them) (sym same) are))

-- the types of one vector are those of another that is the same
pub same_types : (p : PatchList) (one other : Vec (Vec ℕ Global) Global) → one ≡ other → AreTypes p other.items → AreTypes p one.items
same_types p one other same are = subst (λ (types : Vec (Vec ℕ Global) Global). AreTypes p types.items) (sym same) are
