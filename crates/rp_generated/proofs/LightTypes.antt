-- What a search for light types leaves out: patches that make a violation with one of its own, and types that cannot get
-- lighter than the lightest so far.
use Rattle.std.proofs.Common.{inl, inr, true, ltb, ◌⊎◌, ◌≡◌, ◌≢◌, ℕ, zero, suc, pos, ◌≤ℤ◌, ◌<ℤ◌, ◌+◌, ◌*◌, ◌/◌, ◌%◌, ◌^◌, ◌<◌, ◌≤◌, List, [], ◌∷◌, ◌++◌, replicate, length, length-append, slice_index, slice_index_or, slice_set, get_or-set_same, get_or-set_other, bit_and, Some, None, ap, refl, sym, subst, ◌∙◌, arith, min}
use Rattle.std.specs.Int.{bit_at, bit_not, w64}
use Rattle.std.specs.List.{insert}
use Rattle.std.specs.Prelude.{Vec}
use Rattle.std.specs.declared.alloc.Global.{Global}
use Rattle.std.proofs.lemmas.Bool.{cases_eq, cases_lt, false≢true, le-ltb}
use Rattle.std.proofs.lemmas.Nat.Bits.{bit_at_and, bit_at-pow_same, bit_at_clear_other, bit_at_ones, bit_at-zero}
use Rattle.rp_evidence.proofs.BitLemmas.{alone}
use Rattle.rp_check_mixture.proofs.ToCome.{weight_append}
use Rattle.rp_table.specs.Sums.{sum_below}
use Rattle.rp_table.proofs.SumsBelow.{sum_below-same}
use Rattle.rp_patch.specs.Kinds.{cells_weight}
use Rattle.rp_patch.specs.PartialTypes.{Begins, taken_in}
use Rattle.rp_patch.specs.Patches.{PatchList, budget_at, sign_at}
use Rattle.rp_patch.specs.Types.{IsRationalType, IsWeakBy}
use Rattle.rp_patch.proofs.SearchLaws.{begins_at, begins_length, begins_whole}
use Rattle.rp_generated.specs.InnerLight.{AreLighter, AreListedFrom, AreOrdered, AreSets, Clash, Fits, HasAllBut, HasBit, HasEndedBelow, HasSought, IsAmong, IsIn, IsLeastFrom, IsLeastOf, IsLeastTo, IsPlaceOf, IsSettled, IsSettledBelow, IsWeighed, NoneIsLighter, Rising, first_weigh}
use Rattle.rp_generated.specs.InnerTypes.{AddsLast}
use Rattle.rp_generated.specs.Steps.{AreSpent}
use Rattle.rp_generated.specs.declared.compatible.PatchSet.{PatchSet}
use Rattle.rp_generated.specs.declared.lightest.Begun.{Begun}
use Rattle.rp_generated.specs.declared.looked.Lightest.{Lightest}
use Rattle.rp_generated.proofs.Looks.{begins_longer, each_at, each_insert, each_so, patch_added}

below_length : (b n : ℕ) → true ≡ ltb b n → b < n
below_length b n e = elim (cases_lt b n) [ inl l ↦ l | inr l ↦ absurd (false≢true (sym (e ∙ le-ltb b n l))) ]

-- ---- bits

-- a bit that is not set
pub no_bit : (word k : ℕ) → k < 64 → bit_and word (1 * 2 ^ k % 18446744073709551616) ≡ 0 → ¬ HasBit word k
no_bit word k l none has =
    let other : bit_at (1 * 2 ^ k % 18446744073709551616) k ≡ 1 = ap (λ w. bit_at w k) (alone k l) ∙ bit_at-pow_same k in
    let is : min (bit_at word k) (bit_at (1 * 2 ^ k % 18446744073709551616) k) ≡ 0 = sym (bit_at_and word (1 * 2 ^ k % 18446744073709551616) k) ∙ ap (λ w. bit_at w k) none ∙ bit_at-zero k in
    absurd (omega (arith, is, has, other))

pub bit_stays : (word k : ℕ) → k < 64 → (b : ℕ) → b < 64 → b ≢ k → HasBit word b → HasBit (bit_and word (bit_not w64 (1 * 2 ^ k % 18446744073709551616))) b
bit_stays word k l b inside other has = bit_at_clear_other w64 word k l b inside other ∙ has

pub bit_in_both : (word other b : ℕ) → HasBit word b → HasBit other b → HasBit (bit_and word other) b
bit_in_both word other b has too = bit_at_and word other b ∙ (let is : min (bit_at word b) (bit_at other b) ≡ 1 = omega (arith, has, too) in is)

-- ---- sets of patches

word_at : (words : List ℕ) (k word : ℕ) → k < length words → word ≡ slice_index_or words k word → word ≡ slice_index words k
word_at [] k word l e = absurd (omega (arith, l))
word_at (x ∷ words) zero word l e = e
word_at (x ∷ words) (suc k) word l e = word_at words k word (omega (arith, l)) e

pub not_in : (words : List ℕ) (i word : ℕ) → true ≡ ltb (i / 64) (length words) → word ≡ slice_index_or words (i / 64) word → ¬ HasBit word (i % 64) → ¬ IsIn words i
not_in words i word inside is none has = none (ap (λ w. bit_at w (i % 64)) (word_at words (i / 64) word (below_length (i / 64) (length words) inside) is) ∙ has)

no_word : (words : List ℕ) (k : ℕ) → length words ≤ k → slice_index words k ≡ 0
no_word [] k l = refl
no_word (x ∷ words) zero l = absurd (omega (arith, l))
no_word (x ∷ words) (suc k) l = no_word words k (omega (arith, l))

pub not_past : (words : List ℕ) (i : ℕ) → length words ≤ i / 64 → ¬ IsIn words i
not_past words i past has = absurd (let none : bit_at (slice_index words (i / 64)) (i % 64) ≡ 0 = ap (λ w. bit_at w (i % 64)) (no_word words (i / 64) past) ∙ bit_at-zero (i % 64) in omega (arith, none, has))

one_of_all : (n k x : ℕ) → k < n → slice_index (replicate n x) k ≡ x
one_of_all zero k x l = absurd (omega (arith, l))
one_of_all (suc n) zero x l = refl
one_of_all (suc n) (suc k) x l = one_of_all n k x (omega (arith, l))

pub in_all : (i : ℕ) → i < 256 → IsIn (replicate 4 18446744073709551615) i
in_all i l = ap (λ w. bit_at w (i % 64)) (one_of_all 4 (i / 64) 18446744073709551615 (omega (arith, l))) ∙ bit_at_ones 64 (i % 64) (omega arith)

-- a word that keeps all bits but one
pub stays_in : (words : List ℕ) (i j word : ℕ) → i / 64 < length words → ((b : ℕ) → b < 64 → b ≢ i % 64 → HasBit (slice_index words (i / 64)) b → HasBit word b) → j ≢ i → IsIn words j → IsIn (slice_set words (i / 64) word) j
stays_in words i j word inside keeps other has = elim (cases_eq (j / 64) (i / 64)) [
  | inl same ↦
      ap (λ k. bit_at (slice_index (slice_set words (i / 64) word) k) (j % 64)) same
      ∙ ap (λ w. bit_at w (j % 64)) (get_or-set_same words (i / 64) word 0 inside)
      ∙ keeps (j % 64) (omega arith) (λ e. other (omega (arith, e, same))) (ap (λ k. bit_at (slice_index words k) (j % 64)) (sym same) ∙ has)
  | inr elsewhere ↦ ap (λ w. bit_at w (j % 64)) (get_or-set_other words (i / 64) (j / 64) word 0 elsewhere) ∙ has
]

-- the words so far and those of another set
pub meets_on : (words : List ℕ) (k word seen other_word : ℕ) (other : List ℕ) (j : ℕ) → seen ≡ slice_index words k → other_word ≡ slice_index other k
    → ((b : ℕ) → HasBit seen b → HasBit other_word b → HasBit word b) → IsIn words j → IsIn other j → IsIn (slice_set words k word) j
meets_on words k word seen other_word other j is other_is both has too = elim (cases_eq (j / 64) k) [
  | inl same ↦ elim (cases_lt k (length words)) [
    | inl inside ↦
        ap (λ m. bit_at (slice_index (slice_set words k word) m) (j % 64)) same
        ∙ ap (λ w. bit_at w (j % 64)) (get_or-set_same words k word 0 inside)
        ∙ both (j % 64) (ap (λ w. bit_at w (j % 64)) (is ∙ ap (slice_index words) (sym same)) ∙ has) (ap (λ w. bit_at w (j % 64)) (other_is ∙ ap (slice_index other) (sym same)) ∙ too)
    | inr past ↦ absurd (not_past words j (omega (arith, past, same)) has)
  ]
  | inr elsewhere ↦ ap (λ w. bit_at w (j % 64)) (get_or-set_other words k (j / 64) word 0 elsewhere) ∙ has
]

-- ---- patches that go together

-- the patches before the next were looked at
pub all_but_more : (p : PatchList) (i n : ℕ) (words next : List ℕ) → Clash p i n → ((j : ℕ) → j ≢ n → IsIn words j → IsIn next j) → ((j : ℕ) → j < 256 → IsIn words j ⊎ ((j < n) × Clash p i j)) → (j : ℕ) → j < 256 → IsIn next j ⊎ ((j < n + 1) × Clash p i j)
all_but_more p i n words next clash keeps so_far j l = elim (cases_eq j n) [
  | inl same ↦ inr (omega (arith, same), subst (λ (m : ℕ). Clash p i m) (sym same) clash)
  | inr other ↦ elim (so_far j l) [
    | inl is ↦ inl (keeps j other is)
    | inr it ↦ (let before = it.0 in inr (omega (arith, before), it.1))
  ]
]

pub all_but_same : (p : PatchList) (i n : ℕ) (words : List ℕ) → ((j : ℕ) → j < 256 → IsIn words j ⊎ ((j < n) × Clash p i j)) → (j : ℕ) → j < 256 → IsIn words j ⊎ ((j < n + 1) × Clash p i j)
all_but_same p i n words so_far j l = elim (so_far j l) [
  | inl is ↦ inl is
  | inr it ↦ (let before = it.0 in inr (omega (arith, before), it.1))
]

pub set_added : (p : PatchList) (i : ℕ) (sets : List PatchSet) (set : PatchSet) → AreSets p i sets → HasAllBut p (i + length sets) set.words → AreSets p i (sets ++ set ∷ [])
set_added p i [] set are is = (subst (λ (k : ℕ). HasAllBut p k set.words) (omega arith) is, tt)
set_added p i (first ∷ sets) set are is = (are.0, set_added p (suc i) sets set are.1 (subst (λ (k : ℕ). HasAllBut p k set.words) (omega arith) is))

set_at : (p : PatchList) (i k : ℕ) (sets : List PatchSet) (d : PatchSet) → AreSets p i sets → k < length sets → HasAllBut p (i + k) (slice_index_or sets k d).words
set_at p i k [] d are l = absurd (omega (arith, l))
set_at p i zero (set ∷ sets) d are l = subst (λ (m : ℕ). HasAllBut p m set.words) (omega arith) are.0
set_at p i (suc k) (set ∷ sets) d are l = subst (λ (m : ℕ). HasAllBut p m (slice_index_or sets k d).words) (omega arith) (set_at p (suc i) k sets d are.1 (omega (arith, l)))

pub sets_many : (sets : List PatchSet) (set : PatchSet) (i : ℕ) → length sets ≡ i → length (sets ++ set ∷ []) ≡ i + 1
sets_many sets set i e = let l = length-append sets (set ∷ []) in omega (arith, e, l)

-- what is read from the sets
pub set_read : (p : PatchList) (i : ℕ) (sets seen : List PatchSet) (set : PatchSet) → seen ≡ sets → AreSets p 0 sets → true ≡ ltb i (length seen) → set ≡ slice_index_or seen i set → HasAllBut p i set.words
set_read p i sets seen set same are inside read =
    subst (λ (k : ℕ). HasAllBut p k set.words) (omega arith)
    (subst (λ (s : PatchSet). HasAllBut p (0 + i) s.words) (sym read)
    (set_at p 0 i seen set (subst (λ (them : List PatchSet). AreSets p 0 them) (sym same) are) (below_length i (length seen) inside)))

pub met_or_clash : (p : PatchList) (i j : ℕ) (own words met : List ℕ) → HasAllBut p i own → j < length p.patches → IsIn words j → (IsIn own j → IsIn words j → IsIn met j) → IsIn met j ⊎ Clash p i j
met_or_clash p i j own words met all inside is so = elim (all j inside) [ inl too ↦ inl (so too is) | inr clash ↦ inr clash ]

-- ---- no rational type has two patches that make a violation

no_clash : (p : PatchList) (type : List ℕ) (k d : ℕ) → IsRationalType p type → k < p.budgets → d < p.budgets → ¬ Clash p (slice_index type k) (slice_index type d)
no_clash p type k d rational k_in d_in clash =
    let to_k : budget_at p (slice_index type k) ≡ k = rational.0.on_its_budget k k_in in
    let to_d : budget_at p (slice_index type d) ≡ d = rational.0.on_its_budget d d_in in
    let there : IsWeakBy p type d k = subst (λ (b : ℕ). sign_at p (slice_index type k) b ≤ℤ pos 0) to_d clash.0 in
    let back : IsWeakBy p type k d = subst (λ (b : ℕ). sign_at p (slice_index type d) b ≤ℤ pos 0) to_k clash.1 in
    rational.1 (k ∷ d ∷ k ∷ []) (
      (k, (refl, (k_in, back, (d_in, there, (k_in, refl)))), omega arith),
      elim clash.2 [
        | inl strict ↦ inr (inl (subst (λ (b : ℕ). sign_at p (slice_index type k) b <ℤ pos 0) to_d strict))
        | inr strict ↦ inl (subst (λ (b : ℕ). sign_at p (slice_index type d) b <ℤ pos 0) to_k strict)
      ],
    )

-- the patches of a rational type that begins so are in the set
pub are_in : (p : PatchList) (front words type : List ℕ) → Fits p front words → IsRationalType p type → Begins type front → (d : ℕ) → d < p.budgets → IsIn words (slice_index type d)
are_in p front words type fits rational begins d l = elim (fits (slice_index type d) (rational.0.patch d l)) [
  | inl is ↦ is
  | inr it ↦ (let long = begins_length type front begins in
      absurd (no_clash p type it.0 d rational (omega (arith, long, it.1, rational.0.one_each)) l
      (subst (λ (i : ℕ). Clash p i (slice_index type d)) (sym (begins_at type front begins it.0 it.1)) it.2)))
]

earlier_same : (front : List ℕ) (i k : ℕ) → k < length front → slice_index (front ++ i ∷ []) k ≡ slice_index front k
earlier_same [] i k l = absurd (omega (arith, l))
earlier_same (x ∷ front) i zero l = refl
earlier_same (x ∷ front) i (suc k) l = earlier_same front i k (omega (arith, l))

last_same : (front : List ℕ) (i : ℕ) → slice_index (front ++ i ∷ []) (length front) ≡ i
last_same [] i = refl
last_same (x ∷ front) i = last_same front i

longer_by_one : (front : List ℕ) (i : ℕ) → length (front ++ i ∷ []) ≡ length front + 1
longer_by_one front i = length-append front (i ∷ [])

-- with a patch more
pub fits_more : (p : PatchList) (front words next : List ℕ) (i : ℕ) → Fits p front words → ((j : ℕ) → j < length p.patches → IsIn words j → IsIn next j ⊎ Clash p i j) → Fits p (front ++ i ∷ []) next
fits_more p front words next i fits so j l = elim (fits j l) [
  | inl is ↦ elim (so j l is) [
    | inl it ↦ inl it
    | inr clash ↦ inr (length front, (let e = longer_by_one front i in omega (arith, e)), subst (λ (m : ℕ). Clash p m j) (sym (last_same front i)) clash)
  ]
  | inr it ↦ inr (it.0, (let e = longer_by_one front i in let before = it.1 in omega (arith, e, before)), subst (λ (m : ℕ). Clash p m j) (sym (earlier_same front i it.0 it.1)) it.2)
]

-- ---- lists in the order of prices

among_insert : (list : List ℕ) (i j k : ℕ) → IsAmong list j → IsAmong (insert list k i) j
among_insert [] i j k is = absurd is
among_insert (x ∷ list) i j zero is = inr is
among_insert (x ∷ list) i j (suc k) is = elim is [ inl here ↦ inl here | inr later ↦ inr (among_insert list i j k later) ]

among_inserted : (list : List ℕ) (i k : ℕ) → IsAmong (insert list k i) i
among_inserted list i zero = inl refl
among_inserted [] i (suc k) = inl refl
among_inserted (x ∷ list) i (suc k) = inr (among_inserted list i k)

rising_insert : (weights list : List ℕ) (i k : ℕ) → Rising weights list → ((m : ℕ) → m < k → m < length list → slice_index weights (slice_index list m) ≤ slice_index weights i) → (k < length list → slice_index weights i ≤ slice_index weights (slice_index list k)) → Rising weights (insert list k i)
rising_insert weights [] i zero rising before after = (tt, tt)
rising_insert weights [] i (suc k) rising before after = (tt, tt)
rising_insert weights (x ∷ list) i zero rising before after =
    let less = after (omega arith) in
    ((less, each_so (λ y. slice_index weights x ≤ slice_index weights y) (λ y. slice_index weights i ≤ slice_index weights y) (λ y l. omega (arith, less, l)) list rising.0), rising)
rising_insert weights (x ∷ list) i (suc k) rising before after = (
  each_insert (λ y. slice_index weights x ≤ slice_index weights y) k i list rising.0 (before 0 (omega arith) (omega arith)),
  rising_insert weights list i k rising.1 (λ m l inside. before (suc m) (omega (arith, l)) (omega (arith, inside))) (λ l. after (omega (arith, l))),
)

pub ordered_none : (p : PatchList) (weights : List ℕ) (j : ℕ) → AreOrdered p weights j 0 []
ordered_none p weights j = record { on = record { inside = tt; on_budget = tt; apart = tt }; below = tt; rising = tt; all = λ i l. absurd (omega (arith, l)) }

pub ordered_more : (p : PatchList) (weights : List ℕ) (j n place : ℕ) (list : List ℕ) → AreOrdered p weights j n list → IsPlaceOf weights list n place → n < length p.patches → budget_at p n ≡ j → AreOrdered p weights j (n + 1) (insert list place n)
ordered_more p weights j n place list so_far is inside on = record {
  on = patch_added p j n place list so_far.on so_far.below inside on;
  below = each_insert (λ x. x < n + 1) place n list (each_so (λ x. x < n) (λ x. x < n + 1) (λ x l. omega (arith, l)) list so_far.below) (omega arith);
  rising = rising_insert weights list n place so_far.rising (λ m l within. is.before m l) is.after;
  all = λ i l its. elim (cases_lt i n) [
    | inl before ↦ among_insert list n i place (so_far.all i before its)
    | inr after ↦ (let same : n ≡ i = omega (arith, l, after) in subst (λ (m : ℕ). IsAmong (insert list place n) m) same (among_inserted list n place))
  ];
}

pub ordered_same : (p : PatchList) (weights : List ℕ) (j n : ℕ) (list : List ℕ) → AreOrdered p weights j n list → budget_at p n ≢ j → AreOrdered p weights j (n + 1) list
ordered_same p weights j n list so_far other = record {
  on = so_far.on;
  below = each_so (λ x. x < n) (λ x. x < n + 1) (λ x l. omega (arith, l)) list so_far.below;
  rising = so_far.rising;
  all = λ i l its. elim (cases_lt i n) [
    | inl before ↦ so_far.all i before its
    | inr after ↦ (let same : n ≡ i = omega (arith, l, after) in absurd (other (ap (budget_at p) same ∙ its)))
  ];
}

pub list_added : (p : PatchList) (weights : List ℕ) (j : ℕ) (lists : List (Vec ℕ Global)) (list : Vec ℕ Global) → AreListedFrom p weights j lists → AreOrdered p weights (j + length lists) (length p.patches) list.items → AreListedFrom p weights j (lists ++ list ∷ [])
list_added p weights j [] list are on = (subst (λ (k : ℕ). AreOrdered p weights k (length p.patches) list.items) (omega arith) on, tt)
list_added p weights j (first ∷ lists) list are on = (are.0, list_added p weights (suc j) lists list are.1 (subst (λ (k : ℕ). AreOrdered p weights k (length p.patches) list.items) (omega arith) on))

pub next_listed : (p : PatchList) (weights : List ℕ) (n : ℕ) (lists : List (Vec ℕ Global)) (list : Vec ℕ Global) → length lists ≡ n → AreListedFrom p weights 0 lists → AreOrdered p weights n (length p.patches) list.items → AreListedFrom p weights 0 (lists ++ list ∷ [])
next_listed p weights n lists list many are on = list_added p weights 0 lists list are (subst (λ (k : ℕ). AreOrdered p weights k (length p.patches) list.items) (omega (arith, many)) on)

pub list_many : (lists : List (Vec ℕ Global)) (list : Vec ℕ Global) (j : ℕ) → length lists ≡ j → length (lists ++ list ∷ []) ≡ j + 1
list_many lists list j e = let l = length-append lists (list ∷ []) in omega (arith, e, l)

list_at : (p : PatchList) (weights : List ℕ) (j b : ℕ) (lists : List (Vec ℕ Global)) (d : Vec ℕ Global) → AreListedFrom p weights j lists → b < length lists → AreOrdered p weights (j + b) (length p.patches) (slice_index_or lists b d).items
list_at p weights j b [] d are l = absurd (omega (arith, l))
list_at p weights j zero (list ∷ lists) d are l = subst (λ (k : ℕ). AreOrdered p weights k (length p.patches) list.items) (omega arith) are.0
list_at p weights j (suc b) (list ∷ lists) d are l = subst (λ (k : ℕ). AreOrdered p weights k (length p.patches) (slice_index_or lists b d).items) (omega arith) (list_at p weights (suc j) b lists d are.1 (omega (arith, l)))

-- what is read from the lists
pub list_read : (p : PatchList) (weights : List ℕ) (b : ℕ) (lists seen : List (Vec ℕ Global)) (list : Vec ℕ Global) → seen ≡ lists → AreListedFrom p weights 0 lists → true ≡ ltb b (length seen) → list ≡ slice_index_or seen b list → AreOrdered p weights b (length p.patches) list.items
list_read p weights b lists seen list same are inside read =
    subst (λ (k : ℕ). AreOrdered p weights k (length p.patches) list.items) (omega arith)
    (subst (λ (l : Vec ℕ Global). AreOrdered p weights (0 + b) (length p.patches) l.items) (sym read)
    (list_at p weights 0 b seen list (subst (λ (them : List (Vec ℕ Global)). AreListedFrom p weights 0 them) (sym same) are) (below_length b (length seen) inside)))

-- ---- the lightest patches

among_at : (list : List ℕ) (i : ℕ) → IsAmong list i → (m : ℕ) × (m < length list) × (slice_index list m ≡ i)
among_at [] i is = absurd is
among_at (x ∷ list) i is = elim is [
  | inl here ↦ (0, omega arith, here)
  | inr later ↦ (let at = among_at list i later in let inside = at.1 in (suc at.0, omega (arith, inside), at.2))
]

rising_at : (weights list : List ℕ) (k m : ℕ) → Rising weights list → k ≤ m → m < length list → slice_index weights (slice_index list k) ≤ slice_index weights (slice_index list m)
rising_at weights [] k m rising l inside = absurd (omega (arith, inside))
rising_at weights (x ∷ list) zero zero rising l inside = omega arith
rising_at weights (x ∷ list) zero (suc m) rising l inside = each_at (λ y. slice_index weights x ≤ slice_index weights y) list rising.0 m 0 (omega (arith, inside))
rising_at weights (x ∷ list) (suc k) zero rising l inside = absurd (omega (arith, l))
rising_at weights (x ∷ list) (suc k) (suc m) rising l inside = rising_at weights list k m rising.1 (omega (arith, l)) (omega (arith, inside))

-- the first in the set is the lightest
pub least_is : (p : PatchList) (weights : List ℕ) (j k least : ℕ) (list words : List ℕ) → AreOrdered p weights j (length p.patches) list → k < length list → ((m : ℕ) → m < k → ¬ IsIn words (slice_index list m)) → least ≡ slice_index weights (slice_index list k) → IsLeastOf p weights j words (Some least)
least_is p weights j k least list words are inside none is = λ i l on has.
    let at = among_at list i (are.all i l on) in
    elim (cases_lt at.0 k) [
      | inl before ↦ absurd (none at.0 before (subst (λ (m : ℕ). IsIn words m) (sym at.2) has))
      | inr after ↦ (let here = rising_at weights list k at.0 are.rising after at.1 in let same = ap (slice_index weights) at.2 in omega (arith, here, same, is))
    ]

pub least_none : (p : PatchList) (weights : List ℕ) (j : ℕ) (list words : List ℕ) → AreOrdered p weights j (length p.patches) list → ((m : ℕ) → m < length list → ¬ IsIn words (slice_index list m)) → IsLeastOf p weights j words None
least_none p weights j list words are none = λ i l on has.
    let at = among_at list i (are.all i l on) in none at.0 at.1 (subst (λ (m : ℕ). IsIn words m) (sym at.2) has)

-- ---- the budgets to come

pub least_begun : (p : PatchList) (weights : List ℕ) (first : ℕ) (words : List ℕ) → IsLeastTo p weights first words 0 first
least_begun p weights first words type is are = omega arith

pub least_more : (p : PatchList) (weights : List ℕ) (first j least more : ℕ) (words : List ℕ) → first ≤ j → j < p.budgets → IsLeastTo p weights first words least j → IsLeastOf p weights j words (Some more) → IsLeastTo p weights first words (least + more) (j + 1)
least_more p weights first j least more words l inside so_far here = λ type is are.
    let before = so_far type is are in
    let next = here (slice_index type j) (is.patch j inside) (is.on_its_budget j inside) (are j l inside) in
    let sum : first_weigh weights type (j + 1) ≡ first_weigh weights type j + slice_index weights (slice_index type j) = sum_next (λ k. slice_index weights (slice_index type k)) j in
    omega (arith, before, next, sum)
  where
    sum_next : (f : ℕ → ℕ) (n : ℕ) → sum_below (n + 1) f ≡ sum_below n f + f n
    sum_next f n = ap (λ (m : ℕ). sum_below m f) (let e : n + 1 ≡ suc n = omega arith in e)

pub least_at_end : (p : PatchList) (weights : List ℕ) (first j least : ℕ) (words : List ℕ) → j ≡ p.budgets → IsLeastTo p weights first words least j → IsLeastFrom p weights first words (Some least)
least_at_end p weights first j least words all so_far = subst (λ (n : ℕ). IsLeastTo p weights first words least n) all so_far

pub none_from : (p : PatchList) (weights : List ℕ) (first j : ℕ) (words : List ℕ) → first ≤ j → j < p.budgets → IsLeastOf p weights j words None → IsLeastFrom p weights first words None
none_from p weights first j words l inside here = λ type is are.
    here (slice_index type j) (is.patch j inside) (is.on_its_budget j inside) (are j l inside)

-- ---- what types weigh

front_weighs : (weights type front : List ℕ) → Begins type front → first_weigh weights type (length front) ≡ cells_weight weights front
front_weighs weights type front begins =
    sum_below-same (λ j. slice_index weights (slice_index type j)) (λ j. slice_index weights (slice_index front j)) (length front) (λ j l. ap (slice_index weights) (begins_at type front begins j l))

pub weight_more : (weights front : List ℕ) (i weight price : ℕ) → weight ≡ cells_weight weights front → price ≡ slice_index weights i → weight + price ≡ cells_weight weights (front ++ i ∷ [])
weight_more weights front i weight price is priced =
    let both = weight_append weights front (i ∷ []) in
    let one : cells_weight weights (i ∷ []) ≡ 0 + slice_index weights i = refl in
    omega (arith, both, one, is, priced)

-- all types that begin so weigh at least what their patches weigh so far with the lightest to come
pub weigh_at_least : (p : PatchList) (weights front words : List ℕ) (weight to_come first : ℕ) → Fits p front words → weight ≡ cells_weight weights front → first ≡ length front → IsLeastFrom p weights first words (Some to_come) → NoneIsLighter p weights front (weight + to_come)
weigh_at_least p weights front words weight to_come first fits is same least = λ type rational begins.
    let rest = least type rational.0 (λ d l inside. are_in p front words type fits rational begins d inside) in
    let own : first_weigh weights type first ≡ cells_weight weights front = ap (λ n. first_weigh weights type n) same ∙ front_weighs weights type front begins in
    let whole : first_weigh weights type p.budgets ≡ cells_weight weights type = ap (λ n. first_weigh weights type n) (sym rational.0.one_each) in
    omega (arith, rest, own, whole, is)

pub no_lighter : (p : PatchList) (weights front : List ℕ) (weight below : ℕ) → NoneIsLighter p weights front weight → below ≤ weight → NoneIsLighter p weights front below
no_lighter p weights front weight below none l = λ type rational begins. let least = none type rational begins in omega (arith, least, l)

pub none_at_all : (p : PatchList) (weights front words : List ℕ) (first below : ℕ) → Fits p front words → IsLeastFrom p weights first words None → NoneIsLighter p weights front below
none_at_all p weights front words first below fits none = λ type rational begins.
    absurd (none type rational.0 (λ d l inside. are_in p front words type fits rational begins d inside))

pub none_excluded : (p : PatchList) (weights front : List ℕ) (below : ℕ) → ((type : List ℕ) → IsRationalType p type → ¬ Begins type front) → NoneIsLighter p weights front below
none_excluded p weights front below excluded = λ type rational begins. absurd (excluded type rational begins)

-- a patch that is not in the set
pub none_unfit : (p : PatchList) (weights front words : List ℕ) (i below : ℕ) → Fits p front words → ¬ IsIn words i → NoneIsLighter p weights (front ++ i ∷ []) below
none_unfit p weights front words i below fits out = λ type rational begins.
    let size = longer_by_one front i in
    let long = begins_length type (front ++ i ∷ []) begins in
    let short : length front < p.budgets = omega (arith, size, long, rational.0.one_each) in
    let there : slice_index type (length front) ≡ i = begins_at type (front ++ i ∷ []) begins (length front) (omega (arith, size)) ∙ last_same front i in
    absurd (out (subst (λ (m : ℕ). IsIn words m) there (are_in p front words type fits rational (begins_first type front i begins) (length front) short)))
  where
    begins_first : (type front : List ℕ) (i : ℕ) → Begins type (front ++ i ∷ []) → Begins type front
    begins_first type [] i begins = tt
    begins_first [] (x ∷ front) i begins = absurd begins
    begins_first (y ∷ type) (x ∷ front) i begins = (begins.0, begins_first type front i begins.1)

-- ---- the search

pub sought_none : (p : PatchList) (weights : List ℕ) (light : Lightest) → HasSought p weights light light
sought_none p weights light = record { lower = omega arith; more = omega arith; kept = λ same. refl; light = λ most l are. are }

-- the next of two searches, whose beginning has other steps
pub sought_more : (p : PatchList) (weights : List ℕ) (before mid again after : Lightest) → HasSought p weights before mid → again.types ≡ mid.types → again.weight ≡ mid.weight → HasSought p weights again after → HasSought p weights before after
sought_more p weights before mid again after first same_types same_weight second =
    let many = ap (λ (types : Vec (Vec ℕ Global) Global). length types.items) same_types in
    let a = first.lower in let b = second.lower in let c = first.more in let d = second.more in record {
      lower = omega (arith, a, b, same_weight);
      more = omega (arith, c, d, many);
      kept = λ same. second.kept (omega (arith, same, c, d, many)) ∙ same_weight ∙ first.kept (omega (arith, same, c, d, many));
      light = λ most l are. second.light most (omega (arith, l, a, same_weight))
          (subst (λ (types : Vec (Vec ℕ Global) Global). AreLighter p weights most types.items) (sym same_types) (first.light most l are));
    }

pub sought_same : (p : PatchList) (weights : List ℕ) (before mid again : Lightest) → HasSought p weights before mid → again.types ≡ mid.types → again.weight ≡ mid.weight → HasSought p weights before again
sought_same p weights before mid again first same_types same_weight = sought_more p weights before mid again again first same_types same_weight (sought_none p weights again)

lighter_more : (p : PatchList) (weights : List ℕ) (most : ℕ) (types : List (Vec ℕ Global)) (type : Vec ℕ Global) → AreLighter p weights most types → IsRationalType p type.items → cells_weight weights type.items < most → AreLighter p weights most (types ++ type ∷ [])
lighter_more p weights most [] type are rational less = ((rational, less), tt)
lighter_more p weights most (first ∷ types) type are rational less = (are.0, lighter_more p weights most types type are.1 rational less)

-- a type is taken that is lighter
pub type_sought : (p : PatchList) (weights numbers : List ℕ) (weight : ℕ) (before after : Lightest) → IsRationalType p numbers → weight ≡ cells_weight weights numbers → weight < before.weight → after.weight ≡ weight → AddsLast numbers before.types.items after.types.items → HasSought p weights before after
type_sought p weights numbers weight before after rational is less now adds =
    let many = ap (λ (types : List (Vec ℕ Global)). length types) adds.2 ∙ length-append before.types.items (adds.0 ∷ []) in record {
      lower = omega (arith, less, now);
      more = omega (arith, many);
      kept = λ same. absurd (omega (arith, same, many));
      light = λ most l are. subst (λ (types : List (Vec ℕ Global)). AreLighter p weights most types) (sym adds.2)
          (lighter_more p weights most before.types.items adds.0 are (subst (λ (xs : List ℕ). IsRationalType p xs) (sym adds.1) rational)
          (let same = ap (cells_weight weights) adds.1 in omega (arith, same, is, less, l)));
    }

-- it is the only one that begins so
pub type_settled : (p : PatchList) (weights front : List ℕ) (weight : ℕ) (after : Lightest) → length front ≡ p.budgets → weight ≡ cells_weight weights front → after.weight ≡ weight → IsSettled p weights front after
type_settled p weights front weight after whole is now = inr (λ type rational begins.
    let same : cells_weight weights type ≡ cells_weight weights front = ap (cells_weight weights) (begins_whole type front begins (rational.0.one_each ∙ sym whole)) in
    omega (arith, same, is, now))

lower_settled : (p : PatchList) (weights front list : List ℕ) (k : ℕ) (light after : Lightest) → after.weight ≤ light.weight → ((m : ℕ) → m < k → NoneIsLighter p weights (front ++ slice_index list m ∷ []) light.weight) → (m : ℕ) → m < k → NoneIsLighter p weights (front ++ slice_index list m ∷ []) after.weight
lower_settled p weights front list k light after l so_far m before = no_lighter p weights (front ++ slice_index list m ∷ []) light.weight after.weight (so_far m before) l

-- the patch at the next place is settled too
pub settled_more : (p : PatchList) (weights front list : List ℕ) (k : ℕ) (light after : Lightest) → ¬ AreSpent light.most light.steps → after.weight ≤ light.weight → IsSettledBelow p weights front list k light → AreSpent after.most after.steps ⊎ NoneIsLighter p weights (front ++ slice_index list k ∷ []) after.weight → IsSettledBelow p weights front list (k + 1) after
settled_more p weights front list k light after left lower so_far here = elim here [
  | inl spent ↦ inl spent
  | inr none ↦ elim so_far [
    | inl spent ↦ absurd (left spent)
    | inr before ↦ inr (λ m l. elim (cases_lt m k) [
      | inl earlier ↦ lower_settled p weights front list k light after lower before m earlier
      | inr later ↦ (let same : k ≡ m = omega (arith, l, later) in subst (λ (n : ℕ). NoneIsLighter p weights (front ++ slice_index list n ∷ []) after.weight) same none)
    ])
  ]
]

-- a type that begins so goes on with a patch of the list
goes_on : (p : PatchList) (weights front list : List ℕ) (type : List ℕ) → length front < p.budgets → AreOrdered p weights (length front) (length p.patches) list → IsRationalType p type → Begins type front → (m : ℕ) × (m < length list) × Begins type (front ++ slice_index list m ∷ [])
goes_on p weights front list type short are rational begins =
    let next = slice_index type (length front) in
    let at = among_at list next (are.all next (rational.0.patch (length front) short) (rational.0.on_its_budget (length front) short)) in
    (at.0, at.1, subst (λ (i : ℕ). Begins type (front ++ i ∷ [])) (sym at.2) (begins_longer type front begins (omega (arith, short, rational.0.one_each))))

pub all_settled : (p : PatchList) (weights front list : List ℕ) (light : Lightest) → length front < p.budgets → AreOrdered p weights (length front) (length p.patches) list → IsSettledBelow p weights front list (length list) light → IsSettled p weights front light
all_settled p weights front list light short are so_far = elim so_far [
  | inl spent ↦ inl spent
  | inr before ↦ inr (λ type rational begins. let on = goes_on p weights front list type short are rational begins in before on.0 on.1 type rational on.2)
]

-- the patches from a place on are too heavy
pub rest_settled : (p : PatchList) (weights front list words : List ℕ) (k weight to_come first price : ℕ) (light : Lightest) → length front < p.budgets → AreOrdered p weights (length front) (length p.patches) list → k < length list → IsSettledBelow p weights front list k light
    → Fits p front words → weight ≡ cells_weight weights front → first ≡ length front + 1 → price ≡ slice_index weights (slice_index list k) → IsLeastFrom p weights first words (Some to_come) → light.weight ≤ weight + price + to_come → IsSettled p weights front light
rest_settled p weights front list words k weight to_come first price light short are inside so_far fits is next priced least heavy = elim so_far [
  | inl spent ↦ inl spent
  | inr before ↦ inr (λ type rational begins.
      let on = goes_on p weights front list type short are rational begins in
      elim (cases_lt on.0 k) [
        | inl earlier ↦ before on.0 earlier type rational on.2
        | inr later ↦
            let i = slice_index list on.0 in
            let risen = rising_at weights list k on.0 are.rising later on.1 in
            let rest = least type rational.0 (λ d l within. are_in p front words type fits rational begins d within) in
            let longer = longer_by_one front i in
            let own : first_weigh weights type first ≡ cells_weight weights (front ++ i ∷ []) = ap (λ n. first_weigh weights type n) (next ∙ sym longer) ∙ front_weighs weights type (front ++ i ∷ []) on.2 in
            let whole : first_weigh weights type p.budgets ≡ cells_weight weights type = ap (λ n. first_weigh weights type n) (sym rational.0.one_each) in
            let sum = weight_more weights front i weight (slice_index weights i) is refl in
            omega (arith, risen, rest, own, whole, sum, priced, heavy)
      ])
]

-- ---- a begun type

pub weighed_none : (p : PatchList) (weights : List ℕ) (begun : Begun) → length p.patches ≤ 256 → taken_in begun.partial ≡ [] → begun.weight ≡ 0 → ((i : ℕ) → i < 256 → IsIn begun.fit.words i) → IsWeighed p weights begun
weighed_none p weights begun few none nothing all = record {
  exact = nothing ∙ sym (ap (cells_weight weights) none);
  small = omega (arith, nothing);
  fits = λ j l. inl (all j (omega (arith, few, l)));
}

pub weighed_more : (p : PatchList) (weights : List ℕ) (begun next : Begun) (i price : ℕ) → IsWeighed p weights begun → next.weight ≡ begun.weight + price → price ≡ slice_index weights i → price < 2 ^ 64 → taken_in next.partial ≡ taken_in begun.partial ++ i ∷ [] → next.partial.taken ≡ begun.partial.taken + 1
    → Fits p (taken_in begun.partial ++ i ∷ []) next.fit.words → IsWeighed p weights next
weighed_more p weights begun next i price is sum priced fits longer taken next_fits = record {
  exact = sum ∙ weight_more weights (taken_in begun.partial) i begun.weight price is.exact priced ∙ sym (ap (cells_weight weights) longer);
  small = (let small = is.small in omega (arith, small, sum, fits, taken));
  fits = subst (λ (front : List ℕ). Fits p front next.fit.words) (sym longer) next_fits;
}

-- ---- the whole search

pub ended_below : (p : PatchList) (weights : List ℕ) (below : ℕ) (before after : Lightest) → before.types.items ≡ [] → before.weight ≡ below → HasSought p weights before after → IsSettled p weights [] after → HasEndedBelow p weights below after
ended_below p weights below before after none begun sought settled = record {
  light = sought.light below (omega (arith, begun)) (subst (λ (types : List (Vec ℕ Global)). AreLighter p weights below types) (sym none) tt);
  settled = λ lacking. elim settled [
    | inl spent ↦ inl spent
    | inr least ↦ inr (let same = sought.kept (lacking ∙ sym (ap (λ (types : List (Vec ℕ Global)). length types) none)) in
        no_lighter p weights [] after.weight below least (omega (arith, same, begun)))
  ];
}
