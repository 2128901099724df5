-- Lists of entries that are read one after another.
use Rattle.std.proofs.Common.{◌≡◌, ◌≢◌, ℕ, zero, suc, ◌+◌, ◌<◌, List, [], ◌∷◌, ◌++◌, All, map, take, length, get_or, Option, Some, None, Result, Ok, Err, IfOk, refl, sym, ap, subst, ◌∙◌, arith}
use Rattle.std.proofs.lemmas.List.{map-append, take_more}
use Rattle.serde_json.specs.Data.{Data, Items, no_items, item, null, boolean, number, string, array, object}
use Rattle.serde_json.specs.Find.{as_array}
use Rattle.serde_json.specs.View.{items_of}
use Rattle.rp_json_entries.specs.Reading.{IsFound}

-- the one list of entries within the limits that is shown so
abbrev pub AreSoFar : {X : Type 0} → (X → Data) → (X → Type 0) → List Data → List X → Type 0
AreSoFar value_of fits ds xs = (map value_of xs ≡ ds) × All fits xs × ((ys : _) → All fits ys → map value_of ys ≡ ds → ys ≡ xs)

abbrev first_of : List Data → Data
first_of [] = null
first_of (d ∷ ds) = d

abbrev others_of : List Data → List Data
others_of [] = []
others_of (d ∷ ds) = ds

abbrev tail_of : {X : Type 0} → List X → List X
tail_of [] = []
tail_of (x ∷ xs) = xs

abbrev head_or : {X : Type 0} → X → List X → X
head_or x [] = x
head_or x (y ∷ ys) = y

abbrev first_in : Data → Items → Data
first_in d no_items = d
first_in d (item x xs) = x

abbrev others_in : Items → Items
others_in no_items = no_items
others_in (item x xs) = xs

pub all_first : {X : Type 0} (P : X → Type 0) (x : X) (xs : List X) → All P (x ∷ xs) → P x
all_first P x xs h = h 0 x (omega arith)

pub all_rest : {X : Type 0} (P : X → Type 0) (x : X) (xs : List X) → All P (x ∷ xs) → All P xs
all_rest P x xs h k d l = h (suc k) d (omega arith)

pub all_none : {X : Type 0} (P : X → Type 0) → All P []
all_none P k d l = absurd (omega arith)

pub all_more : {X : Type 0} (P : X → Type 0) (x : X) (xs : List X) → P x → All P xs → All P (x ∷ xs)
all_more P x xs here rest zero d l = here
all_more P x xs here rest (suc k) d l = rest k d (omega arith)

-- no entry yet
pub none_yet : {X : Type 0} (value_of : X → Data) (fits : X → Type 0) → AreSoFar value_of fits [] []
none_yet {X} value_of fits = (refl, all_none fits, only)
  where
    only : (ys : List X) → All fits ys → map value_of ys ≡ [] → ys ≡ []
    only [] h e = refl
    only (y ∷ ys) h e = absurd cc

-- one more entry
pub one_more : {X : Type 0} (value_of : X → Data) (fits : X → Type 0) (ds : List Data) (d : Data) (xs : List X) (x : X)
    → AreSoFar value_of fits ds xs → IsFound value_of fits d (Some x) → AreSoFar value_of fits (ds ++ d ∷ []) (xs ++ x ∷ [])
one_more {X} value_of fits [] d [] x so here = (ap (λ e. e ∷ []) here.0, all_more fits x [] here.1 (all_none fits), only)
  where
    only : (ys : List X) → All fits ys → map value_of ys ≡ d ∷ [] → ys ≡ x ∷ []
    only [] h e = absurd cc
    only (y ∷ []) h e = ap (λ z. z ∷ []) (here.2 y (all_first fits y [] h) (ap first_of e))
    only (y ∷ z ∷ ys) h e = absurd (let q : value_of z ∷ map value_of ys ≡ [] = ap others_of e in cc)
one_more value_of fits [] d (x' ∷ xs) x so here = absurd (let q = so.0 in cc)
one_more value_of fits (d' ∷ ds) d [] x so here = absurd (let q = so.0 in cc)
one_more {X} value_of fits (d' ∷ ds) d (x' ∷ xs) x so here =
    let inner : AreSoFar value_of fits ds xs = (ap others_of so.0, all_rest fits x' xs so.1, λ ys h e. tail_same ys (so.2 (x' ∷ ys) (all_more fits x' ys (all_first fits x' xs so.1) h) (λ i. ap first_of so.0 i ∷ e i))) in
    let more = one_more value_of fits ds d xs x inner here in
    ((λ i. ap first_of so.0 i ∷ more.0 i), all_more fits x' (xs ++ x ∷ []) (all_first fits x' xs so.1) more.1, only more)
  where
    tail_same : (ys : List X) → x' ∷ ys ≡ x' ∷ xs → ys ≡ xs
    tail_same ys e = ap tail_of e

    head_same : (y : X) → fits y → value_of y ≡ d' → y ≡ x'
    head_same y h e = ap (head_or x') (so.2 (y ∷ xs) (all_more fits y xs h (all_rest fits x' xs so.1)) (λ i. e i ∷ ap others_of so.0 i))

    only : AreSoFar value_of fits (ds ++ d ∷ []) (xs ++ x ∷ []) → (ys : List X) → All fits ys → map value_of ys ≡ d' ∷ (ds ++ d ∷ []) → ys ≡ x' ∷ (xs ++ x ∷ [])
    only more [] h e = absurd cc
    only more (y ∷ ys) h e =
        let a = head_same y (all_first fits y ys h) (ap first_of e) in
        let b = more.2 ys (all_rest fits y ys h) (ap others_of e) in
        λ i. a i ∷ b i

-- lists of values are the same where their arrays are
pub same_items : (xs ys : List Data) → items_of xs ≡ items_of ys → xs ≡ ys
same_items [] [] e = refl
same_items [] (y ∷ ys) e = absurd cc
same_items (x ∷ xs) [] e = absurd cc
same_items (x ∷ xs) (y ∷ ys) e =
    let a = ap (first_in x) e in
    let b = same_items xs ys (ap others_in e) in
    λ i. a i ∷ b i

-- ---- over the values that are gone through

module _ {X V : Type 0} (value_of : X → Data) (fits : X → Type 0) (seen : V → Data) where
  pub one_read : (vs : List V) (k : ℕ) (v : V) (xs new : List X) (x : X) → k < length vs → v ≡ get_or vs k v
      → AreSoFar value_of fits (map seen (take k vs)) xs → IsFound value_of fits (seen v) (Some x) → new ≡ xs ++ x ∷ []
      → AreSoFar value_of fits (map seen (take (k + 1) vs)) new
  one_read vs k v xs new x within at so here is =
      let values : map seen (take k vs) ++ seen v ∷ [] ≡ map seen (take (k + 1) vs) =
      ap (λ w. map seen (take k vs) ++ seen w ∷ []) at ∙ sym (map-append seen (take k vs) (get_or vs k v ∷ [])) ∙ ap (map seen) (sym (take_more vs k v within)) in
      subst (λ l. AreSoFar value_of fits (map seen (take (k + 1) vs)) l) (sym is)
      (subst (λ ds. AreSoFar value_of fits ds (xs ++ x ∷ [])) values (one_more value_of fits (map seen (take k vs)) (seen v) xs x so here))

  pub none_read : (vs : List V) (k : ℕ) (v : V) → k < length vs → v ≡ get_or vs k v → ((y : X) → fits y → value_of y ≢ seen v)
      → (ys : List X) → All fits ys → map value_of ys ≢ map seen vs
  none_read [] k v within at none ys h e = absurd (omega arith)
  none_read (w ∷ vs) k v within at none [] h e = absurd cc
  none_read (w ∷ vs) zero v within at none (y ∷ ys) h e = none y (all_first fits y ys h) (ap first_of e ∙ ap seen (sym at))
  none_read (w ∷ vs) (suc k) v within at none (y ∷ ys) h e = none_read vs k v (omega arith) at none ys (all_rest fits y ys h) (ap others_of e)

abbrev items_in : Data → Items
items_in (array is) = is
items_in _ = no_items

pub same_array : (a b : Items) → array a ≡ array b → a ≡ b
same_array a b e = ap items_in e

pub is_array : (d : Data) (is : Items) → Some is ≡ as_array d → d ≡ array is
is_array null is e = absurd cc
is_array (boolean b) is e = absurd cc
is_array (number n) is e = absurd cc
is_array (string s) is e = absurd cc
is_array (array ds) is e = ap array (sym (some_same is ds e))
  where
    some_same : (a b : Items) → Some a ≡ Some b → a ≡ b
    some_same a b p = search
is_array (object ms) is e = absurd cc

-- what is read of the values is what is read of their array
pub if_array : {X E : Type 0} (value_of : X → Data) (fits : X → Type 0) (d : Data) (ds : List Data) (r : Result (Option (List X)) E)
    → Some (items_of ds) ≡ as_array d → IfOk r (λ o. IsFound (map value_of) (All fits) ds o) → IfOk r (λ o. IsFound (λ xs. array (items_of (map value_of xs))) (All fits) d o)
if_array value_of fits d ds (Err e) at read = tt
if_array value_of fits d ds (Ok (Some xs)) at read =
    let is = is_array d (items_of ds) at in
    (ap (λ l. array (items_of l)) read.0 ∙ sym is, read.1, λ ys h e. read.2 ys h (same_items (map value_of ys) ds (same_array _ _ (e ∙ is))))
if_array value_of fits d ds (Ok None) at read = λ ys h e. read ys h (same_items (map value_of ys) ds (same_array _ _ (e ∙ is_array d (items_of ds) at)))
