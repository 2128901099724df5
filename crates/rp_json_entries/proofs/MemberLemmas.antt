-- Members of an object that are compared with names one after another.
use Rattle.std.proofs.Common.{◌≡◌, ◌≢◌, ℕ, zero, suc, ◌+◌, ◌<◌, ◌≤◌, List, [], ◌∷◌, ◌++◌, take, length, length-append, get_or, Bor, Bool, true, false, not, eqb, eqb-true, eq-eqb, true≢false, Option, Some, None, Result, Ok, Err, IfOk, refl, sym, ap, ◌∙◌, arith}
use Rattle.std.proofs.lemmas.List.{take_more}
use Rattle.std.proofs.lemmas.Bool.{and_parts}
use Rattle.std.specs.Cmp.Lexicographic.{pointwise}
use Rattle.serde_json.specs.Data.{Data, Members, member, no_members, null, boolean, number, string, array, object}
use Rattle.serde_json.specs.Find.{as_array, as_object}
use Rattle.serde_json.specs.View.{items_of, view}
use Rattle.serde_json.specs.declared.value.Value.{Value}
use Rattle.rp_json_entries.specs.InnerMembers.{AreNamed, named, texts, views}
use Rattle.rp_json_entries.specs.Reading.{IsFound}
use Rattle.rp_json_entries.proofs.ListLemmas.{is_array, same_array, same_items}

-- members before others, as far as there are both names and values
abbrev pub put_before : List (List ℕ) → List Data → Members → Members
put_before [] ds ms = ms
put_before (name ∷ names) [] ms = ms
put_before (name ∷ names) (d ∷ ds) ms = member name d (put_before names ds ms)

-- the first of these members are those of the first names, with these values; the others are left
pub record AreSeen (names : List (List ℕ)) (all rest : Members) (ds : List Data) : Type 0 where
  pub few : length ds ≤ length names
  pub split : all ≡ put_before (take (length ds) names) ds rest

abbrev key_in : Members → List ℕ
key_in no_members = []
key_in (member key d ms) = key

abbrev value_in : Members → Data
value_in no_members = null
value_in (member key d ms) = d

abbrev others_in : Members → Members
others_in no_members = no_members
others_in (member key d ms) = ms

last_put : (names : List (List ℕ)) (ds : List Data) (name : List ℕ) (d : Data) (ms : Members) → length names ≡ length ds
    → put_before (names ++ name ∷ []) (ds ++ d ∷ []) ms ≡ put_before names ds (member name d ms)
last_put [] [] name d ms e = refl
last_put [] (x ∷ ds) name d ms e = absurd (omega (arith, e))
last_put (n ∷ names) [] name d ms e = absurd (omega (arith, e))
last_put (n ∷ names) (x ∷ ds) name d ms e = ap (member n x) (last_put names ds name d ms (omega (arith, e)))

length_taken : (names : List (List ℕ)) (k : ℕ) → k ≤ length names → length (take k names) ≡ k
length_taken names zero h = refl
length_taken [] (suc k) h = absurd (omega arith)
length_taken (n ∷ names) (suc k) h = omega (arith, length_taken names k (omega arith))

-- one more member has the next name
pub one_seen : (names : List (List ℕ)) (all rest : Members) (ds : List Data) (name : List ℕ) (d : Data)
    → AreSeen names all (member name d rest) ds → length ds < length names → name ≡ get_or names (length ds) [] → AreSeen names all rest (ds ++ d ∷ [])
one_seen names all rest ds name d seen more same =
    let len : length (ds ++ d ∷ []) ≡ length ds + 1 = omega (arith, length-append ds (d ∷ [])) in
    let taken : take (length ds) names ++ name ∷ [] ≡ take (length (ds ++ d ∷ [])) names =
    ap (λ n. take (length ds) names ++ n ∷ []) same ∙ sym (take_more names (length ds) [] more) ∙ ap (λ k. take k names) (sym len) in
    record {
      few = omega (arith, len, more);
      split = seen.split ∙ sym (last_put (take (length ds) names) ds name d rest (length_taken names (length ds) seen.few)) ∙ ap (λ ns. put_before ns (ds ++ d ∷ []) rest) taken;
    }

-- the next member has another name, or there is no next name
other_name : (names : List (List ℕ)) (ds es : List Data) (name : List ℕ) (d : Data) (rest : Members) → length ds ≤ length names → length es ≡ length names
    → (length ds < length names → name ≢ get_or names (length ds) []) → named names es ≢ put_before (take (length ds) names) ds (member name d rest)
other_name [] [] es name d rest few one other e = absurd cc
other_name [] (x ∷ ds) es name d rest few one other e = absurd (omega arith)
other_name (n ∷ names) [] [] name d rest few one other e = absurd cc
other_name (n ∷ names) [] (y ∷ es) name d rest few one other e = other (omega arith) (sym (ap key_in e))
other_name (n ∷ names) (x ∷ ds) [] name d rest few one other e = absurd cc
other_name (n ∷ names) (x ∷ ds) (y ∷ es) name d rest few one other e =
    other_name names ds es name d rest (omega arith) (omega (arith, one)) (λ l. other (omega arith)) (ap others_in e)

pub none_other : (names : List (List ℕ)) (all rest : Members) (ds es : List Data) (name : List ℕ) (d : Data)
    → AreSeen names all (member name d rest) ds → (length ds < length names → name ≢ get_or names (length ds) []) → ¬ AreNamed names all es
none_other names all rest ds es name d seen other is = other_name names ds es name d rest seen.few is.0 other (is.1 ∙ seen.split)

all_put : (names : List (List ℕ)) (ds : List Data) → length ds ≡ length names → put_before (take (length ds) names) ds no_members ≡ named names ds
all_put [] [] e = refl
all_put [] (d ∷ ds) e = absurd (omega (arith, e))
all_put (n ∷ names) [] e = absurd (omega (arith, e))
all_put (n ∷ names) (d ∷ ds) e = ap (member n d) (all_put names ds (omega (arith, e)))

-- every member was seen, and every name
pub all_seen : (names : List (List ℕ)) (all : Members) (ds : List Data) → AreSeen names all no_members ds → length ds ≡ length names → AreNamed names all ds
all_seen names all ds seen e = (e, sym (seen.split ∙ all_put names ds e))

some_left : (names : List (List ℕ)) (ds es : List Data) → length ds < length names → length es ≡ length names
    → named names es ≢ put_before (take (length ds) names) ds no_members
some_left [] ds es less one e = absurd (omega arith)
some_left (n ∷ names) [] [] less one e = absurd (omega (arith, one))
some_left (n ∷ names) [] (y ∷ es) less one e = absurd cc
some_left (n ∷ names) (x ∷ ds) [] less one e = absurd (omega (arith, one))
some_left (n ∷ names) (x ∷ ds) (y ∷ es) less one e = some_left names ds es (omega arith) (omega (arith, one)) (ap others_in e)

-- every member was seen, and a name is left
pub none_left : (names : List (List ℕ)) (all : Members) (ds es : List Data) → AreSeen names all no_members ds → length ds ≢ length names → ¬ AreNamed names all es
none_left names all ds es seen more is = some_left names ds es (omega (arith, seen.few, more)) is.0 (is.1 ∙ seen.split)

-- a name at its place
pub text_at : (names : List (Bor (List ℕ))) (k : ℕ) (d : Bor (List ℕ)) → k < length names → (get_or names k d).now ≡ get_or (texts names) k []
text_at [] k d h = absurd (omega arith)
text_at (n ∷ names) zero d h = refl
text_at (n ∷ names) (suc k) d h = text_at names k d (omega arith)

pub same_bytes : (a b : List ℕ) → pointwise eqb a b ≡ true → a ≡ b
same_bytes [] [] e = refl
same_bytes [] (y ∷ b) e = absurd cc
same_bytes (x ∷ a) [] e = absurd cc
same_bytes (x ∷ a) (y ∷ b) e =
    let two = and_parts (eqb x y) (pointwise eqb a b) e in
    let here = eqb-true x y two.0 in
    let rest = same_bytes a b two.1 in
    λ i. here i ∷ rest i

pub bytes_same : (a : List ℕ) → pointwise eqb a a ≡ true
bytes_same [] = refl
bytes_same (x ∷ a) = rw (eq-eqb x x refl, bytes_same a) refl

pub other_bytes : (a b : List ℕ) → true ≡ not (pointwise eqb a b) → a ≢ b
other_bytes a b e same = true≢false (e ∙ ap not (ap (pointwise eqb a) (sym same) ∙ bytes_same a))

pub no_other_bytes : (a b : List ℕ) → not (pointwise eqb a b) ≡ false → a ≡ b
no_other_bytes a b e = same_bytes a b (turned (pointwise eqb a b) e)
  where
    turned : (p : Bool) → not p ≡ false → p ≡ true
    turned true q = refl
    turned false q = absurd cc

pub length_texts : (names : List (Bor (List ℕ))) → length (texts names) ≡ length names
length_texts [] = refl
length_texts (n ∷ names) = ap suc (length_texts names)

pub length_views : (values : List (Bor Value)) → length (views values) ≡ length values
length_views [] = refl
length_views (v ∷ values) = ap suc (length_views values)

pub one_view : (values : List (Bor Value)) (v : Bor Value) → views (values ++ v ∷ []) ≡ views values ++ view v.now ∷ []
one_view [] v = refl
one_view (x ∷ values) v = ap (λ ds. view x.now ∷ ds) (one_view values v)

-- ---- objects

abbrev members_in : Data → Members
members_in (object ms) = ms
members_in _ = no_members

pub same_object : (a b : Members) → object a ≡ object b → a ≡ b
same_object a b e = ap members_in e

pub is_object : (d : Data) (ms : Members) → Some ms ≡ as_object d → d ≡ object ms
is_object null ms e = absurd cc
is_object (boolean b) ms e = absurd cc
is_object (number n) ms e = absurd cc
is_object (string s) ms e = absurd cc
is_object (array ds) ms e = absurd cc
is_object (object m) ms e = ap object (sym (some_same ms m e))
  where
    some_same : (a b : Members) → Some a ≡ Some b → a ≡ b
    some_same a b p = search

-- one name each: the values are the same where the members are
pub same_named : (names : List (List ℕ)) (ds es : List Data) → length ds ≡ length names → length es ≡ length names → named names ds ≡ named names es → ds ≡ es
same_named [] [] [] a b e = refl
same_named [] [] (x ∷ es) a b e = absurd (omega (arith, b))
same_named [] (x ∷ ds) es a b e = absurd (omega (arith, a))
same_named (n ∷ names) [] es a b e = absurd (omega (arith, a))
same_named (n ∷ names) (x ∷ ds) [] a b e = absurd (omega (arith, b))
same_named (n ∷ names) (x ∷ ds) (y ∷ es) a b e =
    let here = ap value_in e in
    let rest = same_named names ds es (omega (arith, a)) (omega (arith, b)) (ap others_in e) in
    λ i. here i ∷ rest i

-- what is read of the values is what is read of their object
pub if_object : {X E : Type 0} (listed : X → List Data) (fit : X → Type 0) (names : List (List ℕ)) (d : Data) (ms : Members) (ds : List Data) (r : Result (Option X) E)
    → ((x : X) → length (listed x) ≡ length names) → Some ms ≡ as_object d → AreNamed names ms ds
    → IfOk r (λ o. IsFound listed fit ds o) → IfOk r (λ o. IsFound (λ x. object (named names (listed x))) fit d o)
if_object listed fit names d ms ds (Err e) one at is read = tt
if_object listed fit names d ms ds (Ok (Some x)) one at is read =
    let whole : object (named names ds) ≡ d = ap object is.1 ∙ sym (is_object d ms at) in (
      ap (λ l. object (named names l)) read.0 ∙ whole,
      read.1,
      λ y h e. read.2 y h (same_named names (listed y) ds (one y) is.0 (same_object _ _ (e ∙ sym whole))),
    )
if_object listed fit names d ms ds (Ok None) one at is read = λ y h e.
    let whole : object (named names ds) ≡ d = ap object is.1 ∙ sym (is_object d ms at) in
    read y h (same_named names (listed y) ds (one y) is.0 (same_object _ _ (e ∙ sym whole)))

-- what is read of the values is what is read of their array
pub if_items : {X E : Type 0} (listed : X → List Data) (fit : X → Type 0) (d : Data) (ds : List Data) (r : Result (Option X) E)
    → Some (items_of ds) ≡ as_array d → IfOk r (λ o. IsFound listed fit ds o) → IfOk r (λ o. IsFound (λ x. array (items_of (listed x))) fit d o)
if_items listed fit d ds (Err e) at read = tt
if_items listed fit d ds (Ok (Some x)) at read =
    let is = is_array d (items_of ds) at in
    (ap (λ l. array (items_of l)) read.0 ∙ sym is, read.1, λ y h e. read.2 y h (same_items (listed y) ds (same_array _ _ (e ∙ is))))
if_items listed fit d ds (Ok None) at read = λ y h e. read y h (same_items (listed y) ds (same_array _ _ (e ∙ is_array d (items_of ds) at)))
