-- The top of a certificate: its members by their names, its version and its levels.
use Rattle.std.proofs.Common.{◌≡◌, ◌≢◌, inl, inr, ℕ, List, [], ◌∷◌, map, length, get_or, Bor, Option, Some, None, Result, Ok, Err, IfOk, refl, sym, ap, subst, ◌∙◌, arith, codes}
use Rattle.rp_evidence.specs.declared.certificate.Kind.{Kind}
use Rattle.rp_evidence.specs.declared.certificate.Kind.TheVariants.{Table}
use Rattle.serde_json.specs.Data.{Data, Items, Members, array, member, no_items, no_members, null, number, object, string, unsigned}
use Rattle.serde_json.specs.Find.{as_object}
use Rattle.serde_json.specs.View.{items_of, view}
use Rattle.serde_json.specs.declared.value.Value.{Value}
use Rattle.rp_json.specs.CertificateValue.{kind_name, top_value}
use Rattle.rp_json.specs.Denoted.{AreSomeLevels, FitLevels, HasNoShape, HasOtherVersion, IsTop}
use Rattle.rp_json.specs.InnerItems.{AreLevelsBy, AreThirdBy}
use Rattle.rp_json_entries.specs.InnerMembers.{AreNamed, named, views}
use Rattle.rp_json_entries.specs.Values.{count_value, counts_value}
use Rattle.rp_json_entries.proofs.ListLemmas.{same_array, same_items}
use Rattle.rp_json_entries.proofs.MemberLemmas.{is_object, same_object}
use Rattle.rp_json_entries.specs.Reading.{IsFound}

some_same : {A : Type 0} (a b : A) → Some a ≡ Some b → a ≡ b
some_same a b e = search

-- ---- members by their names

abbrev pub three_names : List (List ℕ)
three_names = codes "items" ∷ codes "kind" ∷ codes "version" ∷ []

abbrev pub four_names : List (List ℕ)
four_names = codes "items" ∷ codes "kind" ∷ codes "levels" ∷ codes "version" ∷ []

-- the three members of version 1
pub without_levels : (kind : Kind) (ms : Members) (ds : List Data) → AreNamed three_names ms ds → AreLevelsBy kind 1 (object ms) (Some [])
without_levels kind ms [] is = absurd (omega (arith, is.0))
without_levels kind ms (a ∷ []) is = absurd (omega (arith, is.0))
without_levels kind ms (a ∷ b ∷ []) is = absurd (omega (arith, is.0))
without_levels kind ms (a ∷ b ∷ c ∷ d ∷ ds) is = absurd (omega (arith, is.0))
without_levels kind ms (a ∷ b ∷ c ∷ []) is = (inl (refl, refl), whole)
  where
    whole : (items : List Data) → IsTop kind 1 items (object ms) → object ms ≡ top_value kind 1 [] items
    whole items top =
        let moved : IsTop kind 1 items (object (named three_names (a ∷ b ∷ c ∷ []))) = subst (λ m. IsTop kind 1 items (object m)) (sym is.1) top in
        let ea = some_same a (array (items_of items)) moved.has_items in
        let eb = some_same b (string (kind_name kind)) moved.has_kind in
        let ec = some_same c (number (unsigned 1)) moved.has_version in
        sym (ap object is.1) ∙ (λ i. object (member (codes "items") (ea i) (member (codes "kind") (eb i) (member (codes "version") (ec i) no_members))))

-- other members
pub not_without_levels : (kind : Kind) (ms : Members) → ((ds : List Data) → ¬ AreNamed three_names ms ds) → (levels : List ℕ) (items : List Data)
    → FitLevels kind 1 levels → object ms ≢ top_value kind 1 levels items
not_without_levels kind ms none levels items fit e =
    none (array (items_of items) ∷ string (kind_name kind) ∷ number (unsigned 1) ∷ []) (refl, sym (same_object _ _ e))

abbrev others_in : Members → Members
others_in no_members = no_members
others_in (member name d ms) = ms

abbrev value_in : Members → Data
value_in no_members = null
value_in (member name d ms) = d

-- other members
pub no_four_members : (ms : Members) → ((ds : List Data) → ¬ AreNamed four_names ms ds) → (levels : List ℕ) (items : List Data)
    → FitLevels Table 2 levels → object ms ≢ top_value Table 2 levels items
no_four_members ms none levels items fit e =
    none (array (items_of items) ∷ string (kind_name Table) ∷ counts_value levels ∷ number (unsigned 2) ∷ []) (refl, sym (same_object _ _ e))

-- ---- one version, one list of levels, one list of values

abbrev count_in : Data → ℕ
count_in (number (unsigned n)) = n
count_in _ = 0

abbrev first_data : List Data → Data
first_data [] = null
first_data (d ∷ ds) = d

abbrev rest_data : List Data → List Data
rest_data [] = []
rest_data (d ∷ ds) = ds

same_counts : (xs ys : List ℕ) → map count_value xs ≡ map count_value ys → xs ≡ ys
same_counts [] [] e = refl
same_counts [] (y ∷ ys) e = absurd cc
same_counts (x ∷ xs) [] e = absurd cc
same_counts (x ∷ xs) (y ∷ ys) e =
    let here : x ≡ y = ap (λ ds. count_in (first_data ds)) e in
    let rest = same_counts xs ys (ap rest_data e) in
    λ i. here i ∷ rest i

abbrev third_of : List Data → Data
third_of ds = first_data (rest_data (rest_data ds))

abbrev third_in : Data → Data
third_in (object ms) = value_in (others_in (others_in ms))
third_in _ = null

abbrev is_count : Data → ℕ
is_count (number n) = 1
is_count _ = 0

abbrev items_in : Data → Items
items_in (object (member name (array items) ms)) = items
items_in _ = no_items

pub same_top : (kind kind' : Kind) (version version' : ℕ) (levels levels' : List ℕ) (values values' : List Data) → FitLevels kind version levels → FitLevels kind' version' levels'
    → top_value kind version levels values ≡ top_value kind' version' levels' values' → (version ≡ version') × (levels ≡ levels') × (values ≡ values')
same_top kind kind' version version' levels levels' values values' (inl (v, l)) (inl (v', l')) e = (v ∙ sym v', l ∙ sym l', same_items values values' (ap items_in e))
same_top kind kind' version version' levels levels' values values' (inl (v, l)) (inr (v', table', some')) e =
    let moved : top_value kind 1 levels values ≡ top_value kind' 2 levels' values' = (λ i. top_value kind (sym v i) levels values) ∙ e ∙ (λ i. top_value kind' (v' i) levels' values') in
    let q : ◌≡◌ {A = ℕ} 1 0 = ap (λ d. is_count (third_in d)) moved in
    absurd (omega (arith, q))
same_top kind kind' version version' levels levels' values values' (inr (v, table, some)) (inl (v', l')) e =
    let moved : top_value kind 2 levels values ≡ top_value kind' 1 levels' values' = (λ i. top_value kind (sym v i) levels values) ∙ e ∙ (λ i. top_value kind' (v' i) levels' values') in
    let q : ◌≡◌ {A = ℕ} 0 1 = ap (λ d. is_count (third_in d)) moved in
    absurd (omega (arith, q))
same_top kind kind' version version' levels levels' values values' (inr (v, table, some)) (inr (v', table', some')) e =
    let moved : top_value kind 2 levels values ≡ top_value kind' 2 levels' values' = (λ i. top_value kind (sym v i) levels values) ∙ e ∙ (λ i. top_value kind' (v' i) levels' values') in (
      v ∙ sym v',
      same_counts levels levels' (same_items (map count_value levels) (map count_value levels')
          (same_array (items_of (map count_value levels)) (items_of (map count_value levels')) (ap third_in moved))),
      same_items values values' (ap items_in e),
    )

-- a certificate's value is a top
pub top_there : (kind : Kind) (version : ℕ) (levels : List ℕ) (values : List Data) → FitLevels kind version levels → IsTop kind version values (top_value kind version levels values)
top_there kind version levels values (inl (v, l)) =
    let there : IsTop kind 1 values (top_value kind 1 levels values) = record { has_items = refl; has_kind = refl; has_version = refl } in
    subst (λ n. IsTop kind n values (top_value kind n levels values)) (sym v) there
top_there kind version levels values (inr (v, table, some)) =
    let there : IsTop kind 2 values (top_value kind 2 levels values) = record { has_items = refl; has_kind = refl; has_version = refl } in
    subst (λ n. IsTop kind n values (top_value kind n levels values)) (sym v) there

abbrev number_in : Option Data → ℕ
number_in (Some (number (unsigned n))) = n
number_in _ = 0

pub one_version : (kind : Kind) (v w : ℕ) (xs ys : List Data) (d : Data) → IsTop kind v xs d → IsTop kind w ys d → v ≡ w
one_version kind v w xs ys d one two = ap number_in (sym one.has_version ∙ two.has_version)

-- ---- refusals

-- what has a shape has no other version
pub no_other_version : (kind : Kind) (version : ℕ) (levels : List ℕ) (values : List Data) (d : Data) → FitLevels kind version levels → d ≡ top_value kind version levels values
    → ¬ HasOtherVersion kind d
no_other_version kind version levels values d fit e (v, items, top, not1, not2) = other fit
  where
    same : v ≡ version
    same = one_version kind v version items values d top (subst (IsTop kind version values) (sym e) (top_there kind version levels values fit))

    other : FitLevels kind version levels → ⊥
    other (inl (is1, l)) = not1 (same ∙ is1)
    other (inr (is2, table, some)) = not2 (same ∙ is2)

-- without items, a kind or a version there is no shape
pub no_top : (kind : Kind) (d : Data) → ((version : ℕ) (items : List Data) → ¬ IsTop kind version items d) → HasNoShape kind d × ¬ HasOtherVersion kind d
no_top kind d none = (
  λ version levels items fit e. none version items (subst (IsTop kind version items) (sym e) (top_there kind version levels items fit)),
  λ other. none other.0 other.1 other.2,
)

-- ---- where the value is an object

pub levels_of_object : {E : Type 0} (kind : Kind) (version : ℕ) (d : Data) (ms : Members) (r : Result (Option (List ℕ)) E) → Some ms ≡ as_object d
    → IfOk r (λ o. AreLevelsBy kind version (object ms) o) → IfOk r (λ o. AreLevelsBy kind version d o)
levels_of_object kind version d ms r at read = subst (λ x. IfOk r (λ o. AreLevelsBy kind version x o)) (sym (is_object d ms at)) read

-- ---- the third of four values

pub third_read : {E : Type 0} (a b d c : Data) (r : Result (Option (List ℕ)) E) → IfOk r (λ o. IsFound counts_value AreSomeLevels d o) → IfOk r (λ o. AreThirdBy (a ∷ b ∷ d ∷ c ∷ []) o)
third_read a b d c (Err e) read = tt
third_read a b d c (Ok (Some levels)) read = (read.1, (a, b, c, λ i. a ∷ b ∷ sym read.0 i ∷ c ∷ []))
third_read a b d c (Ok None) read = λ levels x y z some e. read levels some (sym (ap third_of e))

pub third_of_four : {E : Type 0} (values : List (Bor Value)) (item : Bor Value) (r : Result (Option (List ℕ)) E) → length values ≡ 4 → item ≡ get_or values 2 item
    → IfOk r (λ o. IsFound counts_value AreSomeLevels (view item.now) o) → IfOk r (λ o. AreThirdBy (views values) o)
third_of_four [] item r four is read = absurd (omega (arith, four))
third_of_four (a ∷ []) item r four is read = absurd (omega (arith, four))
third_of_four (a ∷ b ∷ []) item r four is read = absurd (omega (arith, four))
third_of_four (a ∷ b ∷ d ∷ []) item r four is read = absurd (omega (arith, four))
third_of_four (a ∷ b ∷ d ∷ c ∷ x ∷ values) item r four is read = absurd (omega (arith, four))
third_of_four (a ∷ b ∷ d ∷ c ∷ []) item r four is read =
    third_read (view a.now) (view b.now) (view d.now) (view c.now) r (subst (λ (x : Bor Value). IfOk r (λ o. IsFound counts_value AreSomeLevels (view x.now) o)) is read)
