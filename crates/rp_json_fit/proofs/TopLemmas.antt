-- The top of a certificate: its members by their names, and its version.
use Rattle.std.proofs.Common.{◌≡◌, ◌≢◌, ℕ, Bool, List, [], ◌∷◌, Option, Some, None, Result, IfOk, refl, sym, ap, subst, ◌∙◌, arith, codes}
use Rattle.serde_json.specs.Data.{Data, Items, Members, array, member, no_items, no_members, number, object, string, unsigned}
use Rattle.serde_json.specs.Find.{as_object}
use Rattle.serde_json.specs.View.{items_of}
use Rattle.rp_json_entries.specs.InnerMembers.{AreNamed, named}
use Rattle.rp_json_entries.proofs.ListLemmas.{same_items}
use Rattle.rp_json_entries.proofs.MemberLemmas.{is_object, same_object}
use Rattle.rp_json_fit.specs.FitDenoted.{HasNoShape, HasOtherVersion, IsFitTop}
use Rattle.rp_json_fit.specs.FitValue.{fit_top}
use Rattle.rp_json_fit.specs.InnerFitItems.{AreAllMembers}

some_same : {A : Type 0} (a b : A) → Some a ≡ Some b → a ≡ b
some_same a b e = search

-- ---- members by their names

abbrev pub three_names : List (List ℕ)
three_names = codes "items" ∷ codes "kind" ∷ codes "version" ∷ []

pub just_three : (ms : Members) (ds : List Data) → AreNamed three_names ms ds → (items : List Data) → IsFitTop 1 items (object ms) → object ms ≡ fit_top 1 items
just_three ms [] is = absurd (omega (arith, is.0))
just_three ms (a ∷ []) is = absurd (omega (arith, is.0))
just_three ms (a ∷ b ∷ []) is = absurd (omega (arith, is.0))
just_three ms (a ∷ b ∷ c ∷ d ∷ ds) is = absurd (omega (arith, is.0))
just_three ms (a ∷ b ∷ c ∷ []) is = whole
  where
    whole : (items : List Data) → IsFitTop 1 items (object ms) → object ms ≡ fit_top 1 items
    whole items top =
        let moved : IsFitTop 1 items (object (named three_names (a ∷ b ∷ c ∷ []))) = subst (λ m. IsFitTop 1 items (object m)) (sym is.1) top in
        let ea = some_same a (array (items_of items)) moved.has_items in
        let eb = some_same b (string (codes "fit")) moved.has_kind in
        let ec = some_same c (number (unsigned 1)) moved.has_version in
        sym (ap object is.1) ∙ (λ i. object (member (codes "items") (ea i) (member (codes "kind") (eb i) (member (codes "version") (ec i) no_members))))

pub not_three : (ms : Members) → ((ds : List Data) → ¬ AreNamed three_names ms ds) → (items : List Data) → object ms ≢ fit_top 1 items
not_three ms none items e = none (array (items_of items) ∷ string (codes "fit") ∷ number (unsigned 1) ∷ []) (refl, sym (same_object _ _ e))

-- where the value is an object
pub members_of_object : {E : Type 0} (d : Data) (ms : Members) (r : Result Bool E) → Some ms ≡ as_object d
    → IfOk r (λ yes. AreAllMembers (object ms) yes) → IfOk r (λ yes. AreAllMembers d yes)
members_of_object d ms r at read = subst (λ x. IfOk r (λ yes. AreAllMembers x yes)) (sym (is_object d ms at)) read

pub no_object : (d : Data) → as_object d ≡ None → (items : List Data) → d ≢ fit_top 1 items
no_object d none items e = absurd (let q : Some (member (codes "items") (array (items_of items)) (member (codes "kind") (string (codes "fit")) (member (codes "version") (number (unsigned 1)) no_members))) ≡ None = sym (ap as_object e) ∙ none in cc)

-- ---- one list of values, one version

abbrev items_in : Data → Items
items_in (object (member name (array items) ms)) = items
items_in _ = no_items

pub same_top : (xs ys : List Data) → fit_top 1 xs ≡ fit_top 1 ys → xs ≡ ys
same_top xs ys e = same_items xs ys (ap items_in e)

-- a certificate's value is a top
pub top_there : (version : ℕ) (items : List Data) → IsFitTop version items (fit_top version items)
top_there version items = record { has_items = refl; has_kind = refl; has_version = refl }

abbrev number_in : Option Data → ℕ
number_in (Some (number (unsigned n))) = n
number_in _ = 0

-- what has a shape has no other version
pub no_other_version : (items : List Data) (d : Data) → d ≡ fit_top 1 items → ¬ HasOtherVersion d
no_other_version items d e (v, others, top, not1) =
    let there : IsFitTop 1 items d = subst (IsFitTop 1 items) (sym e) (top_there 1 items) in
    not1 (ap number_in (sym top.has_version ∙ there.has_version))

-- without items, the kind or a version there is no shape
pub no_top : (d : Data) → ((version : ℕ) (items : List Data) → ¬ IsFitTop version items d) → HasNoShape d × ¬ HasOtherVersion d
no_top d none = (
  λ items e. none 1 items (subst (IsFitTop 1 items) (sym e) (top_there 1 items)),
  λ other. none other.0 other.1 other.2,
)

-- other members than those of a certificate of version 1
pub other_members : (d : Data) (items : List Data) → IsFitTop 1 items d → ((others : List Data) → d ≢ fit_top 1 others) → HasNoShape d × ¬ HasOtherVersion d
other_members d items top none = (none, λ other. other.3 (ap number_in (sym other.2.has_version ∙ top.has_version)))
