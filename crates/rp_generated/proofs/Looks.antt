-- What a search looks at: each step is a look at a patch after a beginning, and looks differ, since two of them differ in
-- the patch of the budget at which they part, or in how many patches they have.
use Rattle.std.proofs.lemmas.Bool.{cases_lt}
use Rattle.std.proofs.Common.{inl, inr, ◌⊎◌, ◌≡◌, ◌≢◌, ℕ, zero, suc, ◌+◌, ◌<◌, ◌≤◌, List, [], ◌∷◌, ◌++◌, All, length, length-append, slice_index, ap, refl, sym, subst, ◌∙◌, arith}
use Rattle.std.specs.List.{AllPairs, insert}
use Rattle.std.specs.Prelude.{⊤, IfOk, Result, Ok, Err}
use Rattle.std.proofs.lemmas.List.Sums.{sum_by-cons}
use Rattle.rp_patch.specs.PartialTypes.{Begins, IsPartialType, taken_in}
use Rattle.rp_patch.specs.Patches.{PatchList, budget_at}
use Rattle.rp_patch.specs.declared.partial_type.PartialType.{PartialType}
use Rattle.rp_patch.specs.Types.{IsRationalType}
use Rattle.rp_patch.proofs.SearchLaws.{begins_at, begins_itself}
use Rattle.rp_generated.specs.InnerLooks.{Apart, AreFirst, ArePatchesOn, Each, IsBefore, IsDecided, IsLookUnder, LookedBelow, LookedFrom, LookedUnder, NoneBegins, WereMadeIn}
use Rattle.rp_generated.specs.Rounds.{HasEnded, HasNothingToShow, IsFirstProgram, ShowsNoWeights}
use Rattle.rp_whole_tableau.specs.declared.grown.Grown.{Grown}
use Rattle.rp_generated.specs.Steps.{AreSpent, HasFound, HasNoRationalType, IsLook, IsSearch, IsWithheldAfter, SomeHasFound}
use Rattle.rp_generated.specs.declared.looked.Lightest.{Lightest}

-- ---- lists

module _ {X : Type 0} where
  pub each_append : (P : X → Type 0) (xs ys : List X) → Each P xs → Each P ys → Each P (xs ++ ys)
  each_append P [] ys here there = there
  each_append P (x ∷ xs) ys here there = (here.0, each_append P xs ys here.1 there)

  pub each_so : (P Q : X → Type 0) → ((x : X) → P x → Q x) → (xs : List X) → Each P xs → Each Q xs
  each_so P Q so [] each = tt
  each_so P Q so (x ∷ xs) each = (so x each.0, each_so P Q so xs each.1)

  pub each_insert : (P : X → Type 0) (k : ℕ) (y : X) (xs : List X) → Each P xs → P y → Each P (insert xs k y)
  each_insert P zero y xs each is = (is, each)
  each_insert P (suc k) y [] each is = (is, tt)
  each_insert P (suc k) y (x ∷ xs) each is = (each.0, each_insert P k y xs each.1 is)

  pub apart_insert : (k : ℕ) (y : X) (xs : List X) → Apart xs → Each (λ x. x ≢ y) xs → Apart (insert xs k y)
  apart_insert zero y xs apart other = (each_so (λ x. x ≢ y) (λ x. y ≢ x) (λ x other e. other (sym e)) xs other, apart)
  apart_insert (suc k) y [] apart other = (tt, tt)
  apart_insert (suc k) y (x ∷ xs) apart other = (each_insert (λ z. x ≢ z) k y xs apart.0 other.0, apart_insert k y xs apart.1 other.1)

  pub apart_append : (xs ys : List X) → Apart xs → Apart ys → Each (λ x. Each (λ y. x ≢ y) ys) xs → Apart (xs ++ ys)
  apart_append [] ys here there across = there
  apart_append (x ∷ xs) ys here there across = (each_append (λ z. x ≢ z) xs ys here.0 across.0, apart_append xs ys here.1 there across.1)

  pub each_at : (P : X → Type 0) (xs : List X) → Each P xs → All P xs
  each_at P [] each k d l = absurd (omega (arith, l))
  each_at P (x ∷ xs) each zero d l = each.0
  each_at P (x ∷ xs) each (suc k) d l = each_at P xs each.1 k d (omega (arith, l))

  pub apart_pairs : (xs : List X) → Apart xs → AllPairs (λ x y. x ≢ y) xs
  apart_pairs [] apart i j d less l = absurd (omega (arith, l))
  apart_pairs (x ∷ xs) apart zero zero d less l = absurd (omega (arith, less))
  apart_pairs (x ∷ xs) apart zero (suc j) d less l = each_at (λ y. x ≢ y) xs apart.0 j d (omega (arith, l))
  apart_pairs (x ∷ xs) apart (suc i) zero d less l = absurd (omega (arith, less))
  apart_pairs (x ∷ xs) apart (suc i) (suc j) d less l = apart_pairs xs apart.1 i j d (omega (arith, less)) (omega (arith, l))

  pub length_both : (xs ys : List X) → length (xs ++ ys) ≡ length xs + length ys
  length_both xs ys = length-append xs ys

-- what holds of each value holds of that in an `Ok`
pub if_ok : {A B : Type 0} (r : Result A B) (P : A → Type 0) → ((x : A) → P x) → IfOk r P
if_ok (Ok x) P all = all x
if_ok (Err e) P all = tt

-- ---- beginnings

begins_with : (look front rest : List ℕ) → Begins look (front ++ rest) → Begins look front
begins_with look [] rest begins = tt
begins_with [] (i ∷ front) rest begins = absurd begins
begins_with (j ∷ look) (i ∷ front) rest begins = (begins.0, begins_with look front rest begins.1)

last_of : (front : List ℕ) (i : ℕ) → slice_index (front ++ i ∷ []) (length front) ≡ i
last_of [] i = refl
last_of (j ∷ front) i = last_of front i

longer_length : (front : List ℕ) (i : ℕ) → length (front ++ i ∷ []) ≡ length front + 1
longer_length front i = length_both front (i ∷ [])

-- the patch of the next budget of what begins so
next_of : (look front : List ℕ) (i : ℕ) → Begins look (front ++ i ∷ []) → slice_index look (length front) ≡ i
next_of look front i begins =
    begins_at look (front ++ i ∷ []) begins (length front) (omega (arith, longer_length front i)) ∙ last_of front i

-- ---- steps

found_before : (p : PatchList) (looks more : List (List ℕ)) → HasFound p looks → HasFound p (looks ++ more)
found_before p [] more found = absurd found
found_before p (look ∷ looks) more found = elim found [ inl it ↦ inl it | inr later ↦ inr (found_before p looks more later) ]

found_after : (p : PatchList) (looks more : List (List ℕ)) → HasFound p more → HasFound p (looks ++ more)
found_after p [] more found = found
found_after p (look ∷ looks) more found = inr (found_after p looks more found)

abbrev none_looked : (p : PatchList) (front : List ℕ) (from had : ℕ) → LookedUnder p front from from had had
none_looked p front from had = record { looks = []; each = tt; apart = tt; count = omega arith; found = λ l. absurd (omega (arith, l)) }

pub start_looking : (p : PatchList) (front : List ℕ) (pick : ℕ → ℕ) (n from had : ℕ) → LookedBelow p front pick n 0 from from had had
start_looking p front pick n from had = record { under = none_looked p front from had; before = tt }

-- a rational type is found without a look where it is the beginning
pub whole_found : (p : PatchList) (front : List ℕ) (from to had has : ℕ) → to ≡ from → IsRationalType p front → LookedUnder p front from to had has
whole_found p front from to had has same rational = record { looks = []; each = tt; apart = tt; count = omega (arith, same); found = λ l. inl rational }

-- no look at the patch at a place
pub passed_over : (p : PatchList) (front : List ℕ) (pick : ℕ → ℕ) (n k from to had has : ℕ) → LookedBelow p front pick n k from to had has → LookedBelow p front pick n (k + 1) from to had has
passed_over p front pick n k from to had has so_far = record {
  under = so_far.under;
  before = each_so (IsBefore front pick n k) (IsBefore front pick n (k + 1)) (λ look before m after inside. before m (omega (arith, after)) inside) so_far.under.looks so_far.before;
}

-- the patch at place k is looked at after the beginning, and then what begins with it
module _ (p : PatchList) (front : List ℕ) (pick : ℕ → ℕ) (n k from mid had kept : ℕ) (within : k < n) (apart : (m : ℕ) → k < m → m < n → pick k ≢ pick m) (is : IsLook p (front ++ pick k ∷ [])) (so_far : LookedBelow p front pick n k from mid had kept) where
  abbrev i : ℕ
  i = pick k

  abbrev look : List ℕ
  look = front ++ i ∷ []

  module _ (to has : ℕ) (below : LookedUnder p look (mid + 1) to kept has) where
    abbrev At : List ℕ → Type 0
    At l = slice_index l (length front) ≡ i

    here_at : At look
    here_at = last_of front i

    at_below : Each At below.looks
    at_below = each_so (IsLookUnder p look) At (λ l under. next_of l front i under.1) below.looks below.each

    all_at : Each At (look ∷ below.looks)
    all_at = (here_at, at_below)

    differ : (l other : List ℕ) → slice_index l (length front) ≢ i → At other → l ≢ other
    differ l other elsewhere at same = elsewhere (ap (λ z. slice_index z (length front)) same ∙ at)

    across : Each (λ l. Each (λ other. l ≢ other) (look ∷ below.looks)) so_far.under.looks
    across =
        each_so (IsBefore front pick n k) (λ l. Each (λ other. l ≢ other) (look ∷ below.looks))
        (λ l before. each_so At (λ other. l ≢ other) (λ other at. differ l other (before k (omega arith) within) at) (look ∷ below.looks) all_at)
        so_far.under.looks so_far.before

    longer : Each (λ other. look ≢ other) below.looks
    longer =
        each_so (IsLookUnder p look) (λ other. look ≢ other) (λ other under same. let e = ap length same in let l = under.2 in absurd (omega (arith, e, l))) below.looks below.each

    under_front : (l : List ℕ) → IsLookUnder p look l → IsLookUnder p front l
    under_front l under = let e = longer_length front i in let m = under.2 in (under.0, begins_with l front (i ∷ []) under.1, omega (arith, e, m))

    here_under : IsLookUnder p front look
    here_under = let e = longer_length front i in (is, begins_with look front (i ∷ []) (begins_itself look), omega (arith, e))

    later : (l : List ℕ) → At l → IsBefore front pick n (k + 1) l
    later l at m after inside same = apart m (omega (arith, after)) inside (sym at ∙ same)

    found_on : had < has → IsRationalType p front ⊎ HasFound p (so_far.under.looks ++ look ∷ below.looks)
    found_on more = elim (cases_lt had kept) [
      | inl l ↦ elim (so_far.under.found l) [
        | inl whole ↦ inl whole
        | inr found ↦ inr (found_before p so_far.under.looks (look ∷ below.looks) found)
      ]
      | inr m ↦ inr (found_after p so_far.under.looks (look ∷ below.looks) (below.found (omega (arith, m, more))))
    ]

    pub looked_on : LookedBelow p front pick n (k + 1) from to had has
    looked_on = record {
      under = record {
        looks = so_far.under.looks ++ look ∷ below.looks;
        each = each_append (IsLookUnder p front) so_far.under.looks (look ∷ below.looks) so_far.under.each (here_under, each_so (IsLookUnder p look) (IsLookUnder p front) under_front below.looks below.each);
        apart = apart_append so_far.under.looks (look ∷ below.looks) so_far.under.apart (longer, below.apart) across;
        count = let e = length_both so_far.under.looks (look ∷ below.looks) in let a = so_far.under.count in let b = below.count in omega (arith, e, a, b);
        found = found_on;
      };
      before = each_append (IsBefore front pick n (k + 1)) so_far.under.looks (look ∷ below.looks)
          (each_so (IsBefore front pick n k) (IsBefore front pick n (k + 1))
          (λ l before m after inside. before m (omega (arith, after)) inside) so_far.under.looks so_far.before)
          (each_so At (IsBefore front pick n (k + 1)) later (look ∷ below.looks) all_at);
    }

  pub looked_once : LookedBelow p front pick n (k + 1) from (mid + 1) had kept
  looked_once = looked_on (mid + 1) kept (none_looked p look (mid + 1) kept)

-- a patch of the next budget is looked at after a partial type
pub is_look : (p : PatchList) (part : PartialType) (i : ℕ) → IsPartialType p part → i < length p.patches → budget_at p i ≡ part.taken → IsLook p (taken_in part ++ i ∷ [])
is_look p part i is inside on = record {
  begun = taken_in part;
  patch = i;
  is = refl;
  on_budgets = λ j l. is.0.on_its_budget j (omega (arith, l, is.0.count));
  rational = is.1;
  inside = inside;
  next = on ∙ sym is.0.count;
}

listed_look : (p : PatchList) (part : PartialType) (list : List ℕ) (k : ℕ) → IsPartialType p part → ArePatchesOn p part.taken list → k < length list → IsLook p (taken_in part ++ slice_index list k ∷ [])
listed_look p part list k is on within =
    is_look p part (slice_index list k) is (each_at (λ i. i < length p.patches) list on.inside k 0 within) (each_at (λ i. budget_at p i ≡ part.taken) list on.on_budget k 0 within)

listed_apart : (p : PatchList) (j : ℕ) (list : List ℕ) (k : ℕ) → ArePatchesOn p j list → (m : ℕ) → k < m → m < length list → slice_index list k ≢ slice_index list m
listed_apart p j list k on m after inside = apart_pairs list on.apart k m 0 after inside

-- what the search through a longer type did, under the names that the goals have
abbrev renamed : (p : PatchList) (front wanted : List ℕ) (made mid to had has kept : ℕ) → made ≡ mid + 1 → front ≡ wanted → had ≡ kept → LookedUnder p front made to had has → LookedUnder p wanted (mid + 1) to kept has
renamed p front wanted made mid to had has kept counted same still_is under =
    subst (λ (h : ℕ). LookedUnder p wanted (mid + 1) to h has) still_is (subst (λ (f : List ℕ). LookedUnder p f (mid + 1) to had has) same (subst (λ (n : ℕ). LookedUnder p front n to had has) counted under))

-- with what the search through the longer type has looked at
pub next_looked : (p : PatchList) (part : PartialType) (list : List ℕ) (k from mid to had kept has : ℕ) → k < length list → ArePatchesOn p part.taken list → IsPartialType p part → LookedBelow p (taken_in part) (slice_index list) (length list) k from mid had kept
    → (front : List ℕ) (made still : ℕ) → made ≡ mid + 1 → front ≡ taken_in part ++ slice_index list k ∷ [] → still ≡ kept → LookedUnder p front made to still has → LookedBelow p (taken_in part) (slice_index list) (length list) (k + 1) from to had has
next_looked p part list k from mid to had kept has within on is so_far front made still counted same still_is under =
    looked_on p (taken_in part) (slice_index list) (length list) k from mid had kept within (listed_apart p part.taken list k on) (listed_look p part list k is on within) so_far to has
    (renamed p front _ made mid to still has kept counted same still_is under)

pub next_none : (p : PatchList) (part : PartialType) (list : List ℕ) (k from mid had kept : ℕ) → k < length list → ArePatchesOn p part.taken list → IsPartialType p part → LookedBelow p (taken_in part) (slice_index list) (length list) k from mid had kept
    → (made still : ℕ) → made ≡ mid + 1 → still ≡ kept → LookedBelow p (taken_in part) (slice_index list) (length list) (k + 1) from made had still
next_none p part list k from mid had kept within on is so_far made still counted still_is =
    subst (λ (h : ℕ). LookedBelow p (taken_in part) (slice_index list) (length list) (k + 1) from made had h) (sym still_is)
    (subst (λ (n : ℕ). LookedBelow p (taken_in part) (slice_index list) (length list) (k + 1) from n had kept) (sym counted)
    (looked_once p (taken_in part) (slice_index list) (length list) k from mid had kept within (listed_apart p part.taken list k on) (listed_look p part list k is on within) so_far))

-- ---- the search that leaves out nothing

abbrev itself : ℕ → ℕ
itself i = i

itself_apart : (k : ℕ) → (m : ℕ) → k < m → itself k ≢ itself m
itself_apart k m after same = absurd (omega (arith, after, same))

pub plain_looked : (p : PatchList) (part : PartialType) (n k from mid to had kept has : ℕ) → k < n → k < length p.patches → budget_at p k ≡ part.taken → IsPartialType p part → LookedBelow p (taken_in part) itself n k from mid had kept
    → (front : List ℕ) (made still : ℕ) → made ≡ mid + 1 → front ≡ taken_in part ++ k ∷ [] → still ≡ kept → LookedUnder p front made to still has → LookedBelow p (taken_in part) itself n (k + 1) from to had has
plain_looked p part n k from mid to had kept has within inside on is so_far front made still counted same still_is under =
    looked_on p (taken_in part) itself n k from mid had kept within (λ m after l. itself_apart k m after) (is_look p part k is inside on) so_far to has
    (renamed p front _ made mid to still has kept counted same still_is under)

pub plain_none : (p : PatchList) (part : PartialType) (n k from mid had kept : ℕ) → k < n → k < length p.patches → budget_at p k ≡ part.taken → IsPartialType p part → LookedBelow p (taken_in part) itself n k from mid had kept
    → (made still : ℕ) → made ≡ mid + 1 → still ≡ kept → LookedBelow p (taken_in part) itself n (k + 1) from made had still
plain_none p part n k from mid had kept within inside on is so_far made still counted still_is =
    subst (λ (h : ℕ). LookedBelow p (taken_in part) itself n (k + 1) from made had h) (sym still_is)
    (subst (λ (m : ℕ). LookedBelow p (taken_in part) itself n (k + 1) from m had kept) (sym counted)
    (looked_once p (taken_in part) itself n k from mid had kept within (λ m after l. itself_apart k m after) (is_look p part k is inside on) so_far))

-- one patch more is decided
pub decided_next : (p : PatchList) (front : List ℕ) (i : ℕ) → ((h : ℕ) → h < i → NoneBegins p (front ++ h ∷ [])) → NoneBegins p (front ++ i ∷ []) → (h : ℕ) → h < i + 1 → NoneBegins p (front ++ h ∷ [])
decided_next p front i so_far here h l = elim (cases_lt h i) [ inl before ↦ so_far h before | inr after ↦ (let same : i ≡ h = omega (arith, l, after) in subst (λ (g : ℕ). NoneBegins p (front ++ g ∷ [])) same here) ]

pub begins_longer : (type front : List ℕ) → Begins type front → length front < length type → Begins type (front ++ slice_index type (length front) ∷ [])
begins_longer [] front h l = absurd (omega (arith, l))
begins_longer (j ∷ type) [] h l = (refl, tt)
begins_longer (j ∷ type) (i ∷ front) h l = (h.0, begins_longer type front h.1 (omega (arith, l)))

-- where all patches are decided, so is the beginning
pub all_decided : (p : PatchList) (front : List ℕ) → length front < p.budgets → ((h : ℕ) → h < length p.patches → NoneBegins p (front ++ h ∷ [])) → NoneBegins p front
all_decided p front short none type rational begins =
    none (slice_index type (length front)) (rational.0.patch (length front) short) type rational (begins_longer type front begins (omega (arith, short, rational.0.one_each)))

-- ---- the patches of each budget

pub patch_added : (p : PatchList) (j n at : ℕ) (list : List ℕ) → ArePatchesOn p j list → Each (λ i. i < n) list → n < length p.patches → budget_at p n ≡ j → ArePatchesOn p j (insert list at n)
patch_added p j n at list are below inside on = record {
  inside = each_insert (λ i. i < length p.patches) at n list are.inside inside;
  on_budget = each_insert (λ i. budget_at p i ≡ j) at n list are.on_budget on;
  apart = apart_insert at n list are.apart (each_so (λ i. i < n) (λ i. i ≢ n) (λ i l e. absurd (omega (arith, l, e))) list below);
}

-- ---- rounds

abbrev Searches : Type 0
Searches = List (List (List ℕ))

is_search : (p : PatchList) (front : List ℕ) (from to had has : ℕ) (under : LookedUnder p front from to had has) → IsSearch p under.looks
is_search p front from to had has under = record {
  each = each_at (IsLook p) under.looks (each_so (IsLookUnder p front) (IsLook p) (λ look is. is.0) under.looks under.each);
  once = apart_pairs under.looks under.apart;
}

-- one search more
pub search_made : (p : PatchList) (most many made more had has : ℕ) (Also Next : Searches → Type 0) (so_far : WereMadeIn p most many made Also) (under : LookedUnder p [] made more had has) → more ≤ most
    → (Also so_far.searches → Next (under.looks ∷ so_far.searches)) → WereMadeIn p most (many + 1) more Next
search_made p most many made more had has Also Next so_far under within so = record {
  searches = under.looks ∷ so_far.searches;
  few = let l = so_far.few in omega (arith, l);
  each = (is_search p [] made more had has under, so_far.each);
  looks = let e = sum_by-cons (λ (looks : List (List ℕ)). length looks) under.looks so_far.searches in let a = so_far.looks in let b = under.count in omega (arith, e, a, b);
  within = within;
  also = so so_far.also;
}

no_search : (p : PatchList) (most : ℕ) → WereMadeIn p most 0 0 (λ searches. searches ≡ [])
no_search p most = record { searches = []; few = omega arith; each = tt; looks = refl; within = omega arith; also = refl }

more_searches : (p : PatchList) (most many more made : ℕ) (Also Next : Searches → Type 0) → many ≤ more → ((searches : Searches) → Also searches → Next searches) → WereMadeIn p most many made Also → WereMadeIn p most more made Next
more_searches p most many more made Also Next l so is = record { searches = is.searches; few = let few = is.few in omega (arith, few, l); each = is.each; looks = is.looks; within = is.within; also = so is.searches is.also }

found_type : (p : PatchList) (from to has : ℕ) → 1 ≤ p.budgets → (under : LookedUnder p [] from to 0 has) → 0 < has → HasFound p under.looks
found_type p from to has some under more = elim (under.found more) [ inl whole ↦ (let e = whole.0.one_each in absurd (omega (arith, e, some))) | inr found ↦ found ]

-- the search with prices is the only one
pub one_search : (p : PatchList) (most : ℕ) (light : Lightest) → 1 ≤ p.budgets → LookedFrom p 0 light → light.steps ≤ most → (length light.types.items ≡ 0 → AreSpent most light.steps ⊎ HasNoRationalType p) → AreFirst p most light
one_search p most light some under within decided = record {
  made = more_searches p most 1 2 light.steps _ _ (omega arith) (λ searches also. also)
      (search_made p most 0 0 light.steps 0 (length light.types.items) (λ searches. searches ≡ []) (λ searches. 0 < length light.types.items → SomeHasFound p searches) (no_search p most) under within
      (λ none more. inl (found_type p 0 light.steps (length light.types.items) some under more)));
  decided = decided;
}

-- and that which leaves out nothing comes after it
pub two_searches : (p : PatchList) (most : ℕ) (first light : Lightest) → 1 ≤ p.budgets → LookedFrom p 0 first → first.steps ≤ most → LookedFrom p first.steps light → light.steps ≤ most → (length light.types.items ≡ 0 → AreSpent most light.steps ⊎ HasNoRationalType p) → AreFirst p most light
two_searches p most first light some before before_within under within decided = record {
  made = search_made p most 1 first.steps light.steps 0 (length light.types.items) (λ searches. ⊤) (λ searches. 0 < length light.types.items → SomeHasFound p searches)
      (search_made p most 0 0 first.steps 0 (length first.types.items) (λ searches. searches ≡ []) (λ searches. ⊤) (no_search p most) before before_within (λ none. tt)) under within
      (λ none more. inl (found_type p first.steps light.steps (length light.types.items) some under more));
  decided = decided;
}

no_type : (p : PatchList) (most : ℕ) (light : Lightest) → light.most ≡ most → IsDecided p [] light → length light.types.items ≡ 0 → AreSpent most light.steps ⊎ HasNoRationalType p
no_type p most light same decided none = elim (decided none) [ inl spent ↦ inl (spent ∙ same) | inr lacking ↦ inr (λ type rational. lacking type rational tt) ]

steps_within : (most : ℕ) (light : Lightest) → light.most ≡ most → light.steps ≤ most
steps_within most light same = let few = light.few in omega (arith, few, same)

-- the search that leaves out nothing is the only one
pub plain_alone : {E : Type 0} (p : PatchList) (most : ℕ) (r : Result Lightest E) → 1 ≤ p.budgets → IfOk r (LookedFrom p 0) → IfOk r (λ light. light.most ≡ most) → IfOk r (IsDecided p []) → IfOk r (AreFirst p most)
plain_alone p most (Ok light) some under same decided = one_search p most light some under (steps_within most light same) (no_type p most light same decided)
plain_alone p most (Err e) some under same decided = tt

pub plain_after : {E : Type 0} (p : PatchList) (most : ℕ) (first : Lightest) (r : Result Lightest E) → 1 ≤ p.budgets → LookedFrom p 0 first → first.steps ≤ most → IfOk r (LookedFrom p first.steps) → IfOk r (λ light. light.most ≡ most) → IfOk r (IsDecided p []) → IfOk r (AreFirst p most)
plain_after p most first (Ok light) some before within under same decided = two_searches p most first light some before within under (steps_within most light same) (no_type p most light same decided)
plain_after p most first (Err e) some before within under same decided = tt

pub begun_by : (p : PatchList) (most : ℕ) (light : Lightest) → AreFirst p most light → 0 < length light.types.items → WereMadeIn p most 2 light.steps (SomeHasFound p)
begun_by p most light first more = more_searches p most 2 2 light.steps _ (SomeHasFound p) (omega arith) (λ searches also. also more) first.made

pub round_made : (p : PatchList) (most rounds made more has : ℕ) → WereMadeIn p most rounds made (SomeHasFound p) → LookedUnder p [] made more 0 has → more ≤ most → WereMadeIn p most (rounds + 1) more (SomeHasFound p)
round_made p most rounds made more has so_far under within = search_made p most rounds made more 0 has (SomeHasFound p) (SomeHasFound p) so_far under within (λ found. inr found)

withheld : (p : PatchList) (most many made : ℕ) (Also : Searches → Type 0) (is : WereMadeIn p most many made Also) → many ≤ 65537 → AreSpent most made ⊎ (HasNothingToShow p most made ⊎ (SomeHasFound p is.searches × HasEnded p most made)) → IsWithheldAfter p most made
withheld p most many made Also is few cause = record {
  searches = is.searches;
  rounds = let l = is.few in omega (arith, few, l);
  each = each_at (IsSearch p) is.searches is.each;
  looks = is.looks;
  within = is.within;
  cause = cause;
}

pub withheld_found : (p : PatchList) (most rounds made : ℕ) → rounds ≤ 65537 → WereMadeIn p most rounds made (SomeHasFound p) → HasEnded p most made → IsWithheldAfter p most made
withheld_found p most rounds made few is ended = withheld p most rounds made (SomeHasFound p) is few (inr (inr (is.also, ended)))

pub withheld_spent : (p : PatchList) (most rounds made : ℕ) → rounds ≤ 65537 → WereMadeIn p most rounds made (SomeHasFound p) → AreSpent most made → IsWithheldAfter p most made
withheld_spent p most rounds made few is spent = withheld p most rounds made (SomeHasFound p) is few (inl spent)

pub spent_first : (p : PatchList) (most : ℕ) (light : Lightest) → AreFirst p most light → AreSpent most light.steps → IsWithheldAfter p most light.steps
spent_first p most light first spent = withheld p most 2 light.steps _ first.made (omega arith) (inl spent)

pub withheld_none : (p : PatchList) (most : ℕ) (light : Lightest) (g : Grown) → AreFirst p most light → length light.types.items ≡ 0 → IsFirstProgram p g → ShowsNoWeights p most light.steps g → IsWithheldAfter p most light.steps
withheld_none p most light g first none program nothing = withheld p most 2 light.steps _ first.made (omega arith) (elim (first.decided none) [
  | inl spent ↦ inl spent
  | inr lacking ↦ inr (inl (record { none = lacking; program = g; first = program; nothing = nothing }))
])
