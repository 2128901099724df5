-- Words at the places of a command, one for each: each is taken at its place, and its row is among the matches.
use Rattle.std.proofs.Common.{◌≡◌, ◌==◌, ◌&&◌, ◌++◌, ℕ, Bool, true, false, not, List, [], ◌∷◌, Option, Some, None, fold, map, refl, sym, ap, subst, ◌∙◌, if◌then◌else◌}
use Rattle.std.proofs.lemmas.List.{append-nil, append_assoc}
use Rattle.std.proofs.lemmas.List.Folds.{find-append}
use Rattle.std.specs.List.{AllByRecursion, find, list_any}
use Rattle.std.specs.Option.{option_map_or}
use Rattle.std.specs.Str.{bytes_eq}
use Rattle.std.proofs.lemmas.Slice.Eq.{bytes_eq-Decides}
use Rattle.clap.proofs.WalkLemmas.{both}
use Rattle.clap.specs.Faults.{defaults_fault}
use Rattle.clap.specs.Simple.{Shape, filled_from}
use Rattle.clap.specs.Takes.{is_given}
use Rattle.clap.specs.ValueTests.{accepts}
use Rattle.clap.specs.Walk.{Held, Row, Rule, Text, arg_by_id, arg_by_index, has_row, with_default}
use Rattle.rp_command_line.proofs.KeptRows.{all_found, neither, not_true}
use Rattle.rp_command_line.proofs.PlainWords.{IsPlainWord}
use Rattle.rp_command_line.proofs.UsesTaken.{IsCalm, Leads, Place, next_index, or_true, place_leads, place_row, place_rule, placed, stays, then_leads}

-- no row has one of these names
abbrev pub AreFresh : List Text → List Row → Type 0
AreFresh ids rows = AllByRecursion (λ id. has_row id rows ≡ false) ids

-- no two are the same
abbrev pub are_apart : List Text → Bool
are_apart [] = true
are_apart (id ∷ ids) = not (list_any (λ other. bytes_eq id other) ids) && are_apart ids

pub fresh_both : (id : Text) (xs ys : List Row) → has_row id xs ≡ false → has_row id ys ≡ false → has_row id (xs ++ ys) ≡ false
fresh_both id [] ys none also = also
fresh_both id (x ∷ xs) ys none also = let apart = neither (bytes_eq x.id id) (has_row id xs) none in rw apart.0 (fresh_both id xs ys apart.1 also)

fresh_more : (ids : List Text) (rows : List Row) (r : Row) → AreFresh ids rows → list_any (λ other. bytes_eq r.id other) ids ≡ false → AreFresh ids (rows ++ r ∷ [])
fresh_more [] rows r fresh other = tt
fresh_more (id ∷ ids) rows r fresh other =
    let apart = neither (bytes_eq r.id id) (list_any (λ more. bytes_eq r.id more) ids) other in
    (fresh_both id rows (r ∷ []) fresh.0 (rw apart.0 refl), fresh_more ids rows r fresh.1 apart.1)

pub none_fresh : (ids : List Text) → AreFresh ids []
none_fresh [] = tt
none_fresh (id ∷ ids) = (refl, none_fresh ids)

-- a row that was added is found, and stays so
pub new_found : (rows more : List Row) (r : Row) → has_row r.id rows ≡ false → find (λ x. bytes_eq x.id r.id) (rows ++ r ∷ more) ≡ Some r
new_found [] more r none = rw ((bytes_eq-Decides r.id r.id).1 refl) refl
new_found (x ∷ xs) more r none = let apart = neither (bytes_eq x.id r.id) (has_row r.id xs) none in rw apart.0 (new_found xs more r apart.1)

pub kept_found : (p : Row → Bool) (rows more : List Row) (r : Row) → find p rows ≡ Some r → find p (rows ++ more) ≡ Some r
kept_found p rows more r is = find-append p rows more ∙ rw is refl

pub none_found : (id : Text) (rows : List Row) → has_row id rows ≡ false → find (λ x. bytes_eq x.id id) rows ≡ None
none_found id [] none = refl
none_found id (x ∷ xs) none = let apart = neither (bytes_eq x.id id) (has_row id xs) none in rw apart.0 (none_found id xs apart.1)

pub same_if : {A : Type 0} (b : Bool) (x : A) → (if b then x else x) ≡ x
same_if true x = refl
same_if false x = refl

-- arguments of a sort, each with its place
module _ {X : Type 0} (place : X → Place) where
  abbrev pub name : X → Text
  name x = (place x).0

  abbrev pub rule : X → Rule
  rule x = place_rule (place x)

  -- the place after theirs
  abbrev pub after : ℕ → List X → ℕ
  after i [] = i
  after i (x ∷ xs) = after (next_index i) xs

  abbrev pub rows_for : List X → List Text → List Row
  rows_for (x ∷ xs) (word ∷ words) = place_row (place x) word ∷ rows_for xs words
  rows_for _ _ = []

  -- a word for each, which is no flag, and which its parser takes
  abbrev pub AreTakenAt : List X → List Text → Type 0
  AreTakenAt [] [] = Unit {0}
  AreTakenAt (x ∷ xs) (word ∷ words) = (IsPlainWord word × (accepts false (place x).1 word ≡ true)) × AreTakenAt xs words
  AreTakenAt _ _ = ⊥

  -- a row for each
  abbrev pub AreFound : List X → List Text → List Row → Type 0
  AreFound [] [] rows = Unit {0}
  AreFound (x ∷ xs) (word ∷ words) rows = (find (λ r. bytes_eq r.id (name x)) rows ≡ Some (place_row (place x) word)) × AreFound xs words rows
  AreFound _ _ rows = ⊥

  pub found_more : (xs : List X) (words : List Text) (rows more : List Row) → AreFound xs words rows → AreFound xs words (rows ++ more)
  found_more [] [] rows more found = tt
  found_more [] (word ∷ words) rows more found = absurd found
  found_more (x ∷ xs) [] rows more found = absurd found
  found_more (x ∷ xs) (word ∷ words) rows more found =
      (kept_found (λ r. bytes_eq r.id (name x)) rows more (place_row (place x) word) found.0, found_more xs words rows more found.1)

  pub all_are_found : (xs : List X) (words ids : List Text) (rows : List Row) → AreTakenAt xs words → are_apart (map name xs ++ ids) ≡ true → AreFresh (map name xs ++ ids) rows
      → AreFound xs words (rows ++ rows_for xs words)
  all_are_found [] [] ids rows taken apart fresh = tt
  all_are_found [] (word ∷ words) ids rows taken apart fresh = absurd taken
  all_are_found (x ∷ xs) [] ids rows taken apart fresh = absurd taken
  all_are_found (x ∷ xs) (word ∷ words) ids rows taken apart fresh =
      let r = place_row (place x) word in
      let parts = both (not (list_any (λ other. bytes_eq (name x) other) (map name xs ++ ids))) (are_apart (map name xs ++ ids)) apart in
      let later = all_are_found xs words ids (rows ++ r ∷ []) taken.1 parts.1 (fresh_more (map name xs ++ ids) rows r fresh.1 (not_true _ parts.0)) in
      (new_found rows (rows_for xs words) r fresh.0, subst (λ (all : List Row). AreFound xs words all) (append_assoc rows (r ∷ []) (rows_for xs words)) later)

  -- none of them is missed
  pub none_missed : (xs : List X) (words : List Text) (rows : List Row) (i : ℕ) (more : List Rule) → AreFound xs words rows
      → list_any (λ a. a.required && not (is_given a.id rows)) (filled_from (after i xs) more) ≡ false → list_any (λ a. a.required && not (is_given a.id rows)) (filled_from i (map rule xs ++ more)) ≡ false
  none_missed [] [] rows i more found none = none
  none_missed [] (word ∷ words) rows i more found none = absurd found
  none_missed (x ∷ xs) [] rows i more found none = absurd found
  none_missed (x ∷ xs) (word ∷ words) rows i more found none = rw found.0 (none_missed xs words rows (next_index i) more found.1 none)

  -- none of them has a default
  pub no_default_fails : (xs : List X) (i : ℕ) (more : List Rule) → ((rows : List Row) → defaults_fault rows (filled_from (after i xs) more) ≡ [])
      → (rows : List Row) → defaults_fault rows (filled_from i (map rule xs ++ more)) ≡ []
  unfolding defaults_fault
  no_default_fails [] i more none rows = none rows
  no_default_fails (x ∷ xs) i more none rows =
      rw (or_true (has_row (name x) rows)) (no_default_fails xs (next_index i) more none (with_default rows (placed i (place x))))

  pub no_default_comes : (xs : List X) (i : ℕ) (more : List Rule) (rows : List Row) → fold with_default rows (filled_from i (map rule xs ++ more)) ≡ fold with_default rows (filled_from (after i xs) more)
  no_default_comes [] i more rows = refl
  no_default_comes (x ∷ xs) i more rows =
      ap (λ (now : List Row). fold with_default now (filled_from (next_index i) (map rule xs ++ more))) (same_if (has_row (name x) rows) rows)
      ∙ no_default_comes xs (next_index i) more rows

  module _ (c : List Rule) where
    -- each is found at its place and by its name
    abbrev pub AreAt : ℕ → List X → Type 0
    AreAt i [] = Unit {0}
    AreAt i (x ∷ xs) = ((arg_by_index c i ≡ Some (placed i (place x))) × (arg_by_id c (name x) ≡ Some (placed i (place x)))) × AreAt (next_index i) xs

    -- the test of it, by their names
    abbrev pub are_at : ℕ → List X → Bool
    are_at i [] = true
    are_at i (x ∷ xs) = option_map_or (λ a. bytes_eq a.id (name x)) (arg_by_index c i) false && are_at (next_index i) xs

    abbrev pub AreOwn : List Rule → Type 0
    AreOwn = AllByRecursion (λ b. arg_by_id c b.id ≡ Some b)

    module _ (own : AreOwn c) where
      at_place : (i : ℕ) (x : X) (found : Option Rule) → arg_by_index c i ≡ found → option_map_or (λ a. bytes_eq a.id (name x)) found false ≡ true
          → arg_by_id c (name x) ≡ Some (placed i (place x)) → arg_by_index c i ≡ Some (placed i (place x))
      at_place i x None is same mine = cc
      at_place i x (Some r) is same mine =
          let named : r.id ≡ name x = (bytes_eq-Decides r.id (name x)).0 same in
          let its : arg_by_id c r.id ≡ Some r = all_found (λ b. arg_by_id c b.id ≡ Some b) (λ a. option_map_or (λ k. k == i) a.index false) r c own is in
          is ∙ sym its ∙ ap (arg_by_id c) named ∙ mine

      pub all_at : (i : ℕ) (xs : List X) (more : List Rule) → AreOwn (filled_from i (map rule xs ++ more)) → are_at i xs ≡ true → AreAt i xs × AreOwn (filled_from (after i xs) more)
      all_at i [] more each test = (tt, each)
      all_at i (x ∷ xs) more each test =
          let tests = both (option_map_or (λ a. bytes_eq a.id (name x)) (arg_by_index c i) false) (are_at (next_index i) xs) test in
          let later = all_at (next_index i) xs more each.1 tests.1 in
          (((at_place i x (arg_by_index c i) refl tests.0 each.0, each.0), later.0), later.1)

  module _ (s : Shape) where
    pub all_lead : (xs : List X) (words ids : List Text) (i : ℕ) (h : Held) (rows : List Row) → AreAt s.rules i xs → AreTakenAt xs words → are_apart (map name xs ++ ids) ≡ true
        → AreFresh (map name xs ++ ids) rows → IsCalm s h rows → Leads s i h words (after i xs) (rows ++ rows_for xs words) × AreFresh ids (rows ++ rows_for xs words)
    all_lead [] [] ids i h rows at taken apart fresh calm = rw (append-nil rows) (stays s i h rows calm, fresh)
    all_lead [] (word ∷ words) ids i h rows at taken apart fresh calm = absurd taken
    all_lead (x ∷ xs) [] ids i h rows at taken apart fresh calm = absurd taken
    all_lead (x ∷ xs) (word ∷ words) ids i h rows at taken apart fresh calm =
        let r = place_row (place x) word in
        let parts = both (not (list_any (λ other. bytes_eq (name x) other) (map name xs ++ ids))) (are_apart (map name xs ++ ids)) apart in
        let first = place_leads s i h rows calm (place x) word taken.0.0 at.0.0 at.0.1 taken.0.1 fresh.0 in
        let later = all_lead xs words ids (next_index i) first.held (rows ++ r ∷ []) at.1 taken.1 parts.1 (fresh_more (map name xs ++ ids) rows r fresh.1 (not_true _ parts.0)) first.calm in
        subst (λ (all : List Row). Leads s i h (word ∷ words) (after (next_index i) xs) all × AreFresh ids all) (append_assoc rows (r ∷ []) (rows_for xs words))
        (then_leads s i (next_index i) (after (next_index i) xs) h (word ∷ []) words (rows ++ r ∷ []) ((rows ++ r ∷ []) ++ rows_for xs words) first later.0, later.1)
