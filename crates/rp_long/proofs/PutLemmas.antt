-- One more record among the groups, by a set of ids and a list of rows.
use Rattle.std.proofs.Common.{◌≡◌, ℕ, suc, ◌+◌, ◌<◌, Bool, true, false, ◌||◌, List, [], ◌∷◌, ◌++◌, length, map, get_or, set, Vec, Global, Bor, refl, sym, ap, ◌∙◌, arith}
use Rattle.std.specs.List.{list_any, position_or_len}
use Rattle.std.specs.Str.{bytes_eq}
use Rattle.std.proofs.lemmas.List.{get_or-map, get_or_push, length-map, map-set, map_push}
use Rattle.indexmap.specs.IndexSet.{insert_key}
use Rattle.rp_long.specs.Ids.{Grouped, joined_at, with_member}
use Rattle.rp_long.specs.declared.fault.Unnamed.{Unnamed}
use Rattle.rp_long.proofs.HeaderLemmas.{any_now, index_now, known_key, new_key, texts_of}

-- the rows of some vectors
abbrev pub lists_of : List (Vec ℕ Global) → List (List ℕ)
lists_of rows = map (λ r. r.items) rows

more : (n : ℕ) → 1 + n ≡ suc n
more n = omega arith

place_there : {X : Type 0} (p : X → Bool) (xs : List X) → list_any p xs ≡ true → position_or_len p xs < length xs
place_there p [] there = cc there
place_there p (x ∷ xs) there = by (p x) refl (place_there p xs)
  where
    rest : (b : Bool) → b ≡ false → (b || list_any p xs) ≡ true → list_any p xs ≡ true
    rest true e h = cc e
    rest false e h = h

    by : (b : Bool) → p x ≡ b → (list_any p xs ≡ true → position_or_len p xs < length xs) → position_or_len p (x ∷ xs) < suc (length xs)
    by true e before = rw e (omega arith)
    by false e before = let within = before (rest (p x) e there) in rw e (omega (arith, within))

place_missing : {X : Type 0} (p : X → Bool) (xs : List X) → list_any p xs ≡ false → position_or_len p xs ≡ length xs
place_missing p [] none = refl
place_missing p (x ∷ xs) none = by (p x) refl (place_missing p xs)
  where
    first : (b : Bool) → b ≡ true → (b || list_any p xs) ≡ false → false ≡ true
    first true e h = sym h
    first false e h = e

    rest : (b : Bool) → (b || list_any p xs) ≡ false → list_any p xs ≡ false
    rest true h = cc h
    rest false h = h

    by : (b : Bool) → p x ≡ b → (list_any p xs ≡ false → position_or_len p xs ≡ length xs) → position_or_len p (x ∷ xs) ≡ suc (length xs)
    by true e before = cc (first (p x) e none)
    by false e before = let same = before (rest (p x) none) in rw e (omega (arith, same))

set_last : {X : Type 0} (xs : List X) (x y : X) → set (xs ++ x ∷ []) (length xs) y ≡ xs ++ y ∷ []
set_last [] x y = refl
set_last (z ∷ xs) x y = rw (set_last xs x y) refl

module _ (keys : List (Bor (List ℕ))) (key : Bor (List ℕ)) (rows : List (Vec ℕ Global)) (unnamed : List Unnamed) (t : ℕ) (old : Grouped)
    (view : record { ids = texts_of keys; members = lists_of rows; unnamed = unnamed } ≡ old) (whole : length old.members ≡ length old.ids)
    (after : List (Bor (List ℕ))) (h : ℕ) (item pushed : Vec ℕ Global)
    (inserted : after ≡ insert_key (λ x y. bytes_eq x.now y.now) keys key) (at : h ≡ position_or_len (λ k. bytes_eq key.now k.now) keys) (longer : pushed.items ≡ item.items ++ t ∷ []) where
  as_many : length rows ≡ length keys
  as_many =
      sym (length-map rows (λ (r : Vec ℕ Global). r.items)) ∙ ap (λ (g : Grouped). length g.members) view ∙ whole ∙ sym (ap (λ (g : Grouped). length g.ids) view)
      ∙ length-map keys (λ (k : Bor (List ℕ)). k.now)

  -- with an id that was there
  pub joined_known : list_any (λ k. bytes_eq key.now k.now) keys ≡ true → item ≡ get_or rows h item
      → record { ids = texts_of after; members = lists_of (set rows h pushed); unnamed = unnamed } ≡ with_member old key.now t
  unfolding with_member
  joined_known there is =
      let found : list_any (bytes_eq key.now) (texts_of keys) ≡ true = sym (any_now keys key.now) ∙ there in
      let within : h < length rows = omega (arith, as_many, at, place_there (λ (k : Bor (List ℕ)). bytes_eq key.now k.now) keys there) in
      let ids : texts_of after ≡ texts_of keys = ap texts_of inserted ∙ known_key keys key found in
      let items : pushed.items ≡ get_or (lists_of rows) h [] ++ t ∷ [] =
      longer ∙ ap (λ (v : Vec ℕ Global). v.items ++ t ∷ []) is ∙ ap (λ (xs : List ℕ). xs ++ t ∷ []) (sym (get_or-map (λ (r : Vec ℕ Global). r.items) rows h item [] within)) in
      let place : h ≡ position_or_len (bytes_eq key.now) (texts_of keys) = at ∙ index_now keys key.now in
      let members : lists_of (set rows h pushed) ≡ joined_at (lists_of rows) (position_or_len (bytes_eq key.now) (texts_of keys)) t =
      map-set (λ (r : Vec ℕ Global). r.items) rows h pushed ∙ ap (set (lists_of rows) h) items ∙ ap (λ (i : ℕ). joined_at (lists_of rows) i t) place in
      let made : record { ids = texts_of after; members = lists_of (set rows h pushed); unnamed = unnamed } ≡ record { ids = texts_of keys; members = joined_at (lists_of rows) (position_or_len (bytes_eq key.now) (texts_of keys)) t; unnamed = unnamed } =
      rw (ids, members) refl in
      made ∙ sym (rw found refl) ∙ ap (λ (g : Grouped). with_member g key.now t) view

  -- with a new id
  pub joined_new : (fresh : Vec ℕ Global) (all : List (Vec ℕ Global)) → list_any (λ k. bytes_eq key.now k.now) keys ≡ false → all ≡ rows ++ fresh ∷ [] → fresh.items ≡ [] → item ≡ get_or all h item
      → record { ids = texts_of after; members = lists_of (set all h pushed); unnamed = unnamed } ≡ with_member old key.now t
  unfolding with_member
  joined_new fresh all new longer_by empty is =
      let missing : list_any (bytes_eq key.now) (texts_of keys) ≡ false = sym (any_now keys key.now) ∙ new in
      let ids : texts_of after ≡ texts_of keys ++ key.now ∷ [] = ap texts_of inserted ∙ new_key keys key missing in
      let place : h ≡ length rows = at ∙ place_missing (λ (k : Bor (List ℕ)). bytes_eq key.now k.now) keys new ∙ sym as_many in
      let first : item ≡ fresh = is ∙ ap (λ (vs : List (Vec ℕ Global)). get_or vs h item) longer_by ∙ get_or_push rows fresh item h (sym place) in
      let items : pushed.items ≡ t ∷ [] = longer ∙ ap (λ (v : Vec ℕ Global). v.items ++ t ∷ []) first ∙ ap (λ (xs : List ℕ). xs ++ t ∷ []) empty in
      let written : set all h pushed ≡ rows ++ pushed ∷ [] = ap (λ (vs : List (Vec ℕ Global)). set vs h pushed) longer_by ∙ ap (λ (i : ℕ). set (rows ++ fresh ∷ []) i pushed) place ∙ set_last rows fresh pushed in
      let members : lists_of (set all h pushed) ≡ lists_of rows ++ (t ∷ []) ∷ [] =
      ap lists_of written ∙ map_push (λ (r : Vec ℕ Global). r.items) rows pushed ∙ ap (λ (xs : List ℕ). lists_of rows ++ xs ∷ []) items in
      let made : record { ids = texts_of after; members = lists_of (set all h pushed); unnamed = unnamed } ≡ record { ids = texts_of keys ++ key.now ∷ []; members = lists_of rows ++ (t ∷ []) ∷ []; unnamed = unnamed } =
      rw (ids, members) refl in
      made ∙ sym (rw missing refl) ∙ ap (λ (g : Grouped). with_member g key.now t) view
