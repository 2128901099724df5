-- The columns that a map keeps in order, by their headers.
use Rattle.std.proofs.Common.{◌≡◌, ℕ, zero, suc, Bool, false, List, [], ◌∷◌, ◌++◌, map, get_or, position, Option, Some, None, is_some, Bor, refl, sym, ap, ◌∙◌}
use Rattle.std.specs.List.{All, position_or_len, slice_get}
use Rattle.std.specs.Map.{keys_of}
use Rattle.std.specs.Str.{bytes_eq}
use Rattle.std.proofs.lemmas.List.{map_push, length-map}
use Rattle.std.proofs.lemmas.List.Elements.{All-push, All-same}
use Rattle.std.proofs.lemmas.Option.{slice_get_within, get_or_from_slice_get}
use Rattle.indexmap.specs.IndexMap.{IndexMap, get, insert_entry}
use Rattle.indexmap.proofs.CallerLemmas.{insert_entry-new}
use Rattle.indexmap.proofs.MapLemmas.{some_index}
use Rattle.rp_forms.specs.Texts.{text_at, place_of}
use Rattle.rp_forms.specs.Columns.{role_of}
use Rattle.rp_forms.specs.declared.form.Marks.{Marks}
use Rattle.rp_forms.specs.declared.form.Role.{Role}

-- the headers of a map's entries
abbrev pub headers_of : List (Bor (List ℕ) × Role) → List (List ℕ)
headers_of entries = map (λ header. header.now) (keys_of entries)

-- each entry says what its header says
abbrev pub Agrees : Marks → List (Bor (List ℕ) × Role) → Type 0
Agrees marks entries = All (λ entry. role_of marks entry.0.now ≡ Some entry.1) entries

first_of_map : {X : Type 0} (p : List ℕ → Bool) (f : X → List ℕ) (xs : List X) → position_or_len (λ x. p (f x)) xs ≡ position_or_len p (map f xs)
first_of_map p f [] = refl
first_of_map p f (x ∷ xs) = rw (first_of_map p f xs) refl

-- a column found by its header
pub found : (entries : List (Bor (List ℕ) × Role)) (header : List ℕ) → position (λ key. bytes_eq header key.now) (keys_of entries) ≡ place_of (headers_of entries) header
found entries header =
    let now : Bor (List ℕ) → List ℕ = λ (key : Bor (List ℕ)). key.now in
    rw (first_of_map (bytes_eq header) now (keys_of entries), ← length-map (keys_of entries) now) refl

pub header_there : (entries : List (Bor (List ℕ) × Role)) (c : ℕ) (header : Bor (List ℕ)) (role : Role) → Some (header, role) ≡ slice_get entries c → header.now ≡ text_at (headers_of entries) c
header_there [] c header role is = cc is
header_there (entry ∷ entries) zero header role is =
    let same : (header, role) ≡ entry = cc is in
    ap (λ (e : Bor (List ℕ) × Role). e.0.now) same
header_there (entry ∷ entries) (suc c) header role is = header_there entries c header role is

pub role_there : (marks : Marks) (entries : List (Bor (List ℕ) × Role)) (c : ℕ) (header : Bor (List ℕ)) (role : Role) → Agrees marks entries → Some (header, role) ≡ slice_get entries c → role_of marks (text_at (headers_of entries) c) ≡ Some role
role_there marks entries c header role agrees is =
    let within = slice_get_within entries c (header, role) (sym is) in
    let there : get_or entries c (header, role) ≡ (header, role) = get_or_from_slice_get entries c (header, role) (header, role) (sym is) in
    let says = rw there at (agrees c (header, role) within) in
    rw (← header_there entries c header role is) says

none_from : {A : Type 0} (o : Option A) → is_some o ≡ false → o ≡ None
none_from None e = refl
none_from (Some x) e = cc e

-- one more entry, under a new header
pub added : {S : Type 0} (m : IndexMap (Bor (List ℕ)) Role S) (header : Bor (List ℕ)) (role : Role) → place_of (headers_of m.entries) header.now ≡ None
    → insert_entry (λ x y. bytes_eq x.now y.now) m.entries header role ≡ m.entries ++ (header, role) ∷ []
added m header role new =
    let absent = sym (some_index (λ key. bytes_eq header.now key.now) m.entries) ∙ ap is_some (found m.entries header.now ∙ new) in
    insert_entry-new (λ x y. bytes_eq x.now y.now) m header role (none_from (get (λ x y. bytes_eq x.now y.now) m header) absent)

pub headers-more : (entries : List (Bor (List ℕ) × Role)) (header : Bor (List ℕ)) (role : Role) → headers_of (entries ++ (header, role) ∷ []) ≡ headers_of entries ++ header.now ∷ []
headers-more entries header role =
    ap (map (λ (key : Bor (List ℕ)). key.now)) (map_push (λ (e : Bor (List ℕ) × Role). e.0) entries (header, role)) ∙ map_push (λ (key : Bor (List ℕ)). key.now) (keys_of entries) header

pub agrees-more : (marks : Marks) (entries after : List (Bor (List ℕ) × Role)) (header : Bor (List ℕ)) (role : Role) → after ≡ entries ++ (header, role) ∷ [] → Agrees marks entries → role_of marks header.now ≡ Some role → Agrees marks after
agrees-more marks entries after header role is agrees says =
    All-same (λ (entry : Bor (List ℕ) × Role). role_of marks entry.0.now ≡ Some entry.1) after (entries ++ (header, role) ∷ []) is
    (All-push (λ (entry : Bor (List ℕ) × Role). role_of marks entry.0.now ≡ Some entry.1) entries (header, role) agrees says)
