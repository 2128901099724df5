-- The headers of a long file, as a set keeps them.
use Rattle.std.proofs.Common.{◌≡◌, ◌<◌, ℕ, Bool, true, false, ◌||◌, List, [], ◌∷◌, ◌++◌, length, map, get_or, position, Bor, refl, ap, ◌∙◌}
use Rattle.std.specs.List.{list_any, position_or_len}
use Rattle.std.specs.Str.{bytes_eq}
use Rattle.std.proofs.lemmas.List.{get_or-map, map_push, length-map}
use Rattle.indexmap.specs.IndexSet.{insert_key}
use Rattle.rp_forms.specs.Texts.{place_of, text_at}

-- the texts of keys
abbrev pub texts_of : List (Bor (List ℕ)) → List (List ℕ)
texts_of keys = map (λ key. key.now) keys

pub any_now : (keys : List (Bor (List ℕ))) (name : List ℕ) → list_any (λ key. bytes_eq name key.now) keys ≡ list_any (bytes_eq name) (texts_of keys)
any_now [] name = refl
any_now (key ∷ keys) name = ap (λ (b : Bool). bytes_eq name key.now || b) (any_now keys name)

first_now : (keys : List (Bor (List ℕ))) (name : List ℕ) → position_or_len (λ key. bytes_eq name key.now) keys ≡ position_or_len (bytes_eq name) (texts_of keys)
first_now [] name = refl
first_now (key ∷ keys) name = rw (first_now keys name) refl

pub place_now : (keys : List (Bor (List ℕ))) (name : List ℕ) → position (λ key. bytes_eq name key.now) keys ≡ place_of (texts_of keys) name
place_now keys name =
    let now : Bor (List ℕ) → List ℕ = λ (key : Bor (List ℕ)). key.now in
    rw (first_now keys name, ← length-map keys now) refl

pub index_now : (keys : List (Bor (List ℕ))) (name : List ℕ) → position_or_len (λ key. bytes_eq name key.now) keys ≡ position_or_len (bytes_eq name) (texts_of keys)
index_now keys name = first_now keys name

-- a key that is there, and a new one
pub known_key : (keys : List (Bor (List ℕ))) (key : Bor (List ℕ)) → list_any (bytes_eq key.now) (texts_of keys) ≡ true → texts_of (insert_key (λ x y. bytes_eq x.now y.now) keys key) ≡ texts_of keys
known_key keys key there =
    let found : list_any (λ (k : Bor (List ℕ)). bytes_eq key.now k.now) keys ≡ true = any_now keys key.now ∙ there in
    rw found refl

pub new_key : (keys : List (Bor (List ℕ))) (key : Bor (List ℕ)) → list_any (bytes_eq key.now) (texts_of keys) ≡ false → texts_of (insert_key (λ x y. bytes_eq x.now y.now) keys key) ≡ texts_of keys ++ key.now ∷ []
new_key keys key new =
    let missing : list_any (λ (k : Bor (List ℕ)). bytes_eq key.now k.now) keys ≡ false = any_now keys key.now ∙ new in
    rw missing (map_push (λ (k : Bor (List ℕ)). k.now) keys key)

-- the text of one of some keys
pub text_now : (keys : List (Bor (List ℕ))) (k : ℕ) (d : Bor (List ℕ)) → k < length keys → text_at (texts_of keys) k ≡ (get_or keys k d).now
text_now keys k d within = get_or-map (λ (key : Bor (List ℕ)). key.now) keys k d [] within
