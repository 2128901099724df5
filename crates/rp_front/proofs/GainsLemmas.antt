-- What a sink gains from texts that are written one after another.
use Rattle.std.proofs.Common.{◌≡◌, ℕ, suc, ◌+◌, ◌<◌, ◌≤◌, Bool, true, false, List, [], ◌∷◌, ◌++◌, Option, Some, length, get_or, take, drop, subst, refl, sym, ◌∙◌, ap, arith, append_assoc, append-nil, length-append, drop-cons, inl, inr}
use Rattle.std.proofs.lemmas.List.{take-append-drop, take_more}
use Rattle.std.proofs.Math.Seq.{take-append-add}
use Rattle.std.proofs.lemmas.List.{take-append-le}
use Rattle.std.specs.List.{flat_map}
use Rattle.std.proofs.lemmas.Grind.{flat_map-append}
use Rattle.std.proofs.lemmas.List.Concat.{flat_map-cons}
use Rattle.rp_guide.specs.Gains.{Gains}
use Rattle.rp_guide.specs.Hints.{hint_line}
use Rattle.rp_front.specs.Lines.{hinted}
use Rattle.rp_outside.specs.Known.{Grows, GrowsByPrefix}
use Rattle.rp_outside.specs.Faults.{HasRisen}

-- one text after another
pub grows_then : (old mid new : Option (List ℕ)) (x y : List ℕ) → Grows old mid x → Grows mid new y → Grows old new (x ++ y)
grows_then old mid new x y first second w is = second (w ++ x) (first w is) ∙ ap Some (append_assoc w x y)

-- a text, and then a part of another that stands before a third
pub grows_then_part : (old mid new : Option (List ℕ)) (x y z : List ℕ) → Grows old mid x → GrowsByPrefix mid new y → GrowsByPrefix old new (x ++ (y ++ z))
grows_then_part old mid new x y z first second w is =
    let p = second (w ++ x) (first w is) in (
      length x + p.0,
      omega (arith, p.1, length-append x (y ++ z), length-append y z),
      p.2 ∙ ap Some (append_assoc w x (take p.0 y) ∙ ap (λ (v : List ℕ). w ++ v) (sym (take-append-add x (y ++ z) p.0 ∙ ap (λ (v : List ℕ). x ++ v) (take-append-le p.0 y z p.1)))),
    )

-- a list of pieces at one of them
pub at_piece : {X : Type 0} (f : X → List ℕ) (xs : List X) (i : ℕ) (d : X) → i < length xs → flat_map f xs ≡ flat_map f (take i xs) ++ (f (get_or xs i d) ++ flat_map f (drop (suc i) xs))
at_piece f xs i d within =
    ap (flat_map f) (sym (take-append-drop i xs)) ∙ flat_map-append f (take i xs) (drop i xs)
    ∙ ap (λ (rest : List ℕ). flat_map f (take i xs) ++ rest) (ap (flat_map f) (drop-cons xs i d within) ∙ flat_map-cons f (get_or xs i d) (drop (suc i) xs))

-- one piece more
pub flat_map-more : {X : Type 0} (f : X → List ℕ) (xs : List X) (i : ℕ) (d : X) → i < length xs → flat_map f (take (i + 1) xs) ≡ flat_map f (take i xs) ++ f (get_or xs i d)
flat_map-more f xs i d within =
    ap (flat_map f) (take_more xs i d within) ∙ flat_map-append f (take i xs) (get_or xs i d ∷ [])
    ∙ ap (λ (rest : List ℕ). flat_map f (take i xs) ++ rest) (flat_map-cons f (get_or xs i d) [] ∙ append-nil (f (get_or xs i d)))

-- a count that rises later has risen
pub rises_later : (before mid after : ℕ) → before ≤ mid → HasRisen mid after → HasRisen before after
rises_later before mid after le (inl up) = inl (omega arith)
rises_later before mid after le (inr last) = inr last

-- a text, and then another that may not be taken whole
pub gains_then : (old mid new : Option (List ℕ)) (before count after : ℕ) (x y : List ℕ) → before ≤ count → Grows old mid x → Gains mid new count after y → Gains old new before after (x ++ y)
gains_then old mid new before count after x y le first (inl whole) = inl (grows_then old mid new x y first whole)
gains_then old mid new before count after x y le first (inr part) =
    inr (subst (λ (z : List ℕ). GrowsByPrefix old new (x ++ z)) (append-nil y) (grows_then_part old mid new x y [] first part.0), rises_later before count after le part.1)

-- a text of which it is said whether all of it was taken
pub gains_either : (whole : Bool) (old new : Option (List ℕ)) (before after : ℕ) (x : List ℕ) → (whole ≡ true → Grows old new x)
    → (whole ≡ false → GrowsByPrefix old new x × HasRisen before after) → Gains old new before after x
gains_either true old new before after x all part = inl (all refl)
gains_either false old new before after x all part = inr (part refl)

-- a part of a text is one of the text with its hint
pub part_hinted : (hints : Bool) (old new : Option (List ℕ)) (code x : List ℕ) → GrowsByPrefix old new x → GrowsByPrefix old new (hinted hints code x)
part_hinted false old new code x part = part
part_hinted true old new code x part = grows_then_part old old new [] x (hint_line code) (λ w is. is ∙ ap Some (sym (append-nil w))) part
