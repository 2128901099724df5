-- The parts of bytes by their sizes, one after another.
use Rattle.std.proofs.Common.{ℕ, ◌≡◌, ◌∙◌, ◌+◌, ◌-◌, ◌<◌, ◌≤◌, List, [], ◌∷◌, ◌++◌, length, take, drop, get_or, nat_le, true, false}
use Rattle.std.proofs.Common.{Option, Some, None, Bool, option_map, refl, sym, subst, ap, arith, append-nil, append_assoc, length-drop, if◌then◌else◌}
use Rattle.std.proofs.lemmas.List.{drop-drop, drop_all, drop_more}
use Rattle.std.proofs.lemmas.Iterator.Adapters.{option_map_id}
use Rattle.rp_frame.specs.Frames.{parts_in}

-- the parts that were cut stand before those of the rest: of the sizes from i on, and of the bytes from `at` on
pub record IsCutTo (sizes bytes : List ℕ) (i at : ℕ) (parts : List (List ℕ)) : Type 0 where
  pub within : at ≤ length bytes
  pub joined : parts_in sizes bytes ≡ option_map (λ rest. parts ++ rest) (parts_in (drop i sizes) (drop at bytes))

pub at_start : (sizes bytes : List ℕ) → IsCutTo sizes bytes 0 0 []
at_start sizes bytes = record { within = omega arith; joined = sym (option_map_id (parts_in sizes bytes)) }

one_part : (size : ℕ) (sizes bytes : List ℕ) → size ≤ length bytes
    → parts_in (size ∷ sizes) bytes ≡ option_map (λ parts. take size bytes ∷ parts) (parts_in sizes (drop size bytes))
unfolding parts_in
one_part size sizes bytes fits = go (nat_le size (length bytes)) refl
  where
    go : (b : Bool) → nat_le size (length bytes) ≡ b
        → (if nat_le size (length bytes) then option_map (λ parts. take size bytes ∷ parts) (parts_in sizes (drop size bytes)) else None)
        ≡ option_map (λ parts. take size bytes ∷ parts) (parts_in sizes (drop size bytes))
    go true is = rw is refl
    go false is = absurd (grind (arith, is, fits))

no_part : (size : ℕ) (sizes bytes : List ℕ) → length bytes < size → parts_in (size ∷ sizes) bytes ≡ None
unfolding parts_in
no_part size sizes bytes past = go (nat_le size (length bytes)) refl
  where
    go : (b : Bool) → nat_le size (length bytes) ≡ b
        → (if nat_le size (length bytes) then option_map (λ parts. take size bytes ∷ parts) (parts_in sizes (drop size bytes)) else None)
        ≡ None
    go true is = absurd (grind (arith, is, past))
    go false is = rw is refl

joined_more : (parts : List (List ℕ)) (part : List ℕ) (rest : Option (List (List ℕ)))
    → option_map (λ more. parts ++ more) (option_map (λ more. part ∷ more) rest)
    ≡ option_map (λ more. (parts ++ part ∷ []) ++ more) rest
joined_more parts part None = refl
joined_more parts part (Some more) = ap Some (sym (append_assoc parts (part ∷ []) more))

pub one_more : (sizes bytes : List ℕ) (i at : ℕ) (parts : List (List ℕ)) → IsCutTo sizes bytes i at parts
    → i < length sizes → get_or sizes i 0 ≤ length bytes - at
    → IsCutTo sizes bytes (i + 1) (at + get_or sizes i 0) (parts ++ take (at + get_or sizes i 0 - at) (drop at bytes) ∷ [])
one_more sizes bytes i at parts cut before fits =
    let size = get_or sizes i 0 in
    let next : drop i sizes ≡ size ∷ drop (i + 1) sizes = drop_more sizes i 0 before in
    let same : at + size - at ≡ size = omega arith in
    let fits' : size ≤ length (drop at bytes) = omega (arith, fits, length-drop at bytes) in
    let more : IsCutTo sizes bytes (i + 1) (at + size) (parts ++ take size (drop at bytes) ∷ []) = record {
      within = omega (arith, cut.within, fits);
      joined = cut.joined
          ∙ ap (λ (left : List ℕ). option_map (λ more. parts ++ more) (parts_in left (drop at bytes))) next
          ∙ ap (option_map (λ more. parts ++ more)) (one_part size (drop (i + 1) sizes) (drop at bytes) fits')
          ∙ joined_more parts (take size (drop at bytes)) (parts_in (drop (i + 1) sizes) (drop size (drop at bytes)))
          ∙ ap (λ (left : List ℕ). option_map (λ more. (parts ++ take size (drop at bytes) ∷ []) ++ more) (parts_in (drop (i + 1) sizes) left)) (drop-drop size at bytes);
    } in
    subst (λ (n : ℕ). IsCutTo sizes bytes (i + 1) (at + size) (parts ++ take n (drop at bytes) ∷ [])) (sym same) more

pub too_long : (sizes bytes : List ℕ) (i at : ℕ) (parts : List (List ℕ)) → IsCutTo sizes bytes i at parts
    → i < length sizes → length bytes - at < get_or sizes i 0 → None ≡ parts_in sizes bytes
too_long sizes bytes i at parts cut before past =
    let size = get_or sizes i 0 in
    let next : drop i sizes ≡ size ∷ drop (i + 1) sizes = drop_more sizes i 0 before in
    sym (cut.joined
    ∙ ap (λ (left : List ℕ). option_map (λ more. parts ++ more) (parts_in left (drop at bytes))) next
    ∙ ap (option_map (λ more. parts ++ more)) (no_part size (drop (i + 1) sizes) (drop at bytes) (omega (arith, past, length-drop at bytes))))

end_of : parts_in [] [] ≡ Some []
unfolding parts_in
end_of = refl

left_over_of : (byte : ℕ) (bytes : List ℕ) → parts_in [] (byte ∷ bytes) ≡ None
unfolding parts_in
left_over_of byte bytes = refl

pub at_end : (sizes bytes : List ℕ) (i at : ℕ) (parts : List (List ℕ)) → IsCutTo sizes bytes i at parts
    → length sizes ≤ i → length bytes ≤ at → Some parts ≡ parts_in sizes bytes
at_end sizes bytes i at parts cut all past =
    sym (cut.joined
    ∙ ap (λ (left : List ℕ). option_map (λ more. parts ++ more) (parts_in left (drop at bytes))) (drop_all i sizes all)
    ∙ ap (λ (left : List ℕ). option_map (λ more. parts ++ more) (parts_in [] left)) (drop_all at bytes past)
    ∙ ap (option_map (λ more. parts ++ more)) end_of ∙ ap Some (append-nil parts))

pub left_over : (sizes bytes : List ℕ) (i at : ℕ) (parts : List (List ℕ)) → IsCutTo sizes bytes i at parts
    → length sizes ≤ i → at < length bytes → None ≡ parts_in sizes bytes
left_over sizes bytes i at parts cut all before =
    sym (cut.joined
    ∙ ap (λ (left : List ℕ). option_map (λ more. parts ++ more) (parts_in left (drop at bytes))) (drop_all i sizes all)
    ∙ ap (option_map (λ more. parts ++ more)) (none (drop at bytes) refl))
  where
    none : (left : List ℕ) → drop at bytes ≡ left → parts_in [] (drop at bytes) ≡ None
    none [] is = absurd (omega (arith, before, length-drop at bytes, ap length is))
    none (byte ∷ left) is = ap (parts_in []) is ∙ left_over_of byte left
