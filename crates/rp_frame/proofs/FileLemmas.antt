-- Names and parts that are put together, one pair after another.
use Rattle.std.proofs.Common.{ℕ, suc, ◌≡◌, ◌∙◌, ◌+◌, ◌<◌, ◌≤◌, List, [], ◌∷◌, ◌++◌, length, map, drop, get_or}
use Rattle.std.proofs.Common.{Option, Some, None, option_map, refl, sym, subst, ap, arith, append-nil, append_assoc}
use Rattle.std.proofs.lemmas.List.{drop_all, drop_more}
use Rattle.std.proofs.lemmas.Iterator.Adapters.{option_map_id}
use Rattle.rp_frame.specs.Frames.{named_parts}

-- the files that were made stand before those of the rest, from i on
pub record IsNamedTo (names parts : List (List ℕ)) (i : ℕ) (files : List (List ℕ × List ℕ)) : Type 0 where
  pub joined : named_parts names parts ≡ option_map (λ rest. files ++ rest) (named_parts (drop i names) (drop i parts))

pub at_start : (names parts : List (List ℕ)) → IsNamedTo names parts 0 []
at_start names parts = record { joined = sym (option_map_id (named_parts names parts)) }

one_file : (name part : List ℕ) (names parts : List (List ℕ))
    → named_parts (name ∷ names) (part ∷ parts) ≡ option_map (λ files. (name, part) ∷ files) (named_parts names parts)
unfolding named_parts
one_file name part names parts = refl

no_files : named_parts [] [] ≡ Some []
unfolding named_parts
no_files = refl

joined_more : (files : List (List ℕ × List ℕ)) (file : List ℕ × List ℕ) (rest : Option (List (List ℕ × List ℕ)))
    → option_map (λ more. files ++ more) (option_map (λ more. file ∷ more) rest)
    ≡ option_map (λ more. (files ++ file ∷ []) ++ more) rest
joined_more files file None = refl
joined_more files file (Some more) = ap Some (sym (append_assoc files (file ∷ []) more))

pub one_more : (names parts : List (List ℕ)) (i : ℕ) (files : List (List ℕ × List ℕ)) (name part : List ℕ)
    → IsNamedTo names parts i files → i < length names → i < length parts
    → name ≡ get_or names i name → part ≡ get_or parts i part
    → IsNamedTo names parts (i + 1) (files ++ (name, part) ∷ [])
one_more names parts i files name part named before before' is is' =
    let next : drop i names ≡ name ∷ drop (i + 1) names = drop_more names i name before ∙ ap (λ (n : List ℕ). n ∷ drop (i + 1) names) (sym is) in
    let next' : drop i parts ≡ part ∷ drop (i + 1) parts = drop_more parts i part before' ∙ ap (λ (p : List ℕ). p ∷ drop (i + 1) parts) (sym is') in
    record {
      joined = named.joined
          ∙ ap (λ (left : List (List ℕ)). option_map (λ more. files ++ more) (named_parts left (drop i parts))) next
          ∙ ap (λ (left : List (List ℕ)). option_map (λ more. files ++ more) (named_parts (name ∷ drop (i + 1) names) left)) next'
          ∙ ap (option_map (λ more. files ++ more)) (one_file name part (drop (i + 1) names) (drop (i + 1) parts))
          ∙ joined_more files (name, part) (named_parts (drop (i + 1) names) (drop (i + 1) parts));
    }

pub at_end : (names parts : List (List ℕ)) (i : ℕ) (files : List (List ℕ × List ℕ)) → IsNamedTo names parts i files
    → length names ≤ i → length parts ≤ i → named_parts names parts ≡ Some files
at_end names parts i files named all all' =
    named.joined
    ∙ ap (λ (left : List (List ℕ)). option_map (λ more. files ++ more) (named_parts left (drop i parts))) (drop_all i names all)
    ∙ ap (λ (left : List (List ℕ)). option_map (λ more. files ++ more) (named_parts [] left)) (drop_all i parts all')
    ∙ ap (option_map (λ more. files ++ more)) no_files ∙ ap Some (append-nil files)

-- the names of the files are the names
pub names_of : (names parts : List (List ℕ)) (files : List (List ℕ × List ℕ)) → named_parts names parts ≡ Some files
    → map (λ file. file.0) files ≡ names
unfolding named_parts
names_of [] [] files is =
    let same : [] ≡ files = cc in
    subst (λ (all : List (List ℕ × List ℕ)). map (λ file. file.0) all ≡ []) same refl
names_of (name ∷ names) (part ∷ parts) files is = go (named_parts names parts) refl (λ more some. names_of names parts more some)
  where
    go : (o : Option (List (List ℕ × List ℕ))) → named_parts names parts ≡ o
        → ((more : List (List ℕ × List ℕ)) → named_parts names parts ≡ Some more → map (λ file. file.0) more ≡ names)
        → map (λ file. file.0) files ≡ name ∷ names
    go None none rest = absurd (let wrong = rw none at is in cc)
    go (Some more) some rest =
        let made : (name, part) ∷ more ≡ files = (let whole = rw some at is in cc) in
        subst (λ (all : List (List ℕ × List ℕ)). map (λ file. file.0) all ≡ name ∷ names) made
        (ap (λ (all : List (List ℕ)). name ∷ all) (rest more some))
names_of [] (part ∷ parts) files is = absurd cc
names_of (name ∷ names) [] files is = absurd cc

-- as many names as parts have files, and no other numbers of them do
pub not_paired : (names parts : List (List ℕ)) → (length names ≡ length parts → ⊥) → named_parts names parts ≡ None
unfolding named_parts
not_paired [] [] other = absurd (other refl)
not_paired [] (part ∷ parts) other = refl
not_paired (name ∷ names) [] other = refl
not_paired (name ∷ names) (part ∷ parts) other =
    ap (option_map (λ files. (name, part) ∷ files)) (not_paired names parts (λ same. other (ap suc same)))

-- as many names as parts have files
pub paired : (names parts : List (List ℕ)) → length names ≡ length parts
    → (files : List (List ℕ × List ℕ)) × (named_parts names parts ≡ Some files)
unfolding named_parts
paired [] [] same = ([], refl)
paired [] (part ∷ parts) same = absurd cc
paired (name ∷ names) [] same = absurd cc
paired (name ∷ names) (part ∷ parts) same =
    let rest = paired names parts (omega (arith, same)) in
    ((name, part) ∷ rest.0, ap (option_map (λ files. (name, part) ∷ files)) rest.1)
