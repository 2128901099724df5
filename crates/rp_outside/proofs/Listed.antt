-- Which reads a load has asked for so far: of its own name, from the beginning on, each past the one before.
use Rattle.std.proofs.Common.{◌≡◌, ◌≤◌, ◌<◌, ◌⊎◌, ℕ, suc, List, [], ◌∷◌, ◌++◌, Option, Some, inl, inr, refl, sym, ap, ◌∙◌, append_assoc, arith}
use Rattle.std.specs.Option.{ForSome}
use Rattle.std.proofs.lemmas.List.{map-append}
use Rattle.rp_outside.specs.Asked.{AsksAtMostOnce, AsksOnce, IsReadOnce, ListsRead, MayListRead, Reads, RisesFrom, reads_of}

-- places that rise, from this one on, and end before that one
abbrev pub RisesTo : ℕ → List ℕ → ℕ → Type 0
RisesTo low [] high = low ≤ high
RisesTo low (place ∷ places) high = (low ≤ place) × RisesTo (suc place) places high

rises-more : (low : ℕ) (places : List ℕ) (high next : ℕ) → RisesTo low places high → high < next → RisesTo low (places ++ high ∷ []) next
rises-more low [] high next rises more = (rises, more)
rises-more low (place ∷ places) high next (first, rises) more = (first, rises-more (suc place) places high next rises more)

rises-from : (low : ℕ) (places : List ℕ) (high : ℕ) → RisesTo low places high → RisesFrom low places
rises-from low [] high rises = tt
rises-from low (place ∷ places) high (first, rises) = (first, rises-from (suc place) places high rises)

-- while so many bytes are there: no read yet, or those before that place
abbrev pub IsPartRead : Reads → Option Reads → List ℕ → ℕ → Type 0
IsPartRead reads now file len = ((len ≡ 0) × (now ≡ Some reads))
    ⊎ ((places : List ℕ) × (now ≡ Some (reads ++ reads_of file (0 ∷ places))) × RisesTo 1 places len)

abbrev pub IsAskedSoFar : Option Reads → Option Reads → List ℕ → ℕ → Type 0
IsAskedSoFar before now file len = ForSome before (λ reads. IsPartRead reads now file len)

-- one read more, at the place behind the bytes that are there
one_more : (reads : Reads) (file : List ℕ) (places : List ℕ) (at : ℕ) → (reads ++ reads_of file places) ++ (file, at) ∷ [] ≡ reads ++ reads_of file (places ++ at ∷ [])
one_more reads file places at = append_assoc reads (reads_of file places) ((file, at) ∷ []) ∙ ap (λ xs. reads ++ xs) (sym (map-append (λ p. (file, p)) places (at ∷ [])))

part-more : (reads : Reads) (mid now : Option Reads) (file : List ℕ) (len next : ℕ) → IsPartRead reads mid file len → ListsRead mid now file len → len < next → IsPartRead reads now file next
part-more reads mid now file len next (inl (none, is)) lists more =
    inr ([], lists reads is ∙ ap (λ k. Some (reads ++ (file, k) ∷ [])) none, omega (arith, more))
part-more reads mid now file len next (inr (places, is, rises)) lists more =
    inr (places ++ len ∷ [], lists _ is ∙ ap Some (one_more reads file (0 ∷ places) len), rises-more 1 places len next rises more)

pub asked-more : (before mid now : Option Reads) (file : List ℕ) (len next : ℕ) → IsAskedSoFar before mid file len → ListsRead mid now file len → len < next → IsAskedSoFar before now file next
asked-more before mid now file len next so_far lists more reads is = part-more reads mid now file len next (so_far reads is) lists more

-- the reads of a load that has ended, of which the last was at the place behind the bytes that are there
part-once : (reads : Reads) (now : Option Reads) (file : List ℕ) (len : ℕ) → IsPartRead reads now file (suc len) → (own : Reads) × (now ≡ Some (reads ++ own)) × IsReadOnce file own
part-once reads now file len (inl (none, is)) = absurd (omega (arith, none))
part-once reads now file len (inr (places, is, rises)) = (reads_of file (0 ∷ places), is, (places, refl, rises-from 1 places (suc len) rises))

pub asked-once : (before mid now : Option Reads) (file : List ℕ) (len : ℕ) → IsAskedSoFar before mid file len → ListsRead mid now file len → AsksOnce before now file
asked-once before mid now file len so_far lists reads is =
    part-once reads now file len (part-more reads mid now file len (suc len) (so_far reads is) lists (omega arith))

-- the same, where the last may not be listed
part-at-most : (reads : Reads) (mid now : Option Reads) (file : List ℕ) (len : ℕ) → IsPartRead reads mid file len → MayListRead mid now file len
    → (now ≡ Some reads) ⊎ ((own : Reads) × (now ≡ Some (reads ++ own)) × IsReadOnce file own)
part-at-most reads mid now file len (inl (none, is)) may = elim (may reads is) [
  | inl listed ↦ inr ((file, 0) ∷ [], listed ∙ ap (λ k. Some (reads ++ (file, k) ∷ [])) none, ([], refl, tt))
  | inr kept ↦ inl kept
]
part-at-most reads mid now file len (inr (places, is, rises)) may = elim (may _ is) [
  | inl listed ↦ inr (
    reads_of file (0 ∷ places ++ len ∷ []),
    listed ∙ ap Some (one_more reads file (0 ∷ places) len),
    (places ++ len ∷ [], refl, rises-from 1 (places ++ len ∷ []) (suc len) (rises-more 1 places len (suc len) rises (omega arith))),
  )
  | inr kept ↦ inr (reads_of file (0 ∷ places), kept, (places, refl, rises-from 1 places len rises))
]

pub asked-at-most-once : (before mid now : Option Reads) (file : List ℕ) (len : ℕ) → IsAskedSoFar before mid file len → MayListRead mid now file len → AsksAtMostOnce before now file
asked-at-most-once before mid now file len so_far may reads is = part-at-most reads mid now file len (so_far reads is) may
