-- Lists of numerators and of positive entries that grow by one.
use Rattle.std.proofs.Common.{◌≡◌, ◌≢◌, ℕ, ◌+◌, ◌<◌, ◌≤◌, ◌^◌, List, [], ◌∷◌, ◌++◌, length, map, slice_index, All, cond, eqb, true, false, inl, inr, refl, sym, ap, subst, arith}
use Rattle.std.specs.List.Sorted.{IsStrictlyIncreasing}
use Rattle.std.proofs.lemmas.Bool.{cases_lt, eq-eqb, ne_eqb}
use Rattle.std.proofs.lemmas.List.{get_or_push, map_push, length_push}
use Rattle.std.proofs.Math.ListN.{get_or-append}
use Rattle.std.proofs.lemmas.List.Elements.{All-push, All-weaker, All-head, All-tail, All-map}
use Rattle.rp_farkas.specs.declared.entry.Entry.{Entry}
use Rattle.rp_farkas.specs.Listing.{IsListing, numerator_at}

-- ---- positive entries
numerator-none : (j : ℕ) (es : List Entry) → All (λ (e : Entry). e.at < j) es → (k : ℕ) → j ≤ k → numerator_at es k ≡ 0
numerator-none j [] h k l = refl
numerator-none j (e ∷ es) h k l =
    let below : e.at < j = All-head (λ (d : Entry). d.at < j) e es h in
    let other : eqb e.at k ≡ false = ne_eqb e.at k (omega arith) in
    rw other (numerator-none j es (All-tail (λ (d : Entry). d.at < j) e es h) k l)

numerator-push : (es : List Entry) (e : Entry) (k : ℕ) → e.at ≢ k → numerator_at (es ++ e ∷ []) k ≡ numerator_at es k
numerator-push [] e k ne = let other : eqb e.at k ≡ false = ne_eqb e.at k ne in rw other refl
numerator-push (d ∷ es) e k ne = ap (cond (eqb d.at k) d.value) (numerator-push es e k ne)

numerator-last : (j : ℕ) (es : List Entry) (e : Entry) → e.at ≡ j → All (λ (d : Entry). d.at < j) es → numerator_at (es ++ e ∷ []) j ≡ e.value
numerator-last j [] e is h = let here : eqb e.at j ≡ true = eq-eqb e.at j is in rw here refl
numerator-last j (d ∷ es) e is h =
    let below : d.at < j = All-head (λ (x : Entry). x.at < j) d es h in
    let other : eqb d.at j ≡ false = ne_eqb d.at j (omega arith) in
    rw other (numerator-last j es e is (All-tail (λ (x : Entry). x.at < j) d es h))

pub listing_wider : (j : ℕ) (es : List Entry) → IsListing j es → IsListing (j + 1) es
listing_wider j es h = record {
  rising = h.rising;
  columns = All-weaker (λ (e : Entry). e.at < j) (λ (e : Entry). e.at < j + 1) (λ e l. omega arith) es h.columns;
  positive = h.positive;
  fitting = h.fitting;
}

rising-push : (xs : List ℕ) (j : ℕ) → IsStrictlyIncreasing xs → ((k : ℕ) → k < length xs → slice_index xs k < j) → IsStrictlyIncreasing (xs ++ j ∷ [])
rising-push xs j h below k l =
    let before : slice_index (xs ++ j ∷ []) k ≡ slice_index xs k = get_or-append xs (j ∷ []) 0 k (omega (arith, length_push xs j)) in
    elim (cases_lt (k + 1) (length xs)) [
      | inl inside ↦
          let after : slice_index (xs ++ j ∷ []) (k + 1) ≡ slice_index xs (k + 1) = get_or-append xs (j ∷ []) 0 (k + 1) inside in
          let less : slice_index xs k < slice_index xs (k + 1) = h k inside in
          omega arith
      | inr last ↦
          let end : slice_index (xs ++ j ∷ []) (k + 1) ≡ j = get_or_push xs j 0 (k + 1) (omega (arith, length_push xs j)) in
          let less : slice_index xs k < j = below k (omega (arith, length_push xs j)) in
          omega arith
    ]

pub listing_push : (j : ℕ) (es : List Entry) (e : Entry) → IsListing j es → e.at ≡ j → 0 < e.value → e.value < 2 ^ 63 → IsListing (j + 1) (es ++ e ∷ [])
listing_push j es e h is positive fits =
    let wider = listing_wider j es h in
    let places : List ℕ = map (λ (d : Entry). d.at) es in
    let rising : IsStrictlyIncreasing (places ++ e.at ∷ []) = rising-push places e.at h.rising (λ k l. let low : slice_index places k < j = All-map (λ (n : ℕ). n < j) (λ (d : Entry). d.at) es h.columns k 0 l in omega arith) in
    record {
      rising = subst IsStrictlyIncreasing (sym (map_push (λ (d : Entry). d.at) es e)) rising;
      columns = All-push (λ (d : Entry). d.at < j + 1) es e wider.columns (omega arith);
      positive = All-push (λ (d : Entry). 0 < d.value) es e h.positive positive;
      fitting = All-push (λ (d : Entry). d.value < 2 ^ 63) es e h.fitting fits;
    }

-- the numerators after one more entry
pub pushed_before : (j : ℕ) (es : List Entry) (e : Entry) → e.at ≡ j → (k : ℕ) → k < j → numerator_at (es ++ e ∷ []) k ≡ numerator_at es k
pushed_before j es e is k l = numerator-push es e k (omega arith)

pub pushed_here : (j : ℕ) (es : List Entry) (e : Entry) → IsListing j es → e.at ≡ j → numerator_at (es ++ e ∷ []) j ≡ e.value
pushed_here j es e h is = numerator-last j es e is h.columns

pub none_here : (j : ℕ) (es : List Entry) → IsListing j es → numerator_at es j ≡ 0
none_here j es h = numerator-none j es h.columns j (omega arith)
