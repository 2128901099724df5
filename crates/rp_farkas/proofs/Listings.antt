-- Listings by recursion: what a walk along the entries keeps.
use Rattle.std.proofs.Common.{◌≡◌, ℕ, zero, suc, ◌+◌, ◌^◌, ◌<◌, ◌≤◌, List, [], ◌∷◌, length, map, drop, get_or, slice_index, ℤ, pos, ◌+ℤ◌, ◌*ℤ◌, refl, sym, ◌∙◌, ap, subst, arith, add-one, drop-cons, cond, eqb, inl, inr, true, false}
use Rattle.std.specs.List.Sorted.{IsStrictlyIncreasing}
use Rattle.std.proofs.lemmas.Int.{ints}
use Rattle.std.proofs.Math.ListN.{drop_of_length-le}
use Rattle.std.proofs.lemmas.List.{length-map}
use Rattle.std.proofs.lemmas.Bool.{cases_eq, eq-eqb, ne_eqb}
use Rattle.std.proofs.lemmas.List.Elements.{All-head, All-tail, All-nil, All-cons}
use Rattle.rp_farkas.specs.declared.entry.Entry.{Entry}
use Rattle.rp_farkas.specs.Listing.{IsListing, numerator_at}
use Rattle.rp_farkas.specs.Total.{total}
use Rattle.rp_farkas.proofs.Totals.{total-same, total-zero, total-add}

next : (x : ℕ) (xs : List ℕ) (k : ℕ) → slice_index (x ∷ xs) (suc k) < slice_index (x ∷ xs) (suc k + 1) → slice_index xs k < slice_index xs (suc k)
next x xs k h = rw add-one at h

rising-tail : (x : ℕ) (xs : List ℕ) → IsStrictlyIncreasing (x ∷ xs) → IsStrictlyIncreasing xs
rising-tail x xs h k l =
    let shown : k + 1 < length xs → slice_index xs k < slice_index xs (suc k) = λ m. next x xs k (h (suc k) (omega arith)) in
    rw add-one (shown l)

rising-first : (x : ℕ) (xs : List ℕ) → IsStrictlyIncreasing (x ∷ xs) → 0 < length xs → x < slice_index xs 0
rising-first x xs h l = h 0 (omega arith)

rising-cons : (x : ℕ) (xs : List ℕ) → IsStrictlyIncreasing xs → (0 < length xs → x < slice_index xs 0) → IsStrictlyIncreasing (x ∷ xs)
rising-cons x xs h first zero l = first (omega arith)
rising-cons x xs h first (suc k) l =
    let later : slice_index xs k < slice_index xs (k + 1) = h k (omega arith) in
    rw add-one (rw add-one at later)

-- the entries stand in rising order from the column `low` on
abbrev pub ListedFrom : ℕ → ℕ → List Entry → Type 0
ListedFrom low cols [] = Unit {0}
ListedFrom low cols (e ∷ es) = (low ≤ e.at) × (e.at < cols) × (0 < e.value) × (e.value < 2 ^ 63) × ListedFrom (e.at + 1) cols es

-- the first column, if there is one, is at least `low`
abbrev StartsAt : ℕ → List Entry → Type 0
StartsAt low es = 0 < length es → low ≤ slice_index (map (λ (e : Entry). e.at) es) 0

tail : (cols : ℕ) (e : Entry) (es : List Entry) → IsListing cols (e ∷ es) → IsListing cols es
tail cols e es h = record {
  rising = rising-tail e.at (map (λ (d : Entry). d.at) es) h.rising;
  columns = All-tail (λ (d : Entry). d.at < cols) e es h.columns;
  positive = All-tail (λ (d : Entry). 0 < d.value) e es h.positive;
  fitting = All-tail (λ (d : Entry). d.value < 2 ^ 63) e es h.fitting;
}

rising_above : (e : Entry) (es : List Entry) → {cols : ℕ} → IsListing cols (e ∷ es) → 0 < length es → e.at + 1 ≤ slice_index (map (λ (d : Entry). d.at) es) 0
rising_above e es h l =
    let first : e.at < slice_index (map (λ (d : Entry). d.at) es) 0 = rising-first e.at (map (λ (d : Entry). d.at) es) h.rising (omega (arith, length-map es (λ (d : Entry). d.at))) in
    omega arith

pub listed_from : (cols low : ℕ) (es : List Entry) → IsListing cols es → StartsAt low es → ListedFrom low cols es
listed_from cols low [] h first = tt
listed_from cols low (e ∷ es) h first = (
  first (omega arith),
  All-head (λ (d : Entry). d.at < cols) e es h.columns,
  All-head (λ (d : Entry). 0 < d.value) e es h.positive,
  All-head (λ (d : Entry). d.value < 2 ^ 63) e es h.fitting,
  listed_from cols (e.at + 1) es (tail cols e es h) (λ l. rising_above e es h l),
)

pub starts : (low cols : ℕ) (es : List Entry) → ListedFrom low cols es → StartsAt low es
starts low cols [] h l = absurd (omega arith)
starts low cols (e ∷ es) h l = h.0

starts_above : (e : Entry) (cols : ℕ) (es : List Entry) → ListedFrom (e.at + 1) cols es → 0 < length es → e.at < slice_index (map (λ (d : Entry). d.at) es) 0
starts_above e cols es h l = let first : e.at + 1 ≤ slice_index (map (λ (d : Entry). d.at) es) 0 = starts (e.at + 1) cols es h l in omega arith

pub listing_from : (cols low : ℕ) (es : List Entry) → ListedFrom low cols es → IsListing cols es
listing_from cols low [] h = record {
  rising = λ k l. absurd (omega arith);
  columns = All-nil (λ (d : Entry). d.at < cols);
  positive = All-nil (λ (d : Entry). 0 < d.value);
  fitting = All-nil (λ (d : Entry). d.value < 2 ^ 63);
}
listing_from cols low (e ∷ es) h =
    let rest : IsListing cols es = listing_from cols (e.at + 1) es h.4 in
    record {
      rising = rising-cons e.at (map (λ (d : Entry). d.at) es) rest.rising (λ l. starts_above e cols es h.4 (omega (arith, length-map es (λ (d : Entry). d.at))));
      columns = All-cons (λ (d : Entry). d.at < cols) e es h.1 rest.columns;
      positive = All-cons (λ (d : Entry). 0 < d.value) e es h.2 rest.positive;
      fitting = All-cons (λ (d : Entry). d.value < 2 ^ 63) e es h.3 rest.fitting;
    }

-- ---- a step of the walk
pub drop-here : {X : Type 0} (xs : List X) (i : ℕ) (d : X) → i < length xs → drop i xs ≡ get_or xs i d ∷ drop (i + 1) xs
drop-here xs i d l = rw add-one (drop-cons xs i d l)

pub ListedFrom-here : (low cols : ℕ) (es : List Entry) (i : ℕ) (d : Entry) → i < length es → ListedFrom low cols (drop i es) → (low ≤ (get_or es i d).at) × ((get_or es i d).at < cols) × (0 < (get_or es i d).value) × ((get_or es i d).value < 2 ^ 63)
ListedFrom-here low cols es i d l h = let m = subst (ListedFrom low cols) (drop-here es i d l) h in (m.0, m.1, m.2, m.3)

pub ListedFrom-end : (low cols : ℕ) (es : List Entry) (i : ℕ) → length es ≤ i → ListedFrom low cols (drop i es)
ListedFrom-end low cols es i l = subst (ListedFrom low cols) (sym (drop_of_length-le es l)) tt

-- ---- sums along a listing
pub ListedFrom-length : (low cols : ℕ) (es : List Entry) → low ≤ cols → ListedFrom low cols es → low + length es ≤ cols
ListedFrom-length low cols [] l h = omega arith
ListedFrom-length low cols (e ∷ es) l h =
    let rest : e.at + 1 + length es ≤ cols = ListedFrom-length (e.at + 1) cols es (omega arith) h.4 in
    omega arith

-- the sum of f at each listed column, times the value that is listed there
abbrev pub listed_total : (ℕ → ℤ) → List Entry → ℤ
listed_total f [] = pos 0
listed_total f (e ∷ es) = (f e.at *ℤ pos e.value) +ℤ listed_total f es

pub numerator_below : (low cols : ℕ) (es : List Entry) → ListedFrom low cols es → (j : ℕ) → j < low → numerator_at es j ≡ 0
numerator_below low cols [] h j l = refl
numerator_below low cols (e ∷ es) h j l =
    let rest : numerator_at es j ≡ 0 = numerator_below (e.at + 1) cols es h.4 j (omega arith) in
    let other : eqb e.at j ≡ false = ne_eqb e.at j (omega arith) in
    rw other rest

-- z at the place a, and 0 elsewhere
spike : ℕ → ℤ → ℕ → ℤ
spike a z j = cond (eqb a j) z (pos 0)

total-spike_past : (n a : ℕ) (z : ℤ) → n ≤ a → total n (spike a z) ≡ pos 0
unfolding total spike
total-spike_past zero a z l = refl
total-spike_past (suc n) a z l =
    let other : eqb a n ≡ false = ne_eqb a n (omega arith) in
    rw other (omega (arith, ints, total-spike_past n a z (omega arith)))

total-spike : (n a : ℕ) (z : ℤ) → a < n → total n (spike a z) ≡ z
unfolding total spike
total-spike zero a z l = absurd (omega arith)
total-spike (suc n) a z l = elim (cases_eq a n) [
  | inl e ↦
      let here : eqb a n ≡ true = eq-eqb a n e in
      let past : total n (spike a z) ≡ pos 0 = total-spike_past n a z (omega arith) in
      rw here (omega (arith, ints, past))
  | inr ne ↦
      let other : eqb a n ≡ false = ne_eqb a n ne in
      let before : total n (spike a z) ≡ z = total-spike n a z (omega arith) in
      rw other (omega (arith, ints, before))
]

split : (f : ℕ → ℤ) (cols : ℕ) (e : Entry) (es : List Entry) → ListedFrom (e.at + 1) cols es → (j : ℕ)
    → f j *ℤ pos (numerator_at (e ∷ es) j) ≡ spike e.at (f e.at *ℤ pos e.value) j +ℤ (f j *ℤ pos (numerator_at es j))
unfolding spike
split f cols e es h j = elim (cases_eq e.at j) [
  | inl q ↦
      let here : eqb e.at j ≡ true = eq-eqb e.at j q in
      let none : numerator_at es j ≡ 0 = numerator_below (e.at + 1) cols es h j (omega arith) in
      let same : f e.at ≡ f j = ap f q in
      rw (here, none, same) (omega (arith, ints))
  | inr ne ↦
      let other : eqb e.at j ≡ false = ne_eqb e.at j ne in
      rw other (omega (arith, ints))
]

pub total-listed : (f : ℕ → ℤ) (low cols : ℕ) (es : List Entry) → ListedFrom low cols es → total cols (λ j. f j *ℤ pos (numerator_at es j)) ≡ listed_total f es
total-listed f low cols [] h = total-same cols (λ j. f j *ℤ pos 0) (λ _. pos 0) (λ j _. omega (arith, ints)) ∙ total-zero cols
total-listed f low cols (e ∷ es) h =
    total-same cols (λ j. f j *ℤ pos (numerator_at (e ∷ es) j)) (λ j. spike e.at (f e.at *ℤ pos e.value) j +ℤ (f j *ℤ pos (numerator_at es j))) (λ j _. split f cols e es h.4 j)
    ∙ total-add cols (spike e.at (f e.at *ℤ pos e.value)) (λ j. f j *ℤ pos (numerator_at es j))
    ∙ ap (λ z. z +ℤ total cols (λ j. f j *ℤ pos (numerator_at es j))) (total-spike cols e.at (f e.at *ℤ pos e.value) h.1)
    ∙ ap (λ z. (f e.at *ℤ pos e.value) +ℤ z) (total-listed f (e.at + 1) cols es h.4)
