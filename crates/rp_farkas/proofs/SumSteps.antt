-- One more product in a running sum: it stays within 128 bits over 8,192 products of an entry of at most 2^51 and a
-- numerator below 2^63, since 2^13 * 2^51 * (2^63 - 1) is below 2^127.
use Rattle.std.proofs.Common.{◌≡◌, ℕ, ◌+◌, ◌-◌, ◌*◌, ◌^◌, ◌<◌, ◌≤◌, List, length, drop, get_or, ℤ, pos, negsuc, ◌+ℤ◌, ◌*ℤ◌, ◌≤ℤ◌, ◌↔◌, true, false, IsTrue, refl, sym, ◌∙◌, ap, subst, arith, FitsSigned}
use Rattle.std.specs.Int.{w64, w128}
use lib.Signed.{lt_z, mag}
use mir.Val.{SFits, to_z, of_z}
use Rattle.std.specs.Int.RustNames.{unsigned_abs}
use Rattle.std.proofs.lemmas.Int.{ints, to_z-of_z, fits_signed_from_abs, unsigned_abs-mul}
use Rattle.std.proofs.lemmas.Nat.{mul-le}
use Rattle.rp_farkas.specs.declared.entry.Entry.{Entry}
use Rattle.std.proofs.Math.ListN.{drop_of_length-le}
use Rattle.rp_farkas.specs.Limits.{largest_entry, most_columns}
use Rattle.rp_farkas.specs.Listing.{IsListing, numerator_at}
use Rattle.rp_farkas.specs.Total.{total}
use Rattle.rp_farkas.proofs.Totals.{total-suc}
use Rattle.rp_farkas.proofs.Listings.{ListedFrom-length, listed_from, total-listed, listed_total, drop-here}

-- the greatest absolute value of one product
abbrev pub product_bound : ℕ
product_bound = largest_entry * (2 ^ 63 - 1)

pub abs_sum : (s t : ℤ) → unsigned_abs (s +ℤ t) ≤ unsigned_abs s + unsigned_abs t
abs_sum s t = omega (arith, ints)

-- the running sum s of k products, and one more
pub record AddsProduct (s : ℤ) (a : ℤ) (v k : ℕ) : Type 0 where
  pub bounded : unsigned_abs (s +ℤ a *ℤ pos v) ≤ (k + 1) * product_bound
  pub sum_fits : FitsSigned w128 (s +ℤ a *ℤ pos v)

pub adds_product : (s a : ℤ) (v k : ℕ) → unsigned_abs s ≤ k * product_bound → unsigned_abs a ≤ largest_entry → v < 2 ^ 63 → k < most_columns → AddsProduct s a v k
adds_product s a v k hs ha hv hk =
    let size : unsigned_abs (a *ℤ pos v) ≤ product_bound = omega (arith, unsigned_abs-mul a (pos v), mul-le (unsigned_abs a) v (largest_entry) (2 ^ 63 - 1) ha (omega arith)) in
    let whole : unsigned_abs (s +ℤ a *ℤ pos v) ≤ (k + 1) * product_bound = omega (arith, abs_sum s (a *ℤ pos v)) in
    record {
      bounded = whole;
      sum_fits = fits_signed_from_abs w128 (s +ℤ a *ℤ pos v) (omega arith);
    }

-- the product of an entry of 64 bits and a number below 2^63, as `product` computes it in 128 bits
abs_within : (a : ℤ) → SFits w64 a → unsigned_abs a ≤ 2 ^ 63
abs_within (pos n) h = let below = h.sfits in omega arith
abs_within (negsuc n) h = let below = h.sfits in omega arith

factors : (a r s : ℤ) (v : ℕ) → SFits w64 a → mag r < 2 ^ 127 → mag s < 2 ^ 127 → r ≡ to_z w64 (of_z w64 a) → s ≡ pos v
    → to_z w128 (of_z w128 r) *ℤ to_z w128 (of_z w128 s) ≡ a *ℤ pos v
factors a r s v fits_a fits_r fits_s is_r is_s =
    ap (λ (x : ℤ). x *ℤ to_z w128 (of_z w128 s)) (to_z-of_z w128 r (record { sfits = fits_r }) ∙ is_r ∙ to_z-of_z w64 a fits_a)
    ∙ ap (λ (x : ℤ). a *ℤ x) (to_z-of_z w128 s (record { sfits = fits_s }) ∙ is_s)

pub product_fits : (a r s : ℤ) (v : ℕ) → SFits w64 a → v < 2 ^ 63 → mag r < 2 ^ 127 → mag s < 2 ^ 127 → r ≡ to_z w64 (of_z w64 a) → s ≡ pos v
    → FitsSigned w128 (to_z w128 (of_z w128 r) *ℤ to_z w128 (of_z w128 s))
product_fits a r s v fits_a small fits_r fits_s is_r is_s =
    let size : unsigned_abs (a *ℤ pos v) < 2 ^ 127 = omega (arith, unsigned_abs-mul a (pos v), mul-le (unsigned_abs a) v (2 ^ 63) (2 ^ 63 - 1) (abs_within a fits_a) (omega arith)) in
    subst (λ (z : ℤ). FitsSigned w128 z) (sym (factors a r s v fits_a fits_r fits_s is_r is_s)) (fits_signed_from_abs w128 (a *ℤ pos v) size)

pub product_read : (a r s : ℤ) (v : ℕ) → SFits w64 a → v < 2 ^ 63 → mag r < 2 ^ 127 → mag s < 2 ^ 127 → r ≡ to_z w64 (of_z w64 a) → s ≡ pos v
    → to_z w128 (of_z w128 (to_z w128 (of_z w128 r) *ℤ to_z w128 (of_z w128 s))) ≡ a *ℤ pos v
product_read a r s v fits_a small fits_r fits_s is_r is_s =
    to_z-of_z w128 _ (product_fits a r s v fits_a small fits_r fits_s is_r is_s) ∙ factors a r s v fits_a fits_r fits_s is_r is_s

-- what a call of `product` gives, and what a call that gives a sum gives, read back from their bits
pub product_is : (p a z : ℤ) (v : ℕ) → mag p < 2 ^ 127 → mag a < 2 ^ 63 → p ≡ to_z w64 (of_z w64 a) *ℤ pos v → a ≡ z → to_z w128 (of_z w128 p) ≡ z *ℤ pos v
product_is p a z v fits_p fits_a e is =
    to_z-of_z w128 p (record { sfits = fits_p }) ∙ e ∙ ap (λ (x : ℤ). x *ℤ pos v) (to_z-of_z w64 a (record { sfits = fits_a }) ∙ is)

pub sum_is : (s t : ℤ) → mag s < 2 ^ 127 → s ≡ t → to_z w128 (of_z w128 s) ≡ t
sum_is s t fits_s e = to_z-of_z w128 s (record { sfits = fits_s }) ∙ e

-- what a comparison of two such numbers says of what they are
pub at_most : (x y t z : ℤ) → x ≡ t → y ≡ z → lt_z x y ≡ false → z ≤ℤ t
at_most x y t z is_t is_z test = rw (← is_t, ← is_z) (grind (arith, ints))

pub not_at_most : (x y t z : ℤ) → x ≡ t → y ≡ z → lt_z x y ≡ true → ¬ (z ≤ℤ t)
not_at_most x y t z is_t is_z test = rw (← is_t, ← is_z) (grind (arith, ints))

-- a test that fails where something does not hold
pub fails : {A : Type 0} → ¬ A → IsTrue false ↔ A
fails refuted = (λ wrong. absurd cc, λ so. absurd (refuted so))

-- the running sum s and a product r, as `plus_product` adds them
terms : (s r a : ℤ) (v : ℕ) → SFits w128 s → SFits w64 a → mag r < 2 ^ 127 → r ≡ to_z w64 (of_z w64 a) *ℤ pos v
    → to_z w128 (of_z w128 s) +ℤ to_z w128 (of_z w128 r) ≡ s +ℤ (a *ℤ pos v)
terms s r a v fits_s fits_a fits_r is_r =
    ap (λ (x : ℤ). x +ℤ to_z w128 (of_z w128 r)) (to_z-of_z w128 s fits_s)
    ∙ ap (λ (x : ℤ). s +ℤ x) (to_z-of_z w128 r (record { sfits = fits_r }) ∙ is_r ∙ ap (λ (x : ℤ). x *ℤ pos v) (to_z-of_z w64 a fits_a))

pub sum_fits : (s r a : ℤ) (v : ℕ) → SFits w128 s → SFits w64 a → unsigned_abs s ≤ (most_columns - 1) * product_bound → unsigned_abs a ≤ largest_entry → v < 2 ^ 63
    → mag r < 2 ^ 127 → r ≡ to_z w64 (of_z w64 a) *ℤ pos v → FitsSigned w128 (to_z w128 (of_z w128 s) +ℤ to_z w128 (of_z w128 r))
sum_fits s r a v fits_s fits_a room bound small fits_r is_r =
    subst (λ (z : ℤ). FitsSigned w128 z) (sym (terms s r a v fits_s fits_a fits_r is_r)) (adds_product s a v (most_columns - 1) room bound small (omega arith)).sum_fits

pub sum_read : (s r a : ℤ) (v : ℕ) → SFits w128 s → SFits w64 a → unsigned_abs s ≤ (most_columns - 1) * product_bound → unsigned_abs a ≤ largest_entry → v < 2 ^ 63
    → mag r < 2 ^ 127 → r ≡ to_z w64 (of_z w64 a) *ℤ pos v → to_z w128 (of_z w128 (to_z w128 (of_z w128 s) +ℤ to_z w128 (of_z w128 r))) ≡ s +ℤ (a *ℤ pos v)
sum_read s r a v fits_s fits_a room bound small fits_r is_r =
    to_z-of_z w128 _ (sum_fits s r a v fits_s fits_a room bound small fits_r is_r) ∙ terms s r a v fits_s fits_a fits_r is_r

-- the sum so far and what the rest of the listing adds
pub listed_total-step : (f : ℕ → ℤ) (es : List Entry) (i : ℕ) (d : Entry) (s t : ℤ) → i < length es
    → s +ℤ listed_total f (drop i es) ≡ t
    → (s +ℤ (f (get_or es i d).at *ℤ pos (get_or es i d).value)) +ℤ listed_total f (drop (i + 1) es) ≡ t
listed_total-step f es i d s t l h =
    let opened = ap (λ (r : List Entry). s +ℤ listed_total f r) (drop-here es i d l) in
    omega (arith, ints, opened)

pub room_left : (s : ℤ) (k : ℕ) → unsigned_abs s ≤ k * product_bound → k < most_columns → unsigned_abs s ≤ (most_columns - 1) * product_bound
room_left s k h l = omega arith

-- a listing has at most as many entries as the program has columns
pub listing_short : (cols : ℕ) (es : List Entry) → IsListing cols es → length es ≤ cols
listing_short cols es h = omega (arith, ListedFrom-length 0 cols es (omega arith) (listed_from cols 0 es h (λ _. omega arith)))

pub total-listing : (f : ℕ → ℤ) (cols : ℕ) (es : List Entry) → IsListing cols es → total cols (λ j. f j *ℤ pos (numerator_at es j)) ≡ listed_total f es
total-listing f cols es h = total-listed f 0 cols es (listed_from cols 0 es h (λ _. omega arith))

-- the sum after the last entry
pub listed_total-end : (f : ℕ → ℤ) (es : List Entry) (i : ℕ) (s t : ℤ) → length es ≤ i → s +ℤ listed_total f (drop i es) ≡ t → s ≡ t
listed_total-end f es i s t l h =
    let opened = ap (λ (r : List Entry). s +ℤ listed_total f r) (drop_of_length-le es l) in
    omega (arith, ints, opened)

-- what a call of `plus_product` gives, read back from its bits
added : (s r a z : ℤ) (v : ℕ) → mag r < 2 ^ 127 → mag a < 2 ^ 63 → r ≡ s +ℤ (to_z w64 (of_z w64 a) *ℤ pos v) → a ≡ z
    → to_z w128 (of_z w128 r) ≡ s +ℤ (z *ℤ pos v)
added s r a z v fits_r fits_a e is =
    to_z-of_z w128 r (record { sfits = fits_r }) ∙ e ∙ ap (λ (x : ℤ). s +ℤ (x *ℤ pos v)) (to_z-of_z w64 a (record { sfits = fits_a }) ∙ is)

-- a turn of a loop along a listing
pub listing_kept : (f : ℕ → ℤ) (es : List Entry) (i : ℕ) (d : Entry) (s r a t : ℤ) → i < length es → i < most_columns
    → unsigned_abs (f (get_or es i d).at) ≤ largest_entry → (get_or es i d).value < 2 ^ 63
    → (s +ℤ listed_total f (drop i es) ≡ t) × (unsigned_abs s ≤ i * product_bound)
    → mag r < 2 ^ 127 → mag a < 2 ^ 63 → r ≡ s +ℤ (to_z w64 (of_z w64 a) *ℤ pos (get_or es i d).value) → a ≡ f (get_or es i d).at
    → (to_z w128 (of_z w128 r) +ℤ listed_total f (drop (i + 1) es) ≡ t) × (unsigned_abs (to_z w128 (of_z w128 r)) ≤ (i + 1) * product_bound)
listing_kept f es i d s r a t l small bound fits h fits_r fits_a e is =
    let v : ℕ = (get_or es i d).value in
    let z : ℤ = f (get_or es i d).at in
    let gives : to_z w128 (of_z w128 r) ≡ s +ℤ (z *ℤ pos v) = added s r a z v fits_r fits_a e is in
    let P : ℤ → Type 0 = λ x. (x +ℤ listed_total f (drop (i + 1) es) ≡ t) × (unsigned_abs x ≤ (i + 1) * product_bound) in
    subst P (sym gives) (listed_total-step f es i d s t l h.0, (adds_product s z v i h.1 bound fits small).bounded)

-- a turn of a loop along the rows
pub index_kept : (f : ℕ → ℤ) (i v : ℕ) (s r a : ℤ) → i < most_columns → unsigned_abs a ≤ largest_entry → v < 2 ^ 63
    → (s ≡ total i f) × (unsigned_abs s ≤ i * product_bound)
    → mag r < 2 ^ 127 → mag a < 2 ^ 63 → r ≡ s +ℤ (to_z w64 (of_z w64 a) *ℤ pos v) → f i ≡ a *ℤ pos v
    → (to_z w128 (of_z w128 r) ≡ total (i + 1) f) × (unsigned_abs (to_z w128 (of_z w128 r)) ≤ (i + 1) * product_bound)
index_kept f i v s r a small bound fits h fits_r fits_a e is =
    let gives : to_z w128 (of_z w128 r) ≡ s +ℤ (a *ℤ pos v) = added s r a a v fits_r fits_a e refl in
    let P : ℤ → Type 0 = λ x. (x ≡ total (i + 1) f) × (unsigned_abs x ≤ (i + 1) * product_bound) in
    let next : s +ℤ (a *ℤ pos v) ≡ total (i + 1) f = ap (λ (x : ℤ). x +ℤ (a *ℤ pos v)) h.0 ∙ ap (λ (x : ℤ). total i f +ℤ x) (sym is) ∙ sym (total-suc i f) in
    subst P (sym gives) (next, (adds_product s a v i h.1 bound fits small).bounded)

pub index_start : (f : ℕ → ℤ) → (pos 0 ≡ total 0 f) × (unsigned_abs (pos 0) ≤ 0 * product_bound)
unfolding total
index_start f = (refl, omega arith)
