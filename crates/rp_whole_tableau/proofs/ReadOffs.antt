-- What is read off a program by a common divisor of its numbers.
use Prim.Native.Nat.{◌∣◌}
use Rattle.std.proofs.Common.{true, ltb, length-append, ◌^◌, slice_index_or, ◌≤ℤ◌, ◌≡◌, ℕ, zero, suc, ◌+◌, ◌*◌, ◌/◌, ◌<◌, ◌≤◌, ◌⊎◌, ◌↔◌, ℤ, pos, negsuc, List, [], ◌∷◌, ◌++◌, length, slice_index, get_or, Vec, Option, Some, None, inl, inr, ap, refl, sym, subst, ◌∙◌, arith, add-one}
use Rattle.std.specs.Prelude.{MatchOption, Result, Ok, Err, IfOk, IfSome}
use Rattle.std.specs.Int.{IsGcd}
use Rattle.std.specs.Int.RustNames.{unsigned_abs}
use Rattle.std.specs.declared.alloc.Global.{Global}
use Rattle.std.proofs.lemmas.Bool.{cases_lt, false≢true, le-ltb}
use Rattle.std.proofs.lemmas.Int.{ints}
use Rattle.std.proofs.Math.Nat.{div-mul_cancel}
use Rattle.std.proofs.lemmas.Nat.Gcd.{dvd_refl, dvd_trans}
use Rattle.rp_farkas.specs.declared.entry.Entry.{Entry}
use Rattle.rp_farkas.specs.declared.entry.Pair.{Pair}
use Rattle.rp_whole_tableau.specs.InnerReadOff.{ArePricesIn, DividesPoint, DividesPointBelow, DividesPrices, DividesWith}
use Rattle.rp_whole_tableau.specs.Pivots.{entry_in}
use Rattle.rp_whole_tableau.specs.Programs.{IsTooWide, NumberPasses, SomeSidePasses, objective_of, rows_in, width_of}
use Rattle.rp_whole_tableau.specs.ReadOff.{AreAmounts, ArePricesBy, HasNoAmount, IsAmount, IsPairOf, IsPointBy, IsPointOf}
use Rattle.rp_whole_tableau.specs.declared.grown.Grown.{Grown}
use Rattle.rp_whole_tableau.specs.declared.tableau.Tableau.{Tableau}

-- ---- divisors

-- what divides the numbers of the first rows, and then that of the next
below_and_here : (P : ℕ → Type 0) (n : ℕ) → ((i : ℕ) → i < n → P i) → P n → (i : ℕ) → i < n + 1 → P i
below_and_here P n below here i l = elim (cases_lt i n) [
  | inl before ↦ below i before
  | inr after ↦ (let same : n ≡ i = omega (arith, l, after) in subst (λ (m : ℕ). P m) same here)
]

still_some : (a b g : ℕ) → 1 ≤ a → ((g ≡ 0) ↔ ((a ≡ 0) × (b ≡ 0))) → 1 ≤ g
still_some a b zero some zeros = absurd (let none = (zeros.0 refl).0 in omega (arith, some, none))
still_some a b (suc g) some zeros = omega arith

pub with_entry : (a b g : ℕ) → 1 ≤ a → IsGcd a b g → ((g ≡ 0) ↔ ((a ≡ 0) × (b ≡ 0))) → (entry seen : ℤ) → b ≡ unsigned_abs seen → seen ≡ entry → (1 ≤ g) × (g ∣ a) × (g ∣ unsigned_abs entry)
with_entry a b g some gcd zeros entry seen sized is = (still_some a b g some zeros, gcd.0, subst (λ (n : ℕ). g ∣ n) (sized ∙ ap unsigned_abs is) gcd.1)

pub divides_begun : (t : Tableau) → 1 ≤ t.den → DividesPointBelow t 0 t.den
divides_begun t some = record { some = some; den = dvd_refl t.den; amounts = λ i l. absurd (omega (arith, l)) }

pub divides_more : (t : Tableau) (i common divisor : ℕ) → DividesPointBelow t i common → 1 ≤ divisor → divisor ∣ common → (width_of t ≤ slice_index t.basis.items i → divisor ∣ unsigned_abs (entry_in t.rows.items i 0)) → DividesPointBelow t (i + 1) divisor
divides_more t i common divisor so_far some divides amount = record {
  some = some;
  den = dvd_trans divisor divides so_far.den;
  amounts = below_and_here (λ k. width_of t ≤ slice_index t.basis.items k → divisor ∣ unsigned_abs (entry_in t.rows.items k 0)) i
      (λ k l added. dvd_trans divisor divides (so_far.amounts k l added)) amount;
}

-- with the prices
pub prices_begun : (t : Tableau) (first : ℕ) → 1 ≤ first → DividesWith t first 0 first
prices_begun t first some = record { some = some; divides = dvd_refl first; prices = λ i l. absurd (omega (arith, l)) }

pub prices_more : (t : Tableau) (first i common divisor : ℕ) → DividesWith t first i common → 1 ≤ divisor → divisor ∣ common → divisor ∣ unsigned_abs (entry_in t.rows.items (objective_of t) (i + 1)) → DividesWith t first (i + 1) divisor
prices_more t first i common divisor so_far some divides here = record {
  some = some;
  divides = dvd_trans divisor divides so_far.divides;
  prices = below_and_here (λ k. divisor ∣ unsigned_abs (entry_in t.rows.items (objective_of t) (k + 1))) i
      (λ k l. dvd_trans divisor divides (so_far.prices k l)) here;
}

-- what divides the divisor of the point divides the point
pub point_by : (t : Tableau) (first common : ℕ) → 1 ≤ common → common ∣ first → DividesPoint t first → DividesPoint t common
point_by t first common some divides by = record {
  some = some;
  den = dvd_trans common divides by.den;
  amounts = λ i l added. dvd_trans common divides (by.amounts i l added);
}

-- ---- columns

pub rows_seen : (columns seen : List (Vec ℕ Global)) (n : ℕ) (column : Vec ℕ Global) → seen ≡ columns → true ≡ ltb n (length seen) → column ≡ slice_index_or seen n column → column.items ≡ rows_in columns n
rows_seen columns seen n column same inside read = go seen n column (below_length n (length seen) inside) read ∙ ap (λ (them : List (Vec ℕ Global)). rows_in them n) same
  where
    go : (columns : List (Vec ℕ Global)) (n : ℕ) (column : Vec ℕ Global) → n < length columns → column ≡ get_or columns n column → column.items ≡ rows_in columns n
    go [] n column l e = absurd (omega (arith, l))
    go (first ∷ columns) zero column l e = ap (λ (v : Vec ℕ Global). v.items) e
    go (first ∷ columns) (suc n) column l e = go columns n column (omega (arith, l)) e

    below_length : (b n : ℕ) → true ≡ ltb b n → b < n
    below_length b n e = elim (cases_lt b n) [ inl l ↦ l | inr l ↦ absurd (false≢true (sym (e ∙ le-ltb b n l))) ]

pub rows_past : (columns : List (Vec ℕ Global)) (n : ℕ) → length columns ≤ n → rows_in columns n ≡ []
rows_past [] n l = refl
rows_past (first ∷ columns) zero l = absurd (omega (arith, l))
rows_past (first ∷ columns) (suc n) l = rows_past columns n (omega (arith, l))

-- ---- amounts

-- a number that comes to nothing was nothing
pub no_amount : (t : Tableau) (common i value : ℕ) (side : ℤ) → side ≡ entry_in t.rows.items i 0 → DividesPoint t common → i < objective_of t → width_of t ≤ slice_index t.basis.items i → (common ∣ unsigned_abs side → pos (value * common) ≡ side) → value ≡ 0 → HasNoAmount t i
no_amount t common i value side is divides inside added exact none =
    inr (sym is ∙ sym (exact (subst (λ (z : ℤ). common ∣ unsigned_abs z) (sym is) (divides.amounts i inside added))) ∙ ap (λ n. pos (n * common)) none ∙ ap pos (let zero_times : 0 * common ≡ 0 = omega arith in zero_times))

pub is_amount : (t : Tableau) (common i : ℕ) (entry : Entry) (added : ℕ) (side : ℤ) → side ≡ entry_in t.rows.items i 0 → DividesPoint t common → i < objective_of t → slice_index t.basis.items i ≡ width_of t + added → entry.at ≡ added → 0 < entry.value → (common ∣ unsigned_abs side → pos (entry.value * common) ≡ side) → IsAmount t common i entry
is_amount t common i entry added side is divides inside column same some exact = record {
  column = column ∙ ap (λ n. width_of t + n) (sym same);
  some = some;
  amount = exact (subst (λ (z : ℤ). common ∣ unsigned_abs z) (sym is) (divides.amounts i inside (omega (arith, column)))) ∙ is;
}

pub some_side : (t : Tableau) (i : ℕ) → i < objective_of t → (2 ^ 32 ≤ slice_index t.basis.items i) ⊎ IsTooWide (entry_in t.rows.items i 0) → SomeSidePasses t
some_side t i inside passes = (i, inside, passes)

-- a number over a divisor of it, exactly
pub exact_den : (whole common part : ℕ) → part ≡ whole / common → common ∣ whole → part * common ≡ whole
exact_den whole common part e divides = ap (λ n. n * common) e ∙ div-mul_cancel common divides

pub exact_part : (n : ℤ) (common size : ℕ) → pos 0 ≤ℤ n → size ≡ unsigned_abs n → common ∣ unsigned_abs n → pos (size / common * common) ≡ n
exact_part (pos m) common size some e divides = ap pos (ap (λ s. s / common * common) e ∙ div-mul_cancel common divides)
exact_part (negsuc m) common size some e divides = absurd (omega (arith, ints, some))

pub amount_none : (t : Tableau) (common i : ℕ) (entries : List Entry) → AreAmounts t common i entries → HasNoAmount t i → AreAmounts t common (i + 1) entries
amount_none t common i entries so_far none = rw add-one (inl (none, so_far))

pub amount_more : (t : Tableau) (common i : ℕ) (entries : List Entry) (entry : Entry) → AreAmounts t common i entries → IsAmount t common i entry → AreAmounts t common (i + 1) (entries ++ entry ∷ [])
amount_more t common i entries entry so_far is = rw add-one (inr (entries, entry, so_far, is, refl))

-- ---- prices

pub price_more : (t : Tableau) (common s : ℕ) (prices : List ℕ) (price : ℕ) → s < objective_of t → length prices ≡ s → (DividesPrices t (objective_of t) common → (i : ℕ) → i < s → pos (slice_index prices i * common) ≡ entry_in t.rows.items (objective_of t) (i + 1))
    → (seen : ℤ) → seen ≡ entry_in t.rows.items (objective_of t) (s + 1) → (common ∣ unsigned_abs seen → pos (price * common) ≡ seen)
    → (length (prices ++ price ∷ []) ≡ s + 1) × (DividesPrices t (objective_of t) common → (i : ℕ) → i < s + 1 → pos (slice_index (prices ++ price ∷ []) i * common) ≡ entry_in t.rows.items (objective_of t) (i + 1))
price_more t common s prices price inside many so_far seen is exact = (
  length-append prices (price ∷ []) ∙ (let e : length prices + 1 ≡ s + 1 = omega (arith, many) in e),
  λ divides. below_and_here (λ i. pos (slice_index (prices ++ price ∷ []) i * common) ≡ entry_in t.rows.items (objective_of t) (i + 1)) s
      (λ i l. ap (λ n. pos (n * common)) (before prices i (omega (arith, l, many))) ∙ so_far divides i l)
      (ap (λ n. pos (n * common)) (ap (slice_index (prices ++ price ∷ [])) (sym many) ∙ last prices) ∙ exact (subst (λ (z : ℤ). common ∣ unsigned_abs z) (sym is) (divides s inside)) ∙ is),
)
  where
    before : (xs : List ℕ) (k : ℕ) → k < length xs → slice_index (xs ++ price ∷ []) k ≡ slice_index xs k
    before [] k l = absurd (omega (arith, l))
    before (y ∷ xs) zero l = refl
    before (y ∷ xs) (suc k) l = before xs k (omega (arith, l))

    last : (xs : List ℕ) → slice_index (xs ++ price ∷ []) (length xs) ≡ price
    last [] = refl
    last (y ∷ xs) = last xs

pub some_prices : (t : Tableau) (common : ℕ) (found : Option (Vec ℕ Global)) (prices : Vec ℕ Global) → found ≡ Some prices → IfSome found (λ them. DividesPrices t (objective_of t) common → ArePricesIn t common them.items) → DividesPrices t (objective_of t) common → ArePricesIn t common prices.items
some_prices t common found prices is so divides = (subst (λ (o : Option (Vec ℕ Global)). IfSome o (λ them. DividesPrices t (objective_of t) common → ArePricesIn t common them.items)) is so) divides

-- ---- the pair

pub point_taken : {E : Type 0} (g : Grown) (common : ℕ) (prices : List ℕ) (r : Result (Option Pair) E) → IfOk r (λ found. MatchOption found (NumberPasses g) (λ pair. IsPointBy g common pair.den pair.y × (pair.x ≡ prices)))
    → IfOk r (λ found. MatchOption found (NumberPasses g) (IsPointOf g))
point_taken g common prices (Ok (Some pair)) is = (common, is.0)
point_taken g common prices (Ok None) is = is
point_taken g common prices (Err e) is = tt

pub pair_taken : {E : Type 0} (g : Grown) (common : ℕ) (prices : List ℕ) (r : Result (Option Pair) E) → ArePricesIn g.tableau common prices → IfOk r (λ found. MatchOption found (NumberPasses g) (λ pair. IsPointBy g common pair.den pair.y × (pair.x ≡ prices)))
    → IfOk r (λ found. MatchOption found (NumberPasses g) (IsPairOf g))
pair_taken g common prices (Ok (Some pair)) are is = (
  common,
  is.0,
  subst (λ (xs : List ℕ). ArePricesBy g common xs) (sym is.1) (record { many = are.many; each = are.each }),
)
pair_taken g common prices (Ok None) are is = is
pair_taken g common prices (Err e) are is = tt
