-- Afriat's numbers at worked tables. A table stands as its costs: a row for each observation's prices.
use Rattle.std.proofs.Common.{◌≡◌, ℕ, zero, suc, ◌<◌, ◌≤◌, List, [], ◌∷◌, inl, inr, refl, arith, lit<, lit≤, slice_index, slice_index_or}
use Rattle.std.proofs.lemmas.Int.{ints}
use Rattle.std.specs.Prelude.{ℤ, pos, negsuc, ◌≤ℤ◌}
use Rattle.rp_evidence.specs.Afriat.{IsAfriatModel, allowed_by, spent}
use Rattle.rp_evidence.specs.StandardNumbers.{AreNumbersBy, FitsMultiplier, FitsUtility, IsClassUtilityBy, IsMultiplierBy, PassWidthFirstAt}

-- ---- the numbers without levels of the observations' own

abbrev allowed : (ℕ → ℕ → ℕ) → (ℕ → ℤ) → (ℕ → ℕ) → ℕ → ℕ → ℤ
allowed c = allowed_by c (spent c)

abbrev IsClassUtility : ℕ → (ℕ → ℕ → ℕ) → (ℕ → ℕ) → (ℕ → ℤ) → (ℕ → ℕ) → ℕ → ℤ → Type 0
IsClassUtility n c = IsClassUtilityBy n c (spent c)

abbrev IsMultiplier : ℕ → (ℕ → ℕ → ℕ) → (ℕ → ℕ) → (ℕ → ℤ) → ℕ → ℕ → Type 0
IsMultiplier n c = IsMultiplierBy n c (spent c)

abbrev AreNumbersOf : ℕ → (ℕ → ℕ → ℕ) → (ℕ → ℕ) → (ℕ → ℤ) → (ℕ → ℕ) → ℕ → Type 0
AreNumbersOf n c = AreNumbersBy n c (spent c)

-- ---- tables

abbrev costs : List (List ℕ) → ℕ → ℕ → ℕ
costs rows s t = slice_index (slice_index_or rows s []) t

each_of_three : (P : ℕ → Type 0) → P 0 → P 1 → P 2 → (s : ℕ) → s < 3 → P s
each_of_three P a b c zero l = a
each_of_three P a b c (suc zero) l = b
each_of_three P a b c (suc (suc zero)) l = c
each_of_three P a b c (suc (suc (suc s))) l = absurd (omega arith)

-- three classes of one observation each
abbrev count : ℕ → ℕ
count s = slice_index (3 ∷ 2 ∷ 1 ∷ []) s

-- ---- the multipliers 1, 5 and 25

abbrev falling : ℕ → ℕ → ℕ
falling = costs ((8 ∷ 3 ∷ 2 ∷ []) ∷ (7 ∷ 6 ∷ 1 ∷ []) ∷ (8 ∷ 3 ∷ 2 ∷ []) ∷ [])

abbrev utility : ℕ → ℤ
utility s = slice_index_or (pos 0 ∷ negsuc 4 ∷ negsuc 29 ∷ []) s (pos 0)

abbrev multiplier : ℕ → ℕ
multiplier s = slice_index (1 ∷ 5 ∷ 25 ∷ []) s

first_utility : IsClassUtility 3 falling count utility multiplier 3 (pos 0)
first_utility = record {
  highest = λ h. refl;
  least = λ s t a b l. absurd (none s a l);
  reached = λ h a l. absurd (none h a l);
}
  where
    none : (s : ℕ) → s < 3 → ¬ (3 < count s)
    none = each_of_three (λ s. ¬ (3 < count s)) (λ l. omega arith) (λ l. omega arith) (λ l. omega arith)

last_utility : IsClassUtility 3 falling count utility multiplier 1 (negsuc 29)
last_utility = record {
  highest = λ h. absurd (omega (arith, h 0 (lit< tt)));
  least = λ s t a b. each_of_three (λ t. (s : ℕ) → s < 3 → 1 < count s → count t ≡ 1 → negsuc 29 ≤ℤ allowed falling utility multiplier s t)
      (λ s a l e. absurd (omega arith))
      (λ s a l e. absurd (omega arith))
      (each_of_three (λ s. 1 < count s → count 2 ≡ 1 → negsuc 29 ≤ℤ allowed falling utility multiplier s 2)
      (λ l e. omega (arith, ints)) (λ l e. omega (arith, ints)) (λ l e. absurd (omega arith)))
      t b s a;
  reached = λ h a l. (1, 2, lit< tt, lit< tt, lit< tt, refl, refl);
}

last_multiplier : IsMultiplier 3 falling count utility 2 25
last_multiplier = record {
  at_least_one = lit≤ tt;
  enough = each_of_three (λ t. 1 < count t → utility t ≤ℤ allowed falling utility (λ i. 25) 2 t)
      (λ l. omega (arith, ints)) (λ l. omega (arith, ints)) (λ l. absurd (omega arith));
  least = λ j l h. omega (arith, ints, h 1 (lit< tt) (lit< tt));
}

last_numbers : AreNumbersOf 3 falling count utility multiplier 2
last_numbers = record { utility_is = last_utility; multiplier_is = last_multiplier }

model : IsAfriatModel 3 falling utility multiplier
model = record {
  at_least_one = each_of_three (λ s. 1 ≤ multiplier s) (lit≤ tt) (lit≤ tt) (lit≤ tt);
  none_above = λ s t a b. row s a t b;
}
  where
    row : (s : ℕ) → s < 3 → (t : ℕ) → t < 3 → utility t ≤ℤ allowed falling utility multiplier s t
    row s a t b = each_of_three (λ s. (t : ℕ) → t < 3 → utility t ≤ℤ allowed falling utility multiplier s t)
        (each_of_three (λ t. utility t ≤ℤ allowed falling utility multiplier 0 t) (omega (arith, ints)) (omega (arith, ints)) (omega (arith, ints)))
        (each_of_three (λ t. utility t ≤ℤ allowed falling utility multiplier 1 t) (omega (arith, ints)) (omega (arith, ints)) (omega (arith, ints)))
        (each_of_three (λ t. utility t ≤ℤ allowed falling utility multiplier 2 t) (omega (arith, ints)) (omega (arith, ints)) (omega (arith, ints)))
        s a t b

-- a multiplier of 24 does not serve, one of 26 is not the least, and no model of this table has every multiplier 1
not_less : ¬ IsMultiplier 3 falling count utility 2 24
not_less is = omega (arith, ints, is.enough 1 (lit< tt) (lit< tt))

not_more : ¬ IsMultiplier 3 falling count utility 2 26
not_more is = omega (arith, is.least 25 (lit≤ tt) last_multiplier.enough)

no_model_of_ones : (u : ℕ → ℤ) → ¬ IsAfriatModel 3 falling u (λ s. 1)
no_model_of_ones u is = omega (arith, ints, is.none_above 0 1 (lit< tt) (lit< tt), is.none_above 1 0 (lit< tt) (lit< tt))

-- ---- one observation

alone : AreNumbersOf 1 (λ s t. 6) (λ s. 1) (λ s. pos 0) (λ s. 1) 0
alone = record {
  utility_is = record { highest = λ h. refl; least = λ s t a b l. absurd (omega arith); reached = λ h a l. absurd (omega arith) };
  multiplier_is = record { at_least_one = lit≤ tt; enough = λ t a l. absurd (omega arith); least = λ j l h. l };
}

-- ---- prices (N, 1), (1, N), (N, 1) with N = 1048576: the third multiplier is the first number past its width

abbrev growing : ℕ → ℕ → ℕ
growing = costs ((1099513724928 ∷ 1048577 ∷ 1048576 ∷ []) ∷ (1099512676353 ∷ 1099512676352 ∷ 1 ∷ []) ∷ (1099513724928 ∷ 1048577 ∷ 1048576 ∷ []) ∷ [])

abbrev deep_utility : ℕ → ℤ
deep_utility s = slice_index_or (pos 0 ∷ negsuc 1099512676350 ∷ negsuc 1208928125457638387351551 ∷ []) s (pos 0)

abbrev steep_multiplier : ℕ → ℕ
steep_multiplier s = slice_index (1 ∷ 1099512676351 ∷ 1208928125456538874675201 ∷ []) s

steep_last : IsMultiplier 3 growing count deep_utility 2 1208928125456538874675201
steep_last = record {
  at_least_one = lit≤ tt;
  enough = each_of_three (λ t. 1 < count t → deep_utility t ≤ℤ allowed growing deep_utility (λ i. 1208928125456538874675201) 2 t)
      (λ l. omega (arith, ints)) (λ l. omega (arith, ints)) (λ l. absurd (omega arith));
  least = λ j l h. omega (arith, ints, h 1 (lit< tt) (lit< tt));
}

withheld_at_third : PassWidthFirstAt 3 count deep_utility steep_multiplier 2
withheld_at_third = record {
  observed = lit< tt;
  higher_fit = each_of_three (λ s. 1 < count s → FitsUtility (deep_utility s) × FitsMultiplier (steep_multiplier s))
      (λ l. ((omega (arith, ints), omega (arith, ints)), omega arith)) (λ l. ((omega (arith, ints), omega (arith, ints)), omega arith)) (λ l. absurd (omega arith));
  passes = inr (
    (omega (arith, ints), omega (arith, ints)),
    λ h. omega arith,
    λ s l e. each_of_three (λ s. s < 2 → count s ≡ 1 → FitsMultiplier (steep_multiplier s))
        (λ l e. absurd (omega arith)) (λ l e. absurd (omega arith)) (λ l e. absurd (omega arith)) s (omega arith) l e,
  );
}

-- and not at the second, which is within its widths
not_at_second : ¬ PassWidthFirstAt 3 count deep_utility steep_multiplier 1
not_at_second first = elim first.passes [ inl h ↦ h.0 (omega (arith, ints), omega (arith, ints)) | inr h ↦ h.1 (omega arith) ]
