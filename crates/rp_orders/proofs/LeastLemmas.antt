-- The least of the sums that were looked at, as the loops over menus and over letters go on.
use Rattle.std.proofs.Common.{◌≡◌, ◌<◌, ◌≤◌, ◌≤ℤ◌, ◌<ℤ◌, ◌+◌, ◌^◌, ◌⊎◌, inl, inr, ℕ, ℤ, T, true, false, not, sym, subst, arith}
use Rattle.std.specs.Int.Signed.{<ℤ-≤ℤ_trans, ≤ℤ_refl, lt_z, lt_z_no, lt_z_yes}
use Rattle.std.proofs.lemmas.Bool.{cases_lt}
use Rattle.std.proofs.Math.Nat.{pow-le-pow_right}
use Rattle.std.proofs.lemmas.Int.{ints}
use Rattle.rp_menu.specs.MenuLists.{MenuList, has_letter}
use Rattle.rp_menu.proofs.MenuLetters.{letter_within}
use Rattle.rp_orders.specs.InnerLeast.{IsLeastBefore}
use Rattle.rp_orders.specs.LeastSums.{SumComesBefore}
use Rattle.rp_orders.specs.MenuSums.{sum_at}
use Rattle.rp_orders.specs.declared.least.LeastSum.{LeastSum}
use Rattle.rp_patch.specs.declared.apportionment.Units.{Units}

-- what comes before the next letter comes before this one, or is this one
split : (m z b y : ℕ) → SumComesBefore b y m (z + 1) → SumComesBefore b y m z ⊎ ((b ≡ m) × (y ≡ z))
split m z b y (inl l) = inl (inl l)
split m z b y (inr (e, l)) = elim (cases_lt y z) [
  | inl less ↦ inl (inr (e, less))
  | inr g ↦ inr (e, omega (arith, l, g))
]

module _ (list : MenuList) (units : Units) where
  abbrev sum : ℕ → ℕ → ℤ
  sum b y = sum_at list units y b

  module _ (m z : ℕ) (found : LeastSum) (is : IsLeastBefore list units m z found) where
    -- the sum is no less
    pub kept : (x : ℤ) → x ≡ sum m z → found.sum ≤ℤ x → IsLeastBefore list units m (z + 1) found
    kept x exact no_less = record {
      within = is.within;
      held = is.held;
      exact = is.exact;
      least = λ b y on before. elim (split m z b y before) [
        | inl earlier ↦ is.least b y on earlier
        | inr here ↦ rw (here.0, here.1, ← exact) no_less
      ];
      first = is.first;
    }

    -- the sum is less
    pub replaced : (new : LeastSum) → new.menu ≡ m → new.letter ≡ z → m < 2 ^ list.letters → has_letter m z ≡ true → new.sum ≡ sum m z → new.sum <ℤ found.sum → IsLeastBefore list units m (z + 1) new
    replaced new menu letter within held exact less = record {
      within = subst (λ b. b < 2 ^ list.letters) (sym menu) within;
      held = rw (menu, letter) held;
      exact = rw (menu, letter) exact;
      least = λ b y on before. elim (split m z b y before) [
        | inl earlier ↦ weaken new.sum (sum b y) (<ℤ-≤ℤ_trans less (is.least b y on earlier))
        | inr here ↦ rw (here.0, here.1, exact) (≤ℤ_refl (sum m z))
      ];
      first = λ b y on before. <ℤ-≤ℤ_trans less (is.least b y on (rw (menu, letter) at before));
    }
      where
        weaken : (s t : ℤ) → s <ℤ t → s ≤ℤ t
        weaken s t l = omega (arith, ints, l)

  -- all letters of a menu
  pub next_menu : (m z : ℕ) (found : LeastSum) → IsLeastBefore list units m z found → 6 ≤ z → m < 64 → IsLeastBefore list units (m + 1) 0 found
  next_menu m z found is all small = record {
    within = is.within;
    held = is.held;
    exact = is.exact;
    least = λ b y on before. is.least b y on (earlier b y on before);
    first = is.first;
  }
    where
      earlier : (b y : ℕ) → has_letter b y ≡ true → SumComesBefore b y (m + 1) 0 → SumComesBefore b y m z
      earlier b y on (inl l) = elim (cases_lt b m) [
        | inl less ↦ inl less
        | inr g ↦
            let here : b ≡ m = omega (arith, l, g) in
            let inside = letter_within b 6 y (omega (arith, here, small)) on in
            inr (here, omega (arith, inside, all))
      ]
      earlier b y on (inr (e, l)) = absurd (omega (arith, l))

-- a menu is one of the letters that there may be
pub small_menu : (letters menu : ℕ) → letters ≤ 6 → menu < 2 ^ letters → menu < 64
small_menu letters menu few within =
    let most : 2 ^ letters ≤ 2 ^ 6 = pow-le-pow_right {n = 2} (omega arith) {i = letters} {j = 6} (omega (arith, few)) in
    omega (arith, within, most)

-- what a test of signed numbers says
pub less_if : (x y : ℤ) → lt_z x y ≡ true → x <ℤ y
less_if x y passed = lt_z_yes (subst T (sym passed) tt)

pub no_less_if : (x y : ℤ) → lt_z x y ≡ false → y ≤ℤ x
no_less_if x y failed = lt_z_no (subst (λ b. T (not b)) (sym failed) tt)
