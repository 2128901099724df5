-- The letters of a menu by its number.
use Rattle.std.proofs.Common.{◌≡◌, ℕ, zero, suc, ◌+◌, ◌-◌, ◌*◌, ◌/◌, ◌%◌, ◌<◌, ◌≤◌, ◌^◌, ◌==◌, Bool, true, false, List, length, nat_lt, inl, inr, refl, sym, ap, subst, ◌∙◌, arith, max, lit<, add-one, if◌then◌else◌}
use Rattle.std.specs.Int.{bit_at}
use Rattle.std.proofs.lemmas.Bool.{cases_eq, cases_lt, ltb-true}
use Rattle.std.proofs.lemmas.Bool.Decides.{nat_tests}
use Rattle.std.proofs.lemmas.Nat.{div-mul-add, pow-add}
use Rattle.std.proofs.lemmas.Nat.Bits.{bit_at_above}
use Rattle.std.proofs.Math.Nat.{add-mul-div_left, add-mul-mod_self_right, div-eq_of_lt-le, pow-suc, pow-le-pow_right}
use Rattle.rp_num.specs.Below.{greatest_below}
use Rattle.rp_table.specs.Sums.{sum_below}
use Rattle.rp_menu.specs.Cells.{menu_row_at, letters_of, top_of}
use Rattle.rp_menu.specs.MenuLists.{has_letter}
use Rattle.rp_menu.specs.declared.menu_row.MenuRow.{MenuRow}
use Rattle.rp_sheet.proofs.PlaceLemmas.{greatest_at_most}

-- a letter of a menu is one of so many, where the number of the menu is below that power of 2
pub letter_within : (menu n x : ℕ) → menu < 2 ^ n → has_letter menu x ≡ true → x < n
letter_within menu n x small has = elim (cases_lt x n) [
  | inl l ↦ l
  | inr g ↦
      let none : bit_at menu x ≡ 0 = bit_at_above menu n x small g in
      absurd (grind (arith, nat_tests))
]

-- a letter that is not one of so many is in no such menu
pub no_letter : (menu n x : ℕ) → menu < 2 ^ n → ¬ (x < n) → nat_lt x n ≡ has_letter menu x
no_letter menu n x small outside =
    is_off (nat_lt x n) (λ e. outside (ltb-true x n e)) ∙ sym (is_off (has_letter menu x) (λ e. outside (letter_within menu n x small e)))
  where
    is_off : (b : Bool) → ¬ (b ≡ true) → b ≡ false
    is_off true n = absurd (n refl)
    is_off false n = refl

double : (n : ℕ) → 2 ^ suc n ≡ 2 ^ n + 2 ^ n
double n = let e : 2 ^ n * 2 ≡ 2 ^ n + 2 ^ n = omega arith in pow-suc 2 n ∙ e

-- without the highest letter a number is below the half
halved : (menu n : ℕ) → menu < 2 ^ suc n → has_letter menu n ≡ false → menu < 2 ^ n
halved menu n small none = elim (cases_lt menu (2 ^ n)) [
  | inl l ↦ l
  | inr g ↦
      let at_least : 1 * 2 ^ n ≤ menu = omega (arith, g) in
      let below : menu < (1 + 1) * 2 ^ n = omega (arith, small, double n) in
      let bit : bit_at menu n ≡ 1 = ap (λ q. q % 2) (div-eq_of_lt-le {k = 1} (2 ^ n) {m = menu} at_least below) in
      let has : has_letter menu n ≡ true = ap (λ q. q == 1) bit in
      cc (has, none)
]

abbrev letters_below : ℕ → ℕ → ℕ
letters_below menu n = greatest_below n (λ x. if has_letter menu x then x + 1 else 0)

-- a menu's number is below the power of its greatest letter
top_power : (menu n : ℕ) → menu < 2 ^ n → menu < 2 ^ letters_below menu n
top_power menu zero small = small
top_power menu (suc n) small = by (has_letter menu n) refl (top_power menu n)
  where
    by : (b : Bool) → has_letter menu n ≡ b → (menu < 2 ^ n → menu < 2 ^ letters_below menu n) → menu < 2 ^ max (letters_below menu n) (if b then n + 1 else 0)
    by true has rest =
        let most = pow-le-pow_right {n = 2} (lit< tt) {i = n + 1} {j = max (letters_below menu n) (n + 1)} (omega arith) in
        let same : 2 ^ (n + 1) ≡ 2 ^ suc n = ap (λ k. 2 ^ k) (add-one n) in
        omega (arith, small, most, same)
    by false none rest =
        let low = rest (halved menu n small none) in
        let most = pow-le-pow_right {n = 2} (lit< tt) {i = letters_below menu n} {j = max (letters_below menu n) 0} (omega arith) in
        omega (arith, low, most)

pub below_top : (menu : ℕ) → menu < 2 ^ 6 → menu < 2 ^ top_of menu
below_top menu small = top_power menu 6 small

at_most : (b : Bool) (x : ℕ) → x < 6 → (if b then x + 1 else 0) ≤ 6
at_most true x few = omega (arith, few)
at_most false x few = omega arith

pub few_in_menu : (menu : ℕ) → top_of menu ≤ 6
few_in_menu menu = greatest_at_most (λ x. if has_letter menu x then x + 1 else 0) 6 6 (λ x few. at_most (has_letter menu x) x few)

at_least : (f : ℕ → ℕ) (n k : ℕ) → k < n → f k ≤ greatest_below n f
at_least f zero k inside = absurd (omega (arith, inside))
at_least f (suc n) k inside = elim (cases_eq k n) [
  | inl same ↦ subst (λ i. f i ≤ max (greatest_below n f) (f n)) (sym same) (omega arith)
  | inr other ↦
      let low = at_least f n k (omega (arith, inside, other)) in
      omega (arith, low)
]

-- the letters of all records
pub few_in_records : (menu_rows : List MenuRow) → letters_of menu_rows ≤ 6
few_in_records menu_rows = greatest_at_most (λ t. top_of (menu_row_at menu_rows t).menu) (length menu_rows) 6 (λ t inside. few_in_menu (menu_row_at menu_rows t).menu)

pub below_all : (menu_rows : List MenuRow) (t : ℕ) → t < length menu_rows → (menu_row_at menu_rows t).menu < 2 ^ 6 → (menu_row_at menu_rows t).menu < 2 ^ letters_of menu_rows
below_all menu_rows t inside small =
    let low = below_top (menu_row_at menu_rows t).menu small in
    let most = pow-le-pow_right {n = 2} (lit< tt) {i = top_of (menu_row_at menu_rows t).menu} {j = letters_of menu_rows}
    (at_least (λ k. top_of (menu_row_at menu_rows k).menu) (length menu_rows) t inside) in
    omega (arith, low, most)

-- a higher power of 2 leaves a bit as it is
under_power : (s x d : ℕ) → bit_at (s + 2 ^ (x + suc d)) x ≡ bit_at s x
under_power s x d =
    let positive : 0 < 2 ^ x = pow-le-pow_right {n = 2} (lit< tt) {i = 0} {j = x} (omega arith) in
    ap (λ k. (s + k) / 2 ^ x % 2) (pow-add 2 x (suc d))
    ∙ ap (λ q. q % 2) (add-mul-div_left s (2 ^ suc d) {y = 2 ^ x} positive)
    ∙ ap (λ k. (s / 2 ^ x + k) % 2) (pow-suc 2 d)
    ∙ add-mul-mod_self_right (s / 2 ^ x) (2 ^ d) 2

-- the sum of the powers of some letters has these letters
module _ (has : ℕ → Bool) where
  abbrev pub number : ℕ → ℕ
  number n = sum_below n (λ x. if has x then 2 ^ x else 0)

  pub number_small : (n : ℕ) → number n < 2 ^ n
  number_small zero = omega arith
  number_small (suc n) = by (has n) (number_small n)
    where
      by : (b : Bool) → number n < 2 ^ n → number n + (if b then 2 ^ n else 0) < 2 ^ suc n
      by true low = omega (arith, low, double n)
      by false low = omega (arith, low, double n)

  pub number_has : (n x : ℕ) → x < n → has x ≡ true → bit_at (number n) x ≡ 1
  number_has zero x inside is = absurd (omega (arith, inside))
  number_has (suc n) x inside is = elim (cases_eq x n) [
    | inl last ↦
        let here : has n ≡ true = ap has (sym last) ∙ is in
        let sum : number n + (if has n then 2 ^ n else 0) ≡ 1 * 2 ^ n + number n = ap (λ b. number n + (if b then 2 ^ n else 0)) here ∙ omega arith in
        ap (λ k. bit_at (number (suc n)) k) last ∙ ap (λ k. bit_at k n) sum ∙ ap (λ q. q % 2) (div-mul-add 1 (2 ^ n) (number n) (number_small n))
    | inr other ↦ kept (has n) (number_has n x (omega (arith, inside, other)) is) (n - suc x) (omega (arith, inside, other))
  ]
    where
      kept : (b : Bool) → bit_at (number n) x ≡ 1 → (d : ℕ) → n ≡ x + suc d → bit_at (number n + (if b then 2 ^ n else 0)) x ≡ 1
      kept true so_far d far = ap (λ k. bit_at (number n + 2 ^ k) x) far ∙ under_power (number n) x d ∙ so_far
      kept false so_far d far =
          let none : number n + 0 ≡ number n = omega arith in
          ap (λ k. bit_at k x) none ∙ so_far
