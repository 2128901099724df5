-- Cells with one more: their order, what holds of each, and their counts.
use Rattle.std.proofs.Common.{◌≡◌, ◌≢◌, ℕ, zero, suc, ◌+◌, ◌<◌, ◌≤◌, ◌==◌, ◌&&◌, ◌||◌, Bool, true, false, insert, set, List, [], ◌∷◌, ◌⊎◌, inl, inr, length, sum_by, refl, sym, ap, ◌∙◌, arith, nat_lt, if◌then◌else◌}
use Rattle.std.proofs.lemmas.Bool.{cases_eq, cases_lt}
use Rattle.std.proofs.lemmas.Bool.Decides.{nat_tests}
use Rattle.std.proofs.lemmas.List.Sums.{sum_by-cons}
use Rattle.rp_menu.specs.Cells.{cell_at, counted}
use Rattle.rp_menu.specs.InnerCells.{is_seat}
use Rattle.rp_menu.specs.declared.cells.Cell.{Cell}

-- a cell with the count of another added
abbrev pub with_more : Cell → Cell → Cell
with_more cell new = record { group = cell.group; letter = cell.letter; count = cell.count + new.count }

abbrev chosen_list : Bool → Bool → Cell → List Cell → Cell → List Cell
chosen_list a b cell cells new =
    if a then new ∷ cell ∷ cells else if b then with_more cell new ∷ cells else cell ∷ counted cells new

-- what holds of the menu and the letter of each cell
abbrev pub Each : (ℕ → ℕ → Type 0) → List Cell → Type 0
Each P [] = Unit {0}
Each P (cell ∷ cells) = P cell.group cell.letter × Each P cells

pub each_counted : (P : ℕ → ℕ → Type 0) (cells : List Cell) (new : Cell) → Each P cells → P new.group new.letter → Each P (counted cells new)
each_counted P [] new all one = (one, tt)
each_counted P (cell ∷ cells) new all one = by (nat_lt new.group cell.group) ((cell.group == new.group) && (cell.letter == new.letter)) (each_counted P cells new all.1 one)
  where
    by : (a b : Bool) → Each P (counted cells new) → Each P (chosen_list a b cell cells new)
    by true b rest = (one, all)
    by false true rest = all
    by false false rest = (all.0, rest)

pub each_as : (P Q : ℕ → ℕ → Type 0) → ((g x : ℕ) → P g x → Q g x) → (cells : List Cell) → Each P cells → Each Q cells
each_as P Q leads [] all = tt
each_as P Q leads (cell ∷ cells) all = (leads cell.group cell.letter all.0, each_as P Q leads cells all.1)

pub each_at : (P : ℕ → ℕ → Type 0) (cells : List Cell) (k : ℕ) → Each P cells → k < length cells → P (cell_at cells k).group (cell_at cells k).letter
each_at P [] k all inside = absurd (omega (arith, inside))
each_at P (cell ∷ cells) zero all inside = all.0
each_at P (cell ∷ cells) (suc k) all inside = each_at P cells k all.1 (omega (arith, inside))

-- a cell stands before a menu and a letter: its menu is earlier, or the same with another letter
abbrev pub Before : Cell → ℕ → ℕ → Type 0
Before cell g x = (cell.group < g) ⊎ ((cell.group ≡ g) × (cell.letter ≢ x))

abbrev pub InOrder : List Cell → Type 0
InOrder [] = Unit {0}
InOrder (cell ∷ cells) = Each (Before cell) cells × InOrder cells

later_too : (new cell : Cell) → new.group < cell.group → (g x : ℕ) → Before cell g x → Before new g x
later_too new cell earlier g x (inl before) = inl (omega (arith, earlier, before))
later_too new cell earlier g x (inr same) = inl (omega (arith, earlier, same.0))

before_new : (cell new : Cell) → nat_lt new.group cell.group ≡ false → ((cell.group == new.group) && (cell.letter == new.letter)) ≡ false → Before cell new.group new.letter
before_new cell new late other = elim (cases_lt cell.group new.group) [
  | inl earlier ↦ inl earlier
  | inr rest ↦
      let same : cell.group ≡ new.group = grind (arith, nat_tests) in
      let test : (cell.group == new.group) ≡ true = grind (arith, nat_tests) in
      inr (
        same,
        λ letter.
            let here : (cell.letter == new.letter) ≡ true = grind (arith, nat_tests, letter) in
            let both : ((cell.group == new.group) && (cell.letter == new.letter)) ≡ true = rw (test, here) refl in
            cc (both, other),
      )
]

pub in_order_counted : (cells : List Cell) (new : Cell) → InOrder cells → InOrder (counted cells new)
in_order_counted [] new order = (tt, tt)
in_order_counted (cell ∷ cells) new order =
    by (nat_lt new.group cell.group) ((cell.group == new.group) && (cell.letter == new.letter)) refl refl (in_order_counted cells new order.1)
  where
    by : (a b : Bool) → nat_lt new.group cell.group ≡ a → ((cell.group == new.group) && (cell.letter == new.letter)) ≡ b → InOrder (counted cells new) → InOrder (chosen_list a b cell cells new)
    by true b early same rest =
        let earlier : new.group < cell.group = grind (arith, nat_tests) in
        ((inl earlier, each_as (Before cell) (Before new) (later_too new cell earlier) cells order.0), order)
    by false true late same rest = order
    by false false late other rest = (each_counted (Before cell) cells new order.0 (before_new cell new late other), rest)

pub order_at : (cells : List Cell) (h k : ℕ) → InOrder cells → h < k → k < length cells → Before (cell_at cells h) (cell_at cells k).group (cell_at cells k).letter
order_at [] h k order before inside = absurd (omega (arith, inside))
order_at (cell ∷ cells) h zero order before inside = absurd (omega (arith, before))
order_at (cell ∷ cells) zero (suc k) order before inside = each_at (Before cell) cells k order.0 (omega (arith, inside))
order_at (cell ∷ cells) (suc h) (suc k) order before inside = order_at cells h k order.1 (omega (arith, before)) (omega (arith, inside))

-- each cell was chosen
abbrev pub AreChosen : List Cell → Type 0
AreChosen [] = Unit {0}
AreChosen (cell ∷ cells) = (1 ≤ cell.count) × AreChosen cells

pub chosen_counted : (cells : List Cell) (new : Cell) → AreChosen cells → 1 ≤ new.count → AreChosen (counted cells new)
chosen_counted [] new all one = (one, tt)
chosen_counted (cell ∷ cells) new all one = by (nat_lt new.group cell.group) ((cell.group == new.group) && (cell.letter == new.letter)) (chosen_counted cells new all.1 one)
  where
    by : (a b : Bool) → AreChosen (counted cells new) → AreChosen (chosen_list a b cell cells new)
    by true b rest = (one, all)
    by false true rest = (omega (arith, one), all.1)
    by false false rest = (all.0, rest)

pub chosen_at : (cells : List Cell) (k : ℕ) → AreChosen cells → k < length cells → 1 ≤ (cell_at cells k).count
chosen_at [] k all inside = absurd (omega (arith, inside))
chosen_at (cell ∷ cells) zero all inside = all.0
chosen_at (cell ∷ cells) (suc k) all inside = chosen_at cells k all.1 (omega (arith, inside))

pub some_counted : (cells : List Cell) (new : Cell) → 1 ≤ length (counted cells new)
some_counted [] new = omega arith
some_counted (cell ∷ cells) new = by (nat_lt new.group cell.group) ((cell.group == new.group) && (cell.letter == new.letter))
  where
    by : (a b : Bool) → 1 ≤ length (chosen_list a b cell cells new)
    by true b = omega arith
    by false true = omega arith
    by false false = omega arith

-- what a cell has of the choices from menu j
abbrev pub on : ℕ → Cell → ℕ
on j cell = if cell.group == j then cell.count else 0

split : (b : Bool) (x y : ℕ) → (if b then x + y else 0) ≡ (if b then x else 0) + (if b then y else 0)
split true x y = refl
split false x y = refl

same_menu : (cell new : Cell) → ((cell.group == new.group) && (cell.letter == new.letter)) ≡ true → cell.group ≡ new.group
same_menu cell new is = elim (cases_eq cell.group new.group) [
  | inl same ↦ same
  | inr other ↦
      let test : (cell.group == new.group) ≡ false = grind (arith, nat_tests) in
      let none : ((cell.group == new.group) && (cell.letter == new.letter)) ≡ false = rw test refl in
      cc (none, is)
]

pub total_counted : (j : ℕ) (cells : List Cell) (new : Cell) → sum_by (on j) (counted cells new) ≡ sum_by (on j) cells + on j new
total_counted j [] new = omega (arith, sum_by-cons (on j) new [])
total_counted j (cell ∷ cells) new =
    by (nat_lt new.group cell.group) ((cell.group == new.group) && (cell.letter == new.letter)) refl (total_counted j cells new)
  where
    by : (a b : Bool) → ((cell.group == new.group) && (cell.letter == new.letter)) ≡ b → sum_by (on j) (counted cells new) ≡ sum_by (on j) cells + on j new
        → sum_by (on j) (chosen_list a b cell cells new) ≡ sum_by (on j) (cell ∷ cells) + on j new
    by true b is rest =
        let all = sum_by-cons (on j) new (cell ∷ cells) in
        omega (arith, all)
    by false true is rest =
        let one = sum_by-cons (on j) (with_more cell new) cells in
        let all = sum_by-cons (on j) cell cells in
        let here = split (cell.group == j) cell.count new.count in
        let there : (if cell.group == j then new.count else 0) ≡ on j new = ap (λ k. if k == j then new.count else 0) (same_menu cell new is) in
        omega (arith, one, all, here, there)
    by false false is rest =
        let one = sum_by-cons (on j) cell (counted cells new) in
        let all = sum_by-cons (on j) cell cells in
        omega (arith, one, all, rest)

on_its_own : (cell : Cell) → on cell.group cell ≡ cell.count
on_its_own cell =
    let test : (cell.group == cell.group) ≡ true = grind (arith, nat_tests) in
    ap (λ b. if b then cell.count else 0) test

-- a cell has no more than its menu
pub count_at_most : (cells : List Cell) (k : ℕ) → k < length cells → (cell_at cells k).count ≤ sum_by (on (cell_at cells k).group) cells
count_at_most [] k inside = absurd (omega (arith, inside))
count_at_most (cell ∷ cells) zero inside =
    let all = sum_by-cons (on cell.group) cell cells in
    let own = on_its_own cell in
    omega (arith, all, own)
count_at_most (cell ∷ cells) (suc k) inside =
    let all = sum_by-cons (on (cell_at cells k).group) cell cells in
    let rest = count_at_most cells k (omega (arith, inside)) in
    omega (arith, all, rest)

-- a menu with choices has a cell
pub cell_on : (j : ℕ) (cells : List Cell) → 1 ≤ sum_by (on j) cells → (k : ℕ) × (k < length cells) × ((cell_at cells k).group ≡ j)
cell_on j [] some = absurd (omega (arith, some))
cell_on j (cell ∷ cells) some = elim (cases_eq cell.group j) [
  | inl same ↦ (0, omega arith, same)
  | inr other ↦
      let test : (cell.group == j) ≡ false = grind (arith, nat_tests) in
      let none : on j cell ≡ 0 = ap (λ b. if b then cell.count else 0) test in
      let all = sum_by-cons (on j) cell cells in
      let rest = cell_on j cells (omega (arith, some, all, none)) in
      (suc rest.0, omega (arith, rest.1), rest.2)
]

-- ---- where a cell is counted

other_seat : (cell new : Cell) → is_seat cell new ≡ false → (nat_lt new.group cell.group ≡ false) × (((cell.group == new.group) && (cell.letter == new.letter)) ≡ false)
other_seat cell new none = by (nat_lt new.group cell.group) ((cell.group == new.group) && (cell.letter == new.letter)) none
  where
    by : (a b : Bool) → (a || b) ≡ false → (a ≡ false) × (b ≡ false)
    by true b e = cc e
    by false true e = cc e
    by false false e = (refl, refl)

-- one more on its own, before the first cell of a later menu
pub counted_apart : (cells : List Cell) (new : Cell) (i : ℕ) → i ≤ length cells → ((k : ℕ) → k < i → is_seat (cell_at cells k) new ≡ false)
    → (i < length cells → new.group < (cell_at cells i).group) → counted cells new ≡ insert cells i new
counted_apart [] new zero within before later = refl
counted_apart [] new (suc i) within before later = absurd (omega (arith, within))
counted_apart (cell ∷ cells) new zero within before later =
    let past = later (omega arith) in
    let test : nat_lt new.group cell.group ≡ true = grind (arith, nat_tests) in
    ap (λ b. chosen_list b ((cell.group == new.group) && (cell.letter == new.letter)) cell cells new) test
counted_apart (cell ∷ cells) new (suc i) within before later =
    let first = other_seat cell new (before 0 (omega arith)) in
    ap (λ b. chosen_list b ((cell.group == new.group) && (cell.letter == new.letter)) cell cells new) first.0
    ∙ ap (λ b. chosen_list false b cell cells new) first.1
    ∙ ap (λ (xs : List Cell). cell ∷ xs) (counted_apart cells new i (omega (arith, within)) (λ k l. before (suc k) (omega (arith, l))) (λ l. later (omega (arith, l))))

-- its count joins the cell of its menu and letter
pub counted_with : (cells : List Cell) (new : Cell) (i : ℕ) → i < length cells → ((k : ℕ) → k < i → is_seat (cell_at cells k) new ≡ false)
    → (cell_at cells i).group ≡ new.group → is_seat (cell_at cells i) new ≡ true → counted cells new ≡ set cells i (with_more (cell_at cells i) new)
counted_with [] new i within before same is = absurd (omega (arith, within))
counted_with (cell ∷ cells) new zero within before same is =
    let late : nat_lt new.group cell.group ≡ false = grind (arith, nat_tests, same) in
    let here : ((cell.group == new.group) && (cell.letter == new.letter)) ≡ true =
    sym (ap (λ b. b || ((cell.group == new.group) && (cell.letter == new.letter))) late) ∙ is in
    ap (λ b. chosen_list b ((cell.group == new.group) && (cell.letter == new.letter)) cell cells new) late
    ∙ ap (λ b. chosen_list false b cell cells new) here
counted_with (cell ∷ cells) new (suc i) within before same is =
    let first = other_seat cell new (before 0 (omega arith)) in
    ap (λ b. chosen_list b ((cell.group == new.group) && (cell.letter == new.letter)) cell cells new) first.0
    ∙ ap (λ b. chosen_list false b cell cells new) first.1
    ∙ ap (λ (xs : List Cell). cell ∷ xs) (counted_with cells new i (omega (arith, within)) (λ k l. before (suc k) (omega (arith, l))) same is)

pub seat_later : (cell new : Cell) → is_seat cell new ≡ true → cell.group ≢ new.group → new.group < cell.group
seat_later cell new is other = by (nat_lt new.group cell.group) refl is
  where
    by : (a : Bool) → nat_lt new.group cell.group ≡ a → (a || ((cell.group == new.group) && (cell.letter == new.letter))) ≡ true → new.group < cell.group
    by true early e = grind (arith, nat_tests)
    by false late e =
        let test : (cell.group == new.group) ≡ false = grind (arith, nat_tests) in
        let none : ((cell.group == new.group) && (cell.letter == new.letter)) ≡ false = ap (λ b. b && (cell.letter == new.letter)) test in
        cc (none, e)
