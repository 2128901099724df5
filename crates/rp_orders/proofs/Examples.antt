-- The definitions, tried at worked choices from menus: a once and b twice from ab; and a and b once each from abc and b
-- twice from ab, where the orders b a c and b c a alone pick a cell from both.
use Rattle.std.proofs.Common.{◌≡◌, ◌≢◌, ◌<◌, ◌≤◌, ◌*◌, ◌++◌, ℕ, zero, suc, pos, negsuc, false, List, [], ◌∷◌, None, slice_index, refl, arith}
use Rattle.std.specs.Fmt.{digits}
use Rattle.std.specs.Prelude.{codes}
use Prim.Native.Nat.{◌∣◌}
use Rattle.std.proofs.Math.Nat.{dvd-mul_left}
use Rattle.std.proofs.lemmas.Nat.Gcd.{le_of_dvd}
use Rattle.rp_evidence.specs.declared.random.RandomPart.TheVariants.{Mixture, Violated, Wide}
use Rattle.rp_farkas.specs.Total.{total}
use Rattle.rp_menu.specs.Cells.{cells_below, menu_list}
use Rattle.rp_menu.specs.MenuLists.{MenuList}
use Rattle.rp_menu.specs.MenuTexts.{is_menu, number_of_menu}
use Rattle.rp_menu.specs.declared.menu_row.MenuRow.{MenuRow}
use Rattle.rp_orders.specs.MenuSums.{sum_at}
use Rattle.rp_orders.specs.OrderKinds.{PicksCells, cell_of, cells_picked}
use Rattle.rp_orders.specs.OrderMixtures.{AreUnitsOf, menu_at}
use Rattle.rp_orders.specs.Orders.{IsStrictOrder, picked}
use Rattle.rp_orders.specs.Report.{menus_report, sum_text}
use Rattle.rp_patch.specs.Apportionment.{GroupedCounts, HasExactShares, IsCommonMultiple, counts_in, grouped, sum_in}
use Rattle.rp_patch.specs.declared.apportionment.Units.{Units}

-- ---- menus and cells

number_of_ab : number_of_menu (codes "ab") ≡ 3
number_of_ab = refl

number_of_f : number_of_menu (codes "f") ≡ 32
number_of_f = refl

out_of_order : is_menu (codes "ba") ≡ false
out_of_order = refl

abbrev chosen_from_one : List MenuRow
chosen_from_one = record { menu = 3; letter = 0; times = 1 } ∷ record { menu = 3; letter = 1; times = 2 } ∷ []

abbrev chosen_from_two : List MenuRow
chosen_from_two =
    record { menu = 7; letter = 0; times = 1 } ∷ record { menu = 7; letter = 1; times = 1 }
    ∷ record { menu = 3; letter = 1; times = 2 } ∷ []

-- cells stand by menu, and counts of one cell are added: d from bd, c from ac, b from bd, and d from bd again
joined : cells_below (
    record { menu = 10; letter = 3; times = 1 } ∷ record { menu = 5; letter = 2; times = 2 }
    ∷ record { menu = 10; letter = 1; times = 3 } ∷ record { menu = 10; letter = 3; times = 4 } ∷ []
    ) 4 ≡
    record { group = 0; letter = 3; count = 5 } ∷ record { group = 0; letter = 1; count = 3 }
    ∷ record { group = 1; letter = 2; count = 2 } ∷ []
joined = refl

abbrev one : MenuList
one = record { letters = 2; menus = 3 ∷ []; groups = 0 ∷ 0 ∷ []; chosen = 0 ∷ 1 ∷ []; counts = 1 ∷ 2 ∷ [] }

one_is : menu_list chosen_from_one ≡ one
one_is = refl

abbrev two : MenuList
two = record {
  letters = 3;
  menus = 7 ∷ 3 ∷ [];
  groups = 0 ∷ 0 ∷ 1 ∷ [];
  chosen = 0 ∷ 1 ∷ 1 ∷ [];
  counts = 1 ∷ 1 ∷ 2 ∷ [];
}

two_is : menu_list chosen_from_two ≡ two
two_is = refl

-- ---- units

abbrev units_of_one : Units
units_of_one = record { total = 3; units = 1 ∷ 2 ∷ [] }

abbrev units_of_two : Units
units_of_two = record { total = 2; units = 1 ∷ 1 ∷ 2 ∷ [] }

abbrev counts_of_two : GroupedCounts
counts_of_two = grouped two.groups two.counts

of_two : (P : ℕ → Type 0) → P 0 → P 1 → (j : ℕ) → j < 2 → P j
of_two P first second zero below = first
of_two P first second (suc zero) below = second
of_two P first second (suc (suc j)) below = absurd (omega (arith, below))

of_three : (P : ℕ → Type 0) → P 0 → P 1 → P 2 → (j : ℕ) → j < 3 → P j
of_three P first second third zero below = first
of_three P first second third (suc zero) below = second
of_three P first second third (suc (suc zero)) below = third
of_three P first second third (suc (suc (suc j))) below = absurd (omega (arith, below))

exact_shares : HasExactShares counts_of_two 2 (slice_index units_of_two.units)
exact_shares = record {
  total = ((omega arith, of_two (λ j. counts_in counts_of_two j ∣ 2) (dvd-mul_left 2 1) (dvd-mul_left 2 1)), least);
  each = of_three
      (λ i. slice_index units_of_two.units i * counts_in counts_of_two (slice_index two.groups i) ≡ slice_index two.counts i * 2)
      refl refl refl;
}
  where
    least : (k : ℕ) → IsCommonMultiple counts_of_two 2 k → 2 ≤ k
    least k is = le_of_dvd is.0 (is.1 0 (omega arith))

are_units : AreUnitsOf two units_of_two
are_units = record {
  one_each = refl;
  some = omega arith;
  few = omega arith;
  filled = of_two (λ j. sum_in counts_of_two (slice_index units_of_two.units) j ≡ 2) refl refl;
}

-- ---- orders

b_of_abc : picked 7 (1 ∷ 0 ∷ 2 ∷ []) ≡ 1
b_of_abc = refl

a_of_ab : picked 3 (2 ∷ 0 ∷ 1 ∷ []) ≡ 0
a_of_ab = refl

cells_of_bac : cells_picked two (1 ∷ 0 ∷ 2 ∷ []) ≡ 1 ∷ 2 ∷ []
cells_of_bac = refl

bac_is_strict : IsStrictOrder 3 (1 ∷ 0 ∷ 2 ∷ [])
bac_is_strict = record {
  of_all = refl;
  letter = of_three (λ j. slice_index (1 ∷ 0 ∷ 2 ∷ []) j < 3) (omega arith) (omega arith) (omega arith);
  once = once;
}
  where
    once : (h j : ℕ) → h < j → j < 3 → slice_index (1 ∷ 0 ∷ 2 ∷ []) h ≢ slice_index (1 ∷ 0 ∷ 2 ∷ []) j
    once h zero before below same = absurd (omega (arith, before))
    once zero (suc zero) before below same = absurd (omega (arith, same))
    once (suc h) (suc zero) before below same = absurd (omega (arith, before))
    once zero (suc (suc zero)) before below same = absurd (omega (arith, same))
    once (suc zero) (suc (suc zero)) before below same = absurd (omega (arith, same))
    once (suc (suc h)) (suc (suc zero)) before below same = absurd (omega (arith, before))
    once h (suc (suc (suc j))) before below same = absurd (omega (arith, below))

bac_picks_cells : PicksCells two (1 ∷ 0 ∷ 2 ∷ [])
bac_picks_cells = record {
  strict = bac_is_strict;
  cell = of_two (λ i. cell_of two i (picked (menu_at two i) (1 ∷ 0 ∷ 2 ∷ [])) < 3) (omega arith) (omega arith);
}

-- it picks a from ab, which was never chosen there
abc_picks_no_cell : ¬ PicksCells two (0 ∷ 1 ∷ 2 ∷ [])
abc_picks_no_cell picks = let h : 3 < 3 = picks.cell 1 (omega arith) in absurd (omega (arith, h))

twice_b : ¬ IsStrictOrder 3 (1 ∷ 1 ∷ 0 ∷ [])
twice_b is = is.once 0 1 (omega arith) (omega arith) refl

-- ---- sums

sum_of_a : sum_at one units_of_one 0 1 ≡ pos 2
unfolding total
sum_of_a = refl

sum_of_b : sum_at one units_of_one 1 2 ≡ pos 1
unfolding total
sum_of_b = refl

-- b has all of ab and of bc, but one half of abc: 2 − 2 − 2 + 1
sum_below_none : sum_at (record {
  letters = 3;
  menus = 3 ∷ 5 ∷ 6 ∷ 7 ∷ [];
  groups = 0 ∷ 1 ∷ 2 ∷ 3 ∷ 3 ∷ [];
  chosen = 1 ∷ 0 ∷ 1 ∷ 0 ∷ 1 ∷ [];
  counts = 2 ∷ 2 ∷ 2 ∷ 1 ∷ 1 ∷ [];
}) (record { total = 2; units = 2 ∷ 2 ∷ 2 ∷ 1 ∷ 1 ∷ [] }) 1 2 ≡ negsuc 0
unfolding total
sum_below_none = refl

-- ---- reports

report_of_one : menus_report one units_of_one
    (Mixture 1 (record { patches = 0 ∷ 1 ∷ []; weight = 1 } ∷ record { patches = 1 ∷ 0 ∷ []; weight = 2 } ∷ []))
    None 2 (sum_text (sum_at one units_of_one 1 2) 1 2)
    ≡ codes "alternatives 2 menus 1 cells 2 orders 2 total 3\nmenus mixture over 1\n"
    ++ codes "part a b weight 1\npart b a weight 2\nsums least 1 at b in b\n"
unfolding digits total
report_of_one = refl

report_of_two : menus_report two units_of_two
    (Violated 1 (record { patches = 1 ∷ 0 ∷ 2 ∷ []; weight = 1 } ∷ []) (0 ∷ 1 ∷ 0 ∷ [])) None 2 []
    ≡ codes "alternatives 3 menus 2 cells 3 orders 2 total 2\nmenus violated share 1/2\n"
    ++ codes "weights 0 1 0 over 1\npart b a c weight 1\n"
unfolding digits
report_of_two = refl

report_withheld : menus_report two units_of_two (Wide 7) None 2 []
    ≡ codes "alternatives 3 menus 2 cells 3 orders 2 total 2\nmenus withheld 7\n"
unfolding digits
report_withheld = refl
