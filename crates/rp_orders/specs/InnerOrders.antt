-- Words that only proofs need: orders as they are listed, and how far they are.
use Rattle.std.specs.Prelude.{◌≡◌, ◌<◌, ◌≤◌, ◌↔◌, ◌⊎◌, ◌++◌, ◌∷◌, [], ℕ, List, Contains, length, map}
use Rattle.std.specs.Cmp.Lexicographic.{slice_cmp}
use Rattle.std.specs.List.Sorted.{IsStrictlySortedBy}
use Rattle.std.specs.Ordering.{nat_cmp}
use Rattle.rp_menu.specs.MenuLists.{MenuList}
use Rattle.rp_orders.specs.InnerLists.{listed_order}
use Rattle.rp_orders.specs.OrderKinds.{PicksCells}
use Rattle.rp_orders.specs.declared.orders.Order.{Order}

-- The letters of each order.
abbrev pub orders_of : List Order → List (List ℕ)
orders_of orders = map (λ order. order.letters) orders

-- The orders among the first n lists are listed, in order.
pub record AreListedBelow (list : MenuList) (n : ℕ) (orders : List Order) : Type 0 where
  pub few : length orders ≤ n
  pub rising : IsStrictlySortedBy (slice_cmp nat_cmp) (orders_of orders)
  pub just_these : (order : List ℕ) → Contains (orders_of orders) order
      ↔ (PicksCells list order × ((m : ℕ) × (m < n) × (listed_order list.letters m ≡ order)))

-- A list is appended where it is an order that picks a cell from every menu, and else nothing.
abbrev pub AppendsKind : MenuList → List ℕ → List Order → List Order → Type 0
AppendsKind list order old new =
    (PicksCells list order × (new ≡ old ++ record { letters = order } ∷ [])) ⊎ ((¬ PicksCells list order) × (new ≡ old))
