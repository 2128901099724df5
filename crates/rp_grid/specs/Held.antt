-- How a grid lies in its block: row by row, each row from the first column on.
use Rattle.std.specs.Prelude.{◌≡◌, ℕ, zero, suc, ◌*◌, ◌^◌, ◌<◌, ◌≤◌, List, [], ◌∷◌, map, length, take, drop, Some}
use Rattle.std.specs.Global.{Global}
use Rattle.rp_grid.specs.Places.{somes}
use Rattle.rp_grid.specs.Rows.{Rows}
use Rattle.rp_grid.specs.declared.block.Base.{Base}
use Rattle.rp_grid.specs.declared.block.Places.{Places}
use Rattle.rp_grid.specs.declared.block.Deed.{Deed}

module _ {X : Type 0} where
  -- The first rows of this many columns that lie in the list.
  abbrev pub cut : ℕ → ℕ → List X → List (List X)
  cut zero cols xs = []
  cut (suc rows) cols xs = take cols xs ∷ cut rows cols (drop cols xs)

  -- The grid that lies in the places.
  abbrev pub held : ℕ → ℕ → Places X → Rows X
  held rows cols places = record { rows = cut rows cols (somes places.slots); cols = cols }

  -- One block has a value for each element, and is given back as a whole.
  pub record IsHeld (rows cols : ℕ) (base : Base X) (places : Places X) (deed : Deed X Global)
      (alloc : Global) : Type 0 where
    pub places_at : base.ptr ≡ places.at
    pub deed_at : deed.at ≡ base.ptr
    pub deed_len : deed.len ≡ rows * cols
    pub deed_alloc : deed.alloc ≡ alloc
    pub full : places.slots ≡ map Some (somes places.slots)
    pub count : length (somes places.slots) ≡ rows * cols
    pub small : rows * cols ≤ 2 ^ 26
    pub rows_fit : rows < 2 ^ 32
    pub cols_fit : cols < 2 ^ 32
