-- A grid that lies in its block: one row is read or lent.
use Rattle.std.proofs.Common.{◌≡◌, ℕ, ◌+◌, ◌*◌, ◌^◌, ◌<◌, ◌≤◌, List, map, length, take, drop, replicate, Some, sym, ap, ◌∙◌, arith, length-take, length-drop}
use Rattle.std.proofs.lemmas.List.{length-replicate}
use Rattle.std.specs.Global.{Global}
use Rattle.std.specs.List.{refill, length_refill}
use Rattle.rp_grid.specs.Places.{somes, IsRun}
use Rattle.rp_grid.specs.InnerLends.{spliced, with_slots}
use Rattle.rp_grid.specs.Rows.{row_of, with_row, written, filled}
use Rattle.rp_grid.specs.Held.{cut, held, IsHeld}
use Rattle.rp_grid.specs.declared.block.Base.{Base}
use Rattle.rp_grid.specs.declared.block.Places.{Places}
use Rattle.rp_grid.specs.declared.block.Deed.{Deed}
use Rattle.rp_grid.proofs.Cut.{row_fits, somes_map, run_there, run_is, put, length_put, spliced_is, cut_count, cut_row, length_row, cut_put, cut_filled, somes_filled}

module _ {X : Type 0} (rows cols : ℕ) (base : Base X) (places : Places X) (deed : Deed X Global) (alloc : Global) (h : IsHeld rows cols base places deed alloc) where
  pub equal : (r : ℕ) → r < length (held rows cols places).rows → length (row_of (held rows cols places) r) ≡ cols
  equal r lt = length_row rows cols r (somes places.slots) (omega (arith, cut_count rows cols (somes places.slots))) h.count

  module _ (r : ℕ) (lt : r < length (held rows cols places).rows) where
    below : r < rows
    below = omega (arith, cut_count rows cols (somes places.slots))

    within : r * cols + cols ≤ length (somes places.slots)
    within = omega (arith, row_fits r rows cols below, h.count)

    pub asks : (base.ptr ≡ places.at) × IsRun places.slots (r * cols) cols
    asks = (h.places_at, run_there places.slots (r * cols) cols h.full within)

    pub shown : (ws : List X) → take cols (drop (r * cols) places.slots) ≡ map Some ws → ws ≡ row_of (held rows cols places) r
    shown ws run = run_is places.slots (r * cols) cols ws h.full run ∙ sym (cut_row rows cols r (somes places.slots) below)

    pub lent : (w : List X) → let now = with_slots places (spliced places.slots (r * cols) cols (refill cols (somes (take cols (drop (r * cols) places.slots))) w)) in
        IsHeld rows cols base now deed alloc × (held rows cols now ≡ with_row (held rows cols places) r (written (held rows cols places) r w))
    lent w =
        let xs = somes places.slots in let old = take cols (drop (r * cols) xs) in let new = refill cols old w in
        let as_long : cols ≡ length old = omega (arith, length-take cols (drop (r * cols) xs), length-drop (r * cols) xs, within) in
        let long : length new ≡ cols = sym (length_refill cols old w as_long) in
        let all = put xs (r * cols) cols new in
        let now = with_slots places (spliced places.slots (r * cols) cols (refill cols (somes (take cols (drop (r * cols) places.slots))) w)) in
        let is : now.slots ≡ map Some all = spliced_is places.slots (r * cols) cols w h.full in
        let values : somes now.slots ≡ all = ap somes is ∙ somes_map all in
        let same : written (held rows cols places) r w ≡ new = ap (λ l. refill cols l w) (cut_row rows cols r xs below) in
        let cells : cut rows cols (somes now.slots) ≡ (with_row (held rows cols places) r (written (held rows cols places) r w)).rows =
        ap (cut rows cols) values ∙ cut_put rows cols r xs new below h.count long ∙ ap (λ l. (with_row (held rows cols places) r l).rows) (sym same) in (
          record {
            places_at = h.places_at;
            deed_at = h.deed_at;
            deed_len = h.deed_len;
            deed_alloc = h.deed_alloc;
            full = is ∙ ap (map Some) (sym values);
            count = ap length values ∙ length_put xs (r * cols) cols new within long ∙ h.count;
            small = h.small;
            rows_fit = h.rows_fit;
            cols_fit = h.cols_fit;
          },
          λ i. record { rows = cells i; cols = cols },
        )

pub made : {X : Type 0} (rows cols : ℕ) (x : X) (base : Base X) (places : Places X) (deed : Deed X Global) (alloc : Global)
    → places.at ≡ base.ptr → places.slots ≡ replicate (rows * cols) (Some x) → deed.at ≡ base.ptr → deed.len ≡ rows * cols → deed.alloc ≡ alloc
    → rows * cols ≤ 2 ^ 26 → rows < 2 ^ 32 → cols < 2 ^ 32
    → IsHeld rows cols base places deed alloc × (held rows cols places ≡ filled rows cols x)
made rows cols x base places deed alloc at slots deed_at deed_len deed_alloc small rows_fit cols_fit =
    let all = replicate (rows * cols) x in
    let is : places.slots ≡ map Some all = slots ∙ somes_filled (rows * cols) x in
    let values : somes places.slots ≡ all = ap somes is ∙ somes_map all in (
      record {
        places_at = sym at;
        deed_at = deed_at;
        deed_len = deed_len;
        deed_alloc = deed_alloc;
        full = is ∙ ap (map Some) (sym values);
        count = ap length values ∙ length-replicate (rows * cols) x;
        small = small;
        rows_fit = rows_fit;
        cols_fit = cols_fit;
      },
      λ i. record { rows = (ap (cut rows cols) values ∙ cut_filled rows cols x) i; cols = cols },
    )
