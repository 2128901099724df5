-- The most decimal places of households, one after another.
use Rattle.std.proofs.Common.{◌≡◌, ◌+◌, ℕ, List, ap, ap₂, max}
use Rattle.std.specs.Prelude.{slice_index_or}
use Rattle.rp_long.specs.Panels.{Household, nobody}
use Rattle.rp_num.specs.Below.{greatest_below}
use Rattle.rp_offered.specs.declared.offered.Places.{Places}
use Rattle.rp_panel.specs.OfferedText.{places_below, places_in}
use Rattle.rp_sheet.proofs.SizeLemmas.{greatest_more}

-- places with the same numbers
places_of : (p : Places) (prices quantities : ℕ) → p.prices ≡ prices → p.quantities ≡ quantities → p ≡ record { prices = prices; quantities = quantities }
places_of p prices quantities a b = ap₂ (λ (m n : ℕ). record { prices = m; quantities = n }) a b

-- one household more
pub more_places : (households : List Household) (n : ℕ) (places here next : Places) → places ≡ places_below households n → here ≡ places_in (slice_index_or households n nobody).table
    → next.prices ≡ max places.prices here.prices → next.quantities ≡ max places.quantities here.quantities → next ≡ places_below households (n + 1)
more_places households n places here next before is prices quantities =
    let f = λ (h : ℕ). (places_in (slice_index_or households h nobody).table).prices in
    let g = λ (h : ℕ). (places_in (slice_index_or households h nobody).table).quantities in
    places_of next (greatest_below (n + 1) f) (greatest_below (n + 1) g)
    (greatest_more f n places.prices here.prices next.prices (ap (λ (p : Places). p.prices) before) (ap (λ (p : Places). p.prices) is) prices)
    (greatest_more g n places.quantities here.quantities next.quantities (ap (λ (p : Places). p.quantities) before) (ap (λ (p : Places). p.quantities) is) quantities)
