-- For the proofs alone: lists of ratios at which a table may come to be inconsistent, what a bundle costs at the prices
-- of an observation over what was spent there.
use Rattle.std.specs.Prelude.{◌≡◌, ℕ, ◌*◌, ◌<◌, ◌≤◌, List, length, slice_index_or}
use Rattle.std.specs.List.{Any}
use Rattle.rp_effic.specs.declared.ratio.Ratio.{Ratio}

-- The number 1 is in the list.
abbrev pub HasOne : List Ratio → Type 0
HasOne ratios = Any (λ r. r.num ≡ r.den) ratios

-- No number is greater than a later one.
abbrev pub Rise : List Ratio → Type 0
Rise ratios = (i j : ℕ) (d : Ratio) → i < j → j < length ratios
    → (slice_index_or ratios i d).num * (slice_index_or ratios j d).den
    ≤ (slice_index_or ratios j d).num * (slice_index_or ratios i d).den
