-- For the proofs alone: two numbers between which the index lies, and the ratios between them.
use Rattle.std.specs.Prelude.{◌≡◌, ℕ, ◌*◌, ◌+◌, ◌<◌, ◌≤◌, ◌++◌, List, length, slice_index}
use Rattle.std.specs.List.{Any}
use Rattle.rp_evidence.specs.Efficiency.{IsRatio}
use Rattle.rp_effic.specs.InnerCycles.{HasCycle}
use Rattle.rp_effic.specs.declared.bracket.Bracket.{Bracket}
use Rattle.rp_effic.specs.declared.ratio.Ratio.{Ratio}

-- At the lower end no closed walk has weak steps alone, at the upper end some has.
pub record IsBracket (n : ℕ) (c : ℕ → ℕ → ℕ) (bracket : Bracket) : Type 0 where
  pub none_at_low : ¬ HasCycle n c bracket.low.num bracket.low.den
  pub low_den : 0 < bracket.low.den
  pub some_at_high : HasCycle n c bracket.high.num bracket.high.den

-- num/den is above the lower end and below the upper one.
abbrev pub IsBetween : Bracket → ℕ → ℕ → Type 0
IsBetween bracket num den =
    (bracket.low.num * den < num * bracket.low.den)
    × (num * bracket.high.den < bracket.high.num * den)

-- The upper end is in the list.
abbrev pub HasHighest : Bracket → List Ratio → Type 0
HasHighest bracket ratios =
    Any (λ r. (r.num ≡ bracket.high.num) × (r.den ≡ bracket.high.den)) ratios

-- If the ratio of s and t is between the ends, it is in the list, as a number.
abbrev pub IsSeen : (ℕ → ℕ → ℕ) → Bracket → List Ratio → ℕ → ℕ → Type 0
IsSeen c bracket ratios s t =
    IsBetween bracket (c s t) (c s s) → Any (λ r. IsRatio c r.num r.den s t) ratios

-- To a list were added those of some steps from s whose ratios are between the ends.
pub record AddsBetween (c : ℕ → ℕ → ℕ) (bracket : Bracket) (to : List ℕ) (s start end : ℕ)
    (old new : List Ratio) : Type 0 where
  pub longer : (more : List Ratio) × (new ≡ old ++ more)
  pub few : length new + start ≤ length old + end
  pub seen : (p : ℕ) → start ≤ p → p < end → IsSeen c bracket new s (slice_index to p)

-- Of the first observations each ratio between the ends of a step that is listed is in the list, and with them the
-- upper end.
pub record HaveBetween (m : ℕ) (c : ℕ → ℕ → ℕ) (bracket : Bracket) (starts to : List ℕ)
    (ratios : List Ratio) : Type 0 where
  pub seen : (s p : ℕ) → s < m → slice_index starts s ≤ p → p < slice_index starts (s + 1)
      → IsSeen c bracket ratios s (slice_index to p)
  pub highest : HasHighest bracket ratios
  pub few : length ratios ≤ slice_index starts m + 1

-- No ratio between the ends is missing in the list, and the upper end is in it.
pub record AreBetween (n : ℕ) (c : ℕ → ℕ → ℕ) (bracket : Bracket)
    (ratios : List Ratio) : Type 0 where
  pub complete : (s t : ℕ) → s < n → t < n → IsBetween bracket (c s t) (c s s)
      → ¬ ¬ Any (λ r. IsRatio c r.num r.den s t) ratios
  pub highest : HasHighest bracket ratios
