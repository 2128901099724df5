-- For the proofs alone: rounds and searches that are half made. No public clause cites these words.
use Rattle.std.specs.Prelude.{◌≡◌, ◌<◌, ◌⊎◌, ℕ, pos, List, ◌++◌, Vec, Option, MatchOption, length, slice_index}
use Rattle.std.specs.declared.alloc.Global.{Global}
use Rattle.rp_evidence.specs.declared.random.RandomPart.{RandomPart}
use Rattle.rp_patch.specs.Patches.{PatchList}
use Rattle.rp_generated.specs.Rounds.{AreLightTypes, AreTypes, HasNoLightType, IsNotTaken, IsVerdict}
use Rattle.rp_generated.specs.Steps.{AreSpent, IsWithheldAfter}
use Rattle.rp_generated.specs.declared.looked.Lightest.{Lightest}
use Rattle.rp_whole_tableau.specs.Programs.{price_of}
use Rattle.rp_whole_tableau.specs.declared.grown.Grown.{Grown}

-- Where all types were rational before, they are so after.
abbrev pub StayTypes : PatchList → Lightest → Lightest → Type 0
StayTypes p before after = AreTypes p before.types.items → AreTypes p after.types.items

-- The first n types of a list were added to a program, each light by the prices of another.
pub record AddsFirst (p : PatchList) (by : Grown) (n : ℕ) (g next : Grown) : Type 0 where
  pub same : next.tableau ≡ g.tableau
  pub types : List (Vec ℕ Global)
  pub many : length types ≡ n
  pub light : AreLightTypes p by types
  pub columns : next.columns.items ≡ g.columns.items ++ types

-- These are the prices of the patches.
abbrev pub HasPrices : PatchList → Grown → List ℕ → Type 0
HasPrices p g weights = (i : ℕ) → i < length p.patches → pos (slice_index weights i) ≡ price_of g i

-- What a search by the prices of a program found: light types; and where there is none, the steps are spent or no rational
-- type is light.
pub record FindsBy (p : PatchList) (g : Grown) (found : Lightest) : Type 0 where
  pub light : AreLightTypes p g found.types.items
  pub none : length found.types.items ≡ 0 → AreSpent found.most found.steps ⊎ HasNoLightType p g

-- With what the rounds end: without a part, and then the verdict is withheld; or with a verdict, and then it is withheld
-- where the checker does not take it.
abbrev pub EndsWith : PatchList → ℕ → Option RandomPart → ℕ → Type 0
EndsWith p most found steps =
    MatchOption found (IsWithheldAfter p most steps) (λ part. IsVerdict part × (IsNotTaken p most steps part → IsWithheldAfter p most steps))
