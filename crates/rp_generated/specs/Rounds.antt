-- Rounds: the program over the types so far is solved, and rational types are added (Smeulders, Cherchye and De Rock
-- 2021).
use Rattle.std.specs.Prelude.{◌≡◌, ◌*◌, ◌-◌, ◌<◌, ◌⊎◌, ⊤, ◌++◌, [], ◌∷◌, ℕ, zero, suc, ℤ, pos, ◌≤ℤ◌, ◌<ℤ◌, Err, List, Vec, length, map, slice_index}
use Rattle.std.specs.List.Sorted.{IsPermutation}
use Rattle.std.specs.declared.alloc.Global.{Global}
use Rattle.rp_check_mixture.specs.RandomWithin.{RandomFailsWithin}
use Rattle.rp_evidence.specs.declared.failure.Failure.{Failure}
use Rattle.rp_evidence.specs.declared.random.RandomPart.{RandomPart}
use Rattle.rp_evidence.specs.declared.random.RandomPart.TheVariants.{Mixture, Violated, Wide}
use Rattle.rp_evidence.specs.declared.random.Share.{Share}
use Rattle.rp_farkas.specs.Total.{total}
use Rattle.rp_farkas.specs.declared.entry.Entry.{Entry}
use Rattle.rp_patch.specs.Patches.{PatchList, units_at}
use Rattle.rp_patch.specs.Types.{IsRationalType}
use Rattle.rp_whole_tableau.specs.Programs.{HasSoMuch, IsFirst, IsLeft, IsSolvedBy, NumberPasses, price_of, rows_of}
use Rattle.rp_whole_tableau.specs.ReadOff.{ArePricesBy, IsPointBy}
use Rattle.rp_whole_tableau.specs.declared.grown.Grown.{Grown}

-- The program of a row for each patch, whose side is the patch's units, and no types yet.
pub record IsFirstProgram (p : PatchList) (g : Grown) : Type 0 where
  pub sides : List ℕ
  pub many : length sides ≡ length p.patches
  pub units : (i : ℕ) → i < length p.patches → slice_index sides i ≡ units_at p i
  pub first : IsFirst sides g

-- Each of these columns is a rational type.
abbrev pub AreTypes : PatchList → List (Vec ℕ Global) → Type 0
AreTypes p [] = ⊤
AreTypes p (column ∷ columns) = IsRationalType p column.items × AreTypes p columns

-- What a type weighs by the prices of a program, over the denominator.
abbrev pub weight_by : Grown → List ℕ → ℤ
weight_by g type = total (length type) (λ j. price_of g (slice_index type j))

-- No rational type weighs less than the denominator.
abbrev pub HasNoLightType : PatchList → Grown → Type 0
HasNoLightType p g = (type : List ℕ) → IsRationalType p type → pos g.tableau.den ≤ℤ weight_by g type

-- Each of these columns is a rational type that weighs less than the denominator.
abbrev pub AreLightTypes : PatchList → Grown → List (Vec ℕ Global) → Type 0
AreLightTypes p g [] = ⊤
AreLightTypes p g (column ∷ columns) =
    (IsRationalType p column.items × (weight_by g column.items <ℤ pos g.tableau.den)) × AreLightTypes p g columns

-- Rational types were added to a program, at least one, each light by its prices.
pub record AddsTypes (p : PatchList) (g next : Grown) : Type 0 where
  pub same : next.tableau ≡ g.tableau
  pub types : List (Vec ℕ Global)
  pub some : 0 < length types
  pub light : AreLightTypes p g types
  pub columns : next.columns.items ≡ g.columns.items ++ types

-- The program after so many rounds. The first begins it with types; each later round solves it and adds types.
abbrev pub HasGrown : PatchList → ℕ → Grown → Type 0
HasGrown p zero g = (first : Grown) × IsFirstProgram p first × AddsTypes p first g
HasGrown p (suc round) g =
    (before : Grown) × (solved : Grown) × HasGrown p round before × IsSolvedBy p.total before solved × AddsTypes p solved g

-- The price of a patch is below 0, or past a word.
abbrev pub SomePriceIsWide : PatchList → Grown → Type 0
SomePriceIsWide p g =
    (i : ℕ) × (i < length p.patches) × ((price_of g i <ℤ pos 0) ⊎ (pos 18446744073709551615 <ℤ price_of g i))

-- The part is a verdict.
abbrev pub IsVerdict : RandomPart → Type 0
IsVerdict (Mixture den parts) = ⊤
IsVerdict (Violated den parts weights) = ⊤
IsVerdict (Wide step) = ⊥

-- The checker finds something wrong with a verdict in the steps that are left after so many, of twice those that the
-- searches may make.
pub record IsNotTaken (p : PatchList) (most steps : ℕ) (part : RandomPart) : Type 0 where
  pub verdict : IsVerdict part
  pub why : Failure
  pub fails : RandomFailsWithin p p.total part (2 * most - steps) (Err why)

-- A type and how much there is of it, for a column of the program.
abbrev pub share_of : Grown → Entry → Share
share_of g entry = record { patches = rows_of g entry.at; weight = entry.value }

-- The parts are the types of which the program has some, each with how much, in some order.
abbrev pub AreParts : Grown → List Entry → List Share → Type 0
AreParts g entries parts = IsPermutation (map (share_of g) entries) parts

-- The part is the mixture that a program shows: its types, each with how much there is of it, over the denominator.
abbrev pub IsMixtureReadOff : Grown → RandomPart → Type 0
IsMixtureReadOff g (Mixture den parts) =
    (common : ℕ) × (entries : List Entry) × IsPointBy g common den entries × AreParts g entries parts
IsMixtureReadOff g (Violated den parts weights) = ⊥
IsMixtureReadOff g (Wide step) = ⊥

-- The part is the partial mixture that a program shows, and its weights of the patches are the program's prices.
abbrev pub AreWeightsReadOff : Grown → RandomPart → Type 0
AreWeightsReadOff g (Mixture den parts) = ⊥
AreWeightsReadOff g (Violated den parts weights) =
    (common : ℕ) × (entries : List Entry) × IsPointBy g common den entries × AreParts g entries parts
    × ArePricesBy g common weights
AreWeightsReadOff g (Wide step) = ⊥

-- The mixture that a program shows is no evidence: a number of it is past its width, or the checker does not take it.
abbrev pub ShowsNoMixture : PatchList → ℕ → ℕ → Grown → Type 0
ShowsNoMixture p most steps g =
    NumberPasses g ⊎ ((part : RandomPart) × IsMixtureReadOff g part × IsNotTaken p most steps part)

-- The same of the partial mixture and the weights.
abbrev pub ShowsNoWeights : PatchList → ℕ → ℕ → Grown → Type 0
ShowsNoWeights p most steps g =
    NumberPasses g ⊎ ((part : RandomPart) × AreWeightsReadOff g part × IsNotTaken p most steps part)

-- A solved program shows no evidence: it has the whole total, and its mixture is none; or else a price is past a word; or
-- no rational type is light by its prices, and its weights are none.
abbrev pub HasNoEvidence : PatchList → ℕ → ℕ → Grown → Type 0
HasNoEvidence p most steps g =
    (HasSoMuch g p.total × ShowsNoMixture p most steps g)
    ⊎ (SomePriceIsWide p g ⊎ (HasNoLightType p g × ShowsNoWeights p most steps g))

-- The rounds end without evidence after so many steps: all 65,536 rounds were made, or the pivots of a round are left, or
-- else the program is solved, and what it shows is no evidence.
pub record HasEnded (p : PatchList) (most steps : ℕ) : Type 0 where
  pub round : ℕ
  pub program : Grown
  pub grown : HasGrown p round program
  pub few : round < 65536
  pub why : (round ≡ 65535) ⊎ (IsLeft program
      ⊎ ((solved : Grown) × IsSolvedBy p.total program solved × HasNoEvidence p most steps solved))

-- There is no rational type, and the program without types shows no evidence of it.
pub record HasNothingToShow (p : PatchList) (most steps : ℕ) : Type 0 where
  pub none : (type : List ℕ) → ¬ IsRationalType p type
  pub program : Grown
  pub first : IsFirstProgram p program
  pub nothing : ShowsNoWeights p most steps program
