-- Mixtures of rational types, and the greatest share of choices that they explain (McFadden and Richter 1990;
-- Kitamura and Stoye 2018).
use Rattle.std.specs.Prelude.{◌≡◌, ◌<◌, ◌≤◌, ◌*◌, ℕ, List, length}
use Rattle.rp_evidence.specs.declared.random.Share.{Share}
use Rattle.rp_farkas.specs.LinearProgram.{LinearProgram}
use Rattle.rp_patch.specs.Kinds.{HasMixtureOf, IsMixtureOf, IsPartialMixtureOf, Kinds}
use Rattle.rp_patch.specs.Kinds.{all_units_weight, mixture_program, weight_of}
use Rattle.rp_patch.specs.Patches.{PatchList, budget_at, units_at}
use Rattle.rp_patch.specs.Types.{IsRationalType, IsType}

-- Patches as the cells of their budgets, of which every rational type takes one each.
abbrev pub types_on : PatchList → Kinds
types_on p = record {
  groups = p.budgets;
  cells = length p.patches;
  group = budget_at p;
  units = units_at p;
  total = p.total;
  IsFormed = IsType p;
  IsKind = IsRationalType p;
  used = λ type. type;
}

-- Rational types, of which each patch gets at most its units. The weights are over the denominator; a type that is not
-- listed has none.
abbrev pub IsPartialMixture : PatchList → ℕ → List Share → Type 0
IsPartialMixture p = IsPartialMixtureOf (types_on p)

-- Rational types, of which each patch gets just its units.
abbrev pub IsMixture : PatchList → ℕ → List Share → Type 0
IsMixture p = IsMixtureOf (types_on p)

-- Some mixture of rational types makes the choices.
abbrev pub HasMixture : PatchList → Type 0
HasMixture p = HasMixtureOf (types_on p)

-- num/den is the greatest rational share: the greatest sum of a partial mixture, as a part of the total.
pub record IsGreatestShare (p : PatchList) (num den : ℕ) : Type 0 where
  pub fraction : 0 < den
  pub reached : (d : ℕ) × (parts : List Share) × IsPartialMixture p d parts
      × (weight_of parts * den ≡ num * (d * p.total))
  pub no_greater : (d : ℕ) (parts : List Share) → IsPartialMixture p d parts
      → weight_of parts * den ≤ num * (d * p.total)

-- The program of random utility: a row for each patch with its units on the right side, and a column worth 1 for each
-- listed type with 1 at its patches.
abbrev pub random_program : PatchList → List (List ℕ) → LinearProgram
random_program p = mixture_program (types_on p)

-- What all units weigh together.
abbrev pub units_weight : PatchList → List ℕ → ℕ
units_weight p = all_units_weight (types_on p)
