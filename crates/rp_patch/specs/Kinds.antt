-- Kinds of persons, each of whom uses one cell of every group, and mixtures of them (random preferences as mixtures of
-- kinds: Block and Marschak 1960; McFadden and Richter 1990). A rational type uses a patch of every budget, a strict
-- order a letter of every menu.
use Rattle.std.specs.Prelude.{◌≡◌, ◌<◌, ◌≤◌, ◌*◌, ◌↔◌, ◌==◌, ℕ, Bool, pos, List, [], Contains, length}
use Rattle.std.specs.Prelude.{sum_by, slice_index}
use Rattle.std.specs.Prelude.{slice_index_or, if◌then◌else◌}
use Rattle.std.specs.Cmp.Lexicographic.{slice_cmp}
use Rattle.std.specs.List.{list_any}
use Rattle.std.specs.List.Sorted.{IsStrictlySortedBy}
use Rattle.std.specs.Ordering.{nat_cmp}
use Rattle.rp_evidence.specs.declared.random.Share.{Share}
use Rattle.rp_farkas.specs.LinearProgram.{LinearProgram}
use Rattle.rp_table.specs.Sums.{sum_below}

-- So many groups and so many cells; the group of each cell, and its units; the total of each group; which lists are
-- written as a kind is, which of these are kinds, and the cells that a kind uses.
pub record Kinds : Type 1 where
  pub groups : ℕ
  pub cells : ℕ
  pub group : ℕ → ℕ
  pub units : ℕ → ℕ
  pub total : ℕ
  pub IsFormed : List ℕ → Type 0
  pub IsKind : List ℕ → Type 0
  pub used : List ℕ → List ℕ

-- The units of the cells of group j.
abbrev pub units_in : Kinds → ℕ → ℕ
units_in k j = sum_below k.cells (λ i. if k.group i == j then k.units i else 0)

-- A cell of each group: the j-th is one of group j.
pub record UsesOneOfEach (k : Kinds) (cells : List ℕ) : Type 0 where
  pub one_each : length cells ≡ k.groups
  pub cell : (j : ℕ) → j < k.groups → slice_index cells j < k.cells
  pub in_its_group : (j : ℕ) → j < k.groups → k.group (slice_index cells j) ≡ j

-- The cells of each group have the total, and each kind uses one cell of each group.
pub record AreWhole (k : Kinds) : Type 0 where
  pub some_groups : 1 ≤ k.groups
  pub in_groups : (i : ℕ) → i < k.cells → k.group i < k.groups
  pub filled : (j : ℕ) → j < k.groups → units_in k j ≡ k.total
  pub one_of_each : (kind : List ℕ) → k.IsKind kind → UsesOneOfEach k (k.used kind)

-- These are all lists that meet a condition, each once, in lexicographic order.
pub record AreAllOf (IsOne : List ℕ → Type 0) (kinds : List (List ℕ)) : Type 0 where
  pub rising : IsStrictlySortedBy (slice_cmp nat_cmp) kinds
  pub just_these : (kind : List ℕ) → Contains kinds kind ↔ IsOne kind

-- Cell i is among these.
abbrev pub uses : List ℕ → ℕ → Bool
uses cells i = list_any (λ cell. cell == i) cells

-- How much there is of the kinds that use cell i.
abbrev pub weight_using : Kinds → List Share → ℕ → ℕ
weight_using k parts i = sum_by (λ part. if uses (k.used part.patches) i then part.weight else 0) parts

-- How much there is of all kinds.
abbrev pub weight_of : List Share → ℕ
weight_of parts = sum_by (λ part. part.weight) parts

-- Kinds, of which each cell gets at most its units. The weights are over the denominator; a kind that is not listed has
-- none.
pub record IsPartialMixtureOf (k : Kinds) (den : ℕ) (parts : List Share) : Type 0 where
  pub fraction : 0 < den
  pub kinds : (part : Share) → Contains parts part → k.IsKind part.patches
  pub within : (i : ℕ) → i < k.cells → weight_using k parts i ≤ den * k.units i

-- Kinds, of which each cell gets just its units.
pub record IsMixtureOf (k : Kinds) (den : ℕ) (parts : List Share) : Type 0 where
  pub fraction : 0 < den
  pub kinds : (part : Share) → Contains parts part → k.IsKind part.patches
  pub exact : (i : ℕ) → i < k.cells → weight_using k parts i ≡ den * k.units i

-- Some mixture of the kinds has the units.
abbrev pub HasMixtureOf : Kinds → Type 0
HasMixtureOf k = (den : ℕ) × (parts : List Share) × IsMixtureOf k den parts

-- No partial mixture has more of the total.
abbrev pub IsGreatestMixtureOf : Kinds → ℕ → List Share → Type 0
IsGreatestMixtureOf k den parts =
    (d : ℕ) (other : List Share) → IsPartialMixtureOf k d other → weight_of other * den ≤ weight_of parts * d

-- The program of mixtures: a row for each cell with its units on the right side, and a column worth 1 for each listed
-- kind with 1 at the cells that it uses.
abbrev pub mixture_program : Kinds → List (List ℕ) → LinearProgram
mixture_program k kinds = record {
  rows = k.cells;
  cols = length kinds;
  a = λ i j. if uses (k.used (slice_index_or kinds j [])) i then pos 1 else pos 0;
  b = λ i. pos (k.units i);
  c = λ j. pos 1;
}

-- What these cells weigh together.
abbrev pub cells_weight : List ℕ → List ℕ → ℕ
cells_weight weights cells = sum_below (length cells) (λ j. slice_index weights (slice_index cells j))

-- What all units weigh together.
abbrev pub all_units_weight : Kinds → List ℕ → ℕ
all_units_weight k weights = sum_below k.cells (λ i. slice_index weights i * k.units i)

-- The evidence that no mixture has the units: the parts are a partial mixture, and none has a greater share; and the
-- cells of every kind together weigh at least the denominator.
pub record ProvesNoMixtureOf (k : Kinds) (den : ℕ) (parts : List Share) (weights : List ℕ) : Type 0 where
  pub none : ¬ HasMixtureOf k
  pub partial : IsPartialMixtureOf k den parts
  pub greatest : IsGreatestMixtureOf k den parts
  pub one_each : length weights ≡ k.cells
  pub weighs : (kind : List ℕ) → k.IsKind kind → den ≤ cells_weight weights (k.used kind)
