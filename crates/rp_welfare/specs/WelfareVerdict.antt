-- What is given for the welfare bounds (after Varian 1982): the upper one where it is found first, and the lower one
-- by the run of its program.
use Rattle.std.specs.Prelude.{◌≡◌, ℕ, ◌*◌, ◌<◌, ◌≤◌, List, slice_index}
use Rattle.rp_simplex.specs.ProgramBound.{IsBoundOf}
use Rattle.rp_evidence.specs.Demand.{spending}
use Rattle.rp_evidence.specs.Garp.{MeetsGarp}
use Rattle.rp_evidence.specs.Input.{TableInput}
use Rattle.rp_evidence.specs.BoundEvidence.{NoneWorthMore}
use Rattle.rp_evidence.specs.LeastCost.{least_cost_program}
use Rattle.rp_evidence.specs.Welfare.{EqualsOrReaches, IsUpperWelfare, ListsReached}
use Rattle.rp_evidence.specs.declared.demand.Bound.{Bound}
use Rattle.rp_evidence.specs.declared.demand.Bound.TheVariants.{Shown, Wide}
use Rattle.rp_evidence.specs.declared.demand.WelfarePart.{WelfarePart}
use Rattle.rp_evidence.specs.declared.demand.WelfarePart.TheVariants.{Bounds, NoModel}
use Rattle.rp_evidence.specs.declared.garp.Garp.{Garp}
use Rattle.rp_evidence.specs.declared.garp.Garp.TheVariants.{Cycle}

-- The upper bound of t, and s is the first observation that equals or reaches t and costs no more.
pub record IsFirstCheapest (input : TableInput) (prices : ℕ → ℕ) (t s cost : ℕ) : Type 0 where
  pub upper : IsUpperWelfare input prices t s cost
  pub first : (r : ℕ) → r < s → EqualsOrReaches input r t → cost < spending input.goods prices (input.quantity r)

-- The lower bound of t: its program lists t and all that t reaches, and the bound is that of the program on what the
-- price side costs at the new prices.
pub record IsLowerBound (input : TableInput) (prices : ℕ → ℕ) (t : ℕ) (bound : Bound) : Type 0 where
  pub reached : List ℕ
  pub listed : ListsReached input t reached
  pub is_bound : IsBoundOf (least_cost_program input prices reached) (spending input.goods prices) bound

-- Bounds, which are given where the axiom holds.
pub record AreWelfareBounds (input : TableInput) (prices : ℕ → ℕ) (t upper at : ℕ) (lower : Bound) : Type 0 where
  pub sound : MeetsGarp input.n input.cost
  pub cheapest : IsFirstCheapest input prices t at upper
  pub lower_is : IsLowerBound input prices t lower

-- Bounds; or, where the axiom fails, the violation that the verdict has.
abbrev pub IsWelfareVerdict : TableInput → List ℕ → ℕ → Garp → WelfarePart → Type 0
IsWelfareVerdict input prices t verdict (Bounds upper at lower) =
    AreWelfareBounds input (slice_index prices) t upper at lower
IsWelfareVerdict input prices t verdict (NoModel walk) = verdict ≡ Cycle walk

-- A shown lower bound is at most the upper one.
abbrev pub IsBoundAtMost : Bound → ℕ → Type 0
IsBoundAtMost (Shown value pair) upper = value.num ≤ upper * value.den
IsBoundAtMost (Wide step) upper = Unit {0}

abbrev pub HasLowerAtMostUpper : WelfarePart → Type 0
HasLowerAtMostUpper (Bounds upper at lower) = IsBoundAtMost lower upper
HasLowerAtMostUpper (NoModel walk) = Unit {0}

-- Where bounds are given the program of the lower one is bounded, not its run alone: no feasible point of it is worth
-- more than the upper bound.
abbrev pub HasBoundedProgram : TableInput → List ℕ → ℕ → WelfarePart → Type 0
HasBoundedProgram input prices t (Bounds upper at lower) =
    (reached : List ℕ) → ListsReached input t reached
    → NoneWorthMore (least_cost_program input (slice_index prices) reached) upper
HasBoundedProgram input prices t (NoModel walk) = Unit {0}
