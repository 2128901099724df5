-- What inputs suffice for an output, in a technology that is not known (Varian 1984): input requirement sets.
use Rattle.std.specs.Prelude.{ℕ, ◌+◌, ◌*◌, ◌<◌, ◌≤◌, Bool, IsTrue}
use Rattle.rp_evidence.specs.Demand.{FractionBundle, spending}
use Rattle.rp_evidence.specs.Input.{TableInput}
use Rattle.rp_evidence.specs.WelfareModels.{bundle_at}
use Rattle.rp_people.specs.Bundles.{IsBundle, mixture}

-- The inputs z are at least as much of every input as x.
abbrev pub HasAtLeastAsMuch : ℕ → FractionBundle → FractionBundle → Type 0
HasAtLeastAsMuch goods z x = (g : ℕ) → g < goods → x.num g * z.den ≤ z.num g * x.den

-- A relation between integer outputs and bundles of inputs, which nothing has to decide: the inputs suffice for the output.
-- The sets are nested: what suffices for more suffices for less. They are disposable: a bundle that has at least as much
-- of every input as one that suffices, suffices too.
pub record AreRequirementSets (goods : ℕ) (suffices : ℕ → FractionBundle → Type 0) : Type 0 where
  pub nested : (low high : ℕ) (x : FractionBundle) → IsBundle x → low ≤ high → suffices high x
      → suffices low x
  pub disposable : (output : ℕ) (x z : FractionBundle) → IsBundle x → IsBundle z → HasAtLeastAsMuch goods z x
      → suffices output x → suffices output z

-- For each output they are convex: a mixture of inputs that suffice suffices too.
abbrev pub AreConvex : (ℕ → FractionBundle → Type 0) → Type 0
AreConvex suffices = (output a b : ℕ) (x z : FractionBundle) → 0 < a + b → IsBundle x → IsBundle z
    → suffices output x → suffices output z → suffices output (mixture a b x z)

-- They rationalize what was seen, `y s` being the output of observation s: its inputs suffice for it, and nothing that
-- does costs less at its prices.
pub record RationalizeCost (input : TableInput) (y : ℕ → ℕ) (suffices : ℕ → FractionBundle → Type 0) : Type 0 where
  pub enough : (s : ℕ) → s < input.n → suffices (y s) (bundle_at input s)
  pub none_cheaper : (s : ℕ) (x : FractionBundle) → s < input.n → IsBundle x → suffices (y s) x
      → x.den * input.cost s s ≤ spending input.goods (input.price s) x.num

-- The sets that a test of evidence makes: inputs are in that of an output where some evidence, a sequence of numbers,
-- passes as showing it. A claim that some sets exist is over these, and all that a function decides are among them.
abbrev pub sets_by : (ℕ → FractionBundle → (ℕ → ℕ) → Bool) → ℕ → FractionBundle → Type 0
sets_by passes output x = (evidence : ℕ → ℕ) × IsTrue (passes output x evidence)

-- Some requirement sets rationalize what was seen.
pub record HasRequirementSets (input : TableInput) (y : ℕ → ℕ) : Type 0 where
  pub passes : ℕ → FractionBundle → (ℕ → ℕ) → Bool
  pub sets : AreRequirementSets input.goods (sets_by passes)
  pub rationalize : RationalizeCost input y (sets_by passes)

-- Some requirement sets that are convex do.
pub record HasConvexRequirementSets (input : TableInput) (y : ℕ → ℕ) : Type 0 where
  pub passes : ℕ → FractionBundle → (ℕ → ℕ) → Bool
  pub sets : AreRequirementSets input.goods (sets_by passes)
  pub convex : AreConvex (sets_by passes)
  pub rationalize : RationalizeCost input y (sets_by passes)
