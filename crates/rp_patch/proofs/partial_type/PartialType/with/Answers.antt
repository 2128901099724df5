use Rattle.std.proofs.Common.{◌∙◌, ◌++◌, ◌∷◌, [], List, ℕ, inl, inr, refl, subst}
use Rattle.rp_patch.specs.PartialTypes.{IsRationalBelow, taken_in}
use Rattle.rp_patch.proofs.SearchLaws.{excluded_by_budget, excluded_by_violation}
use Rattle.rp_patch.proofs.partial_type.PartialType.with.Goals as goal

pub returns-then-budget_of-self-clause-excluded : goal.returns-then-budget_of-self-clause-excluded
returns-then-budget_of-self-clause-excluded c =
    excluded_by_budget c.args.patches.now (taken_in c.args.self.now) c.args.i
    (λ e. c.if-budget_of-self.true (c.budget_of.ensures.exact ∙ e ∙ c.requires.part.0.count))

pub returns-then-has_violation-clause-excluded : goal.returns-then-has_violation-clause-excluded
returns-then-has_violation-clause-excluded c =
    excluded_by_violation c.args.patches.now (taken_in c.args.self.now ++ c.args.i ∷ [])
    (subst (λ (xs : List ℕ). ¬ IsRationalBelow c.args.patches.now xs) c.extended-next.ensures.longer (c.if-has_violation.ensures.violated refl))

pub returns-then-budget_of-self-clause-unfit : goal.returns-then-budget_of-self-clause-unfit
returns-then-budget_of-self-clause-unfit c = inl (λ e. c.if-budget_of-self.true (c.budget_of.ensures.exact ∙ e))

pub returns-then-has_violation-clause-unfit : goal.returns-then-has_violation-clause-unfit
returns-then-has_violation-clause-unfit c =
    inr (subst (λ (xs : List ℕ). ¬ IsRationalBelow c.args.patches.now xs) c.extended-next.ensures.longer (c.if-has_violation.ensures.violated refl))
