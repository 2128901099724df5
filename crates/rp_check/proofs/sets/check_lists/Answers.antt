use Rattle.std.proofs.Common.{ℕ, subst, sym, ◌∙◌}
use Rattle.std.proofs.lemmas.Bool.{false≢true}
use Rattle.rp_evidence.specs.InnerBudget.{input_of, new_budget}
use Rattle.rp_evidence.specs.Enumeration.{Enumerates}
use Rattle.rp_evidence.specs.Marks.{IsMarked}
use Rattle.rp_check.proofs.SetLists.{below_fails, lists_below, lists_strictly, strict_fails}
use Rattle.rp_check.proofs.sets.check_lists.Goals as goal

pub returns-then-not-is_marked_list : goal.returns-then-not-is_marked_list
returns-then-not-is_marked_list c =
    let a = c.args in
    below_fails (input_of a.budget.now.at) (new_budget a.budget.now) a.sets.now c.requires.sets a.below.now a.strict.now c.fails.result
    (λ l. false≢true (sym c.if-not-is_marked_list.true ∙ c.is_marked_list.ensures.1 (subst (λ (n : ℕ). Enumerates n (IsMarked a.sets.now.below) a.below.now) (sym c.n-n.ensures.count) l)))
    c.fails.ensures

pub returns-then-not-is_marked_list-2 : goal.returns-then-not-is_marked_list-2
returns-then-not-is_marked_list-2 c =
    let a = c.args in
    strict_fails (input_of a.budget.now.at) (new_budget a.budget.now) a.sets.now c.requires.sets a.below.now a.strict.now c.fails-then-not-is_marked_list-2.result
    (subst (λ (n : ℕ). Enumerates n (IsMarked a.sets.now.below) a.below.now) c.n-n.ensures.count (c.is_marked_list.ensures.0 c.if-not-is_marked_list.false))
    (λ l. false≢true (sym c.if-not-is_marked_list-2.true ∙ c.is_marked_list-2.ensures.1 (subst (λ (n : ℕ). Enumerates n (IsMarked a.sets.now.strict) a.strict.now) (sym c.n-n.ensures.count) l)))
    c.fails-then-not-is_marked_list-2.ensures

pub returns : goal.returns
returns c =
    let a = c.args in (
      lists_below (input_of a.budget.now.at) (new_budget a.budget.now) a.sets.now c.requires.sets a.below.now a.strict.now
          (subst (λ (n : ℕ). Enumerates n (IsMarked a.sets.now.below) a.below.now) c.n-n.ensures.count (c.is_marked_list.ensures.0 c.if-not-is_marked_list.false)),
      (
        lists_strictly (input_of a.budget.now.at) (new_budget a.budget.now) a.sets.now c.requires.sets a.below.now a.strict.now
            (subst (λ (n : ℕ). Enumerates n (IsMarked a.sets.now.strict) a.strict.now) c.n-n.ensures.count (c.is_marked_list-2.ensures.0 c.if-not-is_marked_list-2.false)),
        tt,
      ),
    )
