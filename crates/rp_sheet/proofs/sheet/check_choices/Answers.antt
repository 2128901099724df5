use Rattle.std.proofs.Common.{◌≡◌, ℕ, not, if◌then◌else◌, Some, None, refl, sym, ap, ◌∙◌, subst, arith}
use Rattle.rp_num.specs.Below.{first_of}
use Rattle.rp_forms.specs.Texts.{number_of}
use Rattle.rp_sheet.specs.ChoiceCounts.{is_chosen, choices_stage}
use Rattle.rp_forms.specs.declared.form.Form.{Form}
use Rattle.rp_sheet.specs.declared.fault.TableFault.TheVariants as fault
use Rattle.rp_num.proofs.BelowLemmas.{first_at}
use Rattle.rp_sheet.proofs.sheet.check_choices.Goals as goal

pub returns-then-not-is_chosen-clause-refused : goal.returns-then-not-is_chosen-clause-refused
unfolding choices_stage
returns-then-not-is_chosen-clause-refused c =
    let none = sym c.is_chosen.ensures ∙ c.if-not-is_chosen.true in
    (first_at (λ k. if not (is_chosen c.args.columns.now.headers c.args.figures.now k) then Some (fault.NoChoices (number_of k)) else None) c.loop-j.j c.args.columns.now.form.budgets (fault.NoChoices c.number_of.result) (rw c.form.ensures at c.loop-j-test.true) c.loop-j.invariant (rw (none, c.number_of.ensures) refl))

pub returns-clause-fine : goal.returns-clause-fine
unfolding choices_stage
returns-clause-fine c =
    let all : c.loop-j.j ≡ c.args.columns.now.form.budgets = omega (arith, ap (λ (form : Form). form.budgets) c.form.ensures, c.loop-j-test.false) in
    (subst (λ (n : ℕ). first_of n (λ k. if not (is_chosen c.args.columns.now.headers c.args.figures.now k) then Some (fault.NoChoices (number_of k)) else None) ≡ None) all c.loop-j.invariant)
