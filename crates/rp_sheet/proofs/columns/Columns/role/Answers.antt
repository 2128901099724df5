use Rattle.std.proofs.Common.{◌≡◌, Some, subst}
use Rattle.rp_forms.specs.Texts.{text_at}
use Rattle.rp_forms.specs.Columns.{Layout, role_of}
use Rattle.rp_sheet.proofs.ColumnLemmas.{role_there}
use Rattle.rp_sheet.proofs.columns.Columns.role.Goals as goal

pub returns-in-Some : goal.returns-in-Some
returns-in-Some c =
    subst (λ (columns : Layout). role_of columns.form.marks (text_at columns.headers c.args.c) ≡ Some c.in-Some.role.now) c.self.view_is
    (role_there _ c.self.inside.roles.entries c.args.c _ _ c.self.invariant c.in-Some.ensures.entry)
