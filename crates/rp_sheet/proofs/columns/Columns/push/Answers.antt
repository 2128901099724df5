use Rattle.std.proofs.Common.{◌≡◌, None, Some, [], ◌∷◌, ◌++◌, ap, ◌∙◌, subst, sym}
use Rattle.rp_forms.specs.Texts.{place_of}
use Rattle.rp_forms.specs.Columns.{Layout, role_of}
use Rattle.rp_sheet.proofs.ColumnLemmas.{headers_of, added, headers-more, agrees-more}
use Rattle.rp_sheet.proofs.columns.Columns.push.Goals as goal

pub invariant_of-self-2 : goal.invariant_of-self-2
invariant_of-self-2 c =
    let new = subst (λ (columns : Layout). place_of columns.headers c.args.header.now ≡ None) (sym c.self.view_is) c.requires.other in
    let says = subst (λ (columns : Layout). role_of columns.form.marks c.args.header.now ≡ Some c.args.role) (sym c.self.view_is) c.requires.says in
    let entries = c.in_ok-insert.ensures.entries ∙ added c.self.inside.roles c.args.header c.args.role new in
    agrees-more _ c.self.inside.roles.entries c.insert.new.self.entries c.args.header c.args.role entries c.self.invariant says

pub returns-clause-more : goal.returns-clause-more
returns-clause-more c =
    let new = subst (λ (columns : Layout). place_of columns.headers c.args.header.now ≡ None) (sym c.self.view_is) c.requires.other in
    let entries = c.in_ok-insert.ensures.entries ∙ added c.self.inside.roles c.args.header c.args.role new in
    ap headers_of entries ∙ headers-more c.self.inside.roles.entries c.args.header c.args.role ∙ ap (λ (columns : Layout). columns.headers ++ c.args.header.now ∷ []) c.self.view_is
