use Rattle.std.proofs.Common.{ap, ◌∙◌}
use Rattle.rp_forms.specs.Texts.{text_at}
use Rattle.rp_forms.specs.Columns.{Layout}
use Rattle.rp_sheet.proofs.ColumnLemmas.{header_there}
use Rattle.rp_sheet.proofs.columns.Columns.header.Goals as goal

pub returns-in-Some : goal.returns-in-Some
returns-in-Some c =
    header_there c.self.inside.roles.entries c.args.c _ _ c.in-Some.ensures.entry ∙ ap (λ (columns : Layout). text_at columns.headers c.args.c) c.self.view_is
