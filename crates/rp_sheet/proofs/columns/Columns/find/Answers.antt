use Rattle.std.proofs.Common.{ap, ◌∙◌}
use Rattle.rp_forms.specs.Texts.{place_of}
use Rattle.rp_forms.specs.Columns.{Layout}
use Rattle.rp_sheet.proofs.ColumnLemmas.{found}
use Rattle.rp_sheet.proofs.columns.Columns.find.Goals as goal

pub returns : goal.returns
returns c =
    c.get_index_of.ensures.index ∙ found c.self.inside.roles.entries c.args.header.now ∙ ap (λ (columns : Layout). place_of columns.headers c.args.header.now) c.self.view_is
