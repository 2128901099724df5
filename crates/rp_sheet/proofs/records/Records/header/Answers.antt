use Rattle.std.proofs.Common.{◌∙◌, ap}
use Rattle.rp_forms.specs.Texts.{text_at}
use Rattle.rp_sheet.proofs.FieldLemmas.{record_there}
use Rattle.rp_sheet.proofs.records.Records.header.Goals as goal

pub returns : goal.returns
returns c =
    let same = record_there c.self.inside.records.items c.args.self.now 0 c.index.result.now c.self.view_is c.requires c.index.ensures in
    c.field_of.ensures ∙ ap (λ fields. text_at fields c.args.c) same
