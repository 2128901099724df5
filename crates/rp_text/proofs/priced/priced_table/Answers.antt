use Rattle.std.proofs.Common.{inl, inr, ap, ◌∙◌}
use Rattle.rp_forms.specs.Columns.{mark_of_prices, mark_of_quantities}
use Rattle.rp_table.specs.Tables.{levels_given}
use Rattle.rp_text.proofs.PricedTables.{priced_limits}
use Rattle.rp_text.proofs.priced.priced_table.Goals as goal

pub numbers_under-requires : goal.numbers_under-requires
numbers_under-requires c =
    let mark = c.prices.ensures ∙ ap (λ form. mark_of_prices form.marks) c.form.ensures in
    priced_limits c.args.columns.now.form c.args.columns.now.headers c.args.figures.now (levels_given c.args.levels) c.as_slice.result.now c.args.sizes.now c.prices.result.now
    (c.as_slice.ensures.value ∙ c.requires.named) c.requires.sized (inl mark) c.requires.within

pub numbers_under-requires-2 : goal.numbers_under-requires-2
numbers_under-requires-2 c =
    let mark = c.quantities.ensures ∙ ap (λ form. mark_of_quantities form.marks) c.form.ensures in
    priced_limits c.args.columns.now.form c.args.columns.now.headers c.args.figures.now (levels_given c.args.levels) c.as_slice-2.result.now c.args.sizes.now c.quantities.result.now
    (c.as_slice-2.ensures.value ∙ c.requires.named) c.requires.sized (inr mark) c.requires.within
