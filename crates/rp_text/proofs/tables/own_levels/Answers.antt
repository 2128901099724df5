use Rattle.std.proofs.Common.{length, ap, ◌∙◌}
use Rattle.rp_num.proofs.BelowLemmas.{length-listed}
use Rattle.rp_text.proofs.tables.own_levels.Goals as goal

pub returns-clause-each : goal.returns-clause-each
returns-clause-each c =
    ap length (c.in_ok-narrow.ensures ∙ c.as_slice.ensures.value ∙ c.in_ok-numbers.ensures) ∙ length-listed _ (length c.args.sizes.now)
