use Rattle.std.proofs.Common.{◌≡◌, ◌∙◌}
use Rattle.rp_evidence.specs.declared.failure.Reason.TheVariants.{Units}
use Rattle.rp_evidence.specs.Clauses.{Unless}
use Rattle.rp_patch.specs.RandomFailure.{RandomPartFails}
use Rattle.rp_evidence.proofs.ClauseLemmas.{then_last}
use Rattle.rp_check_mixture.proofs.choices.check_choices.Goals as goal

pub returns : goal.returns
returns c =
    let p = c.args.patches.now in
    then_last (Unless (c.args.total ≡ p.total) Units 0) (RandomPartFails p c.args.evidence.now) c.check_evidence.result (c.if-total.false ∙ c.total.ensures) c.check_evidence.ensures
