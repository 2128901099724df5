use Rattle.std.proofs.Common.{◌≡◌, ◌∙◌}
use Rattle.rp_evidence.specs.declared.failure.Reason.TheVariants.{Units}
use Rattle.rp_evidence.specs.Clauses.{Unless}
use Rattle.rp_evidence.proofs.ClauseLemmas.{then_last}
use Rattle.rp_check_mixture.specs.RandomWithin.{RandomPartFailsWithin}
use Rattle.rp_check_mixture.proofs.choices.check_choices_within.Goals as goal

pub returns : goal.returns
returns c =
    let p = c.args.patches.now in
    then_last (Unless (c.args.total ≡ p.total) Units 0) (RandomPartFailsWithin p c.args.evidence.now c.args.steps) c.check_evidence_within.result
    (c.if-total.false ∙ c.total.ensures) c.check_evidence_within.ensures
