use Rattle.std.proofs.Common.{IfOk, refl, subst, sym}
use Rattle.std.proofs.lemmas.Result.{IfOk-weaker}
use Rattle.rp_evidence.specs.declared.random.RandomPart.{RandomPart}
use Rattle.rp_evidence.specs.declared.random.RandomPart.TheVariants.{Mixture, Violated, Wide}
use Rattle.rp_find_mixture.specs.MixtureVerdict.{ProvesMixture}
use Rattle.rp_patch.specs.Kinds.{AreWhole}
use Rattle.rp_patch.specs.Mixtures.{types_on}
use Rattle.rp_patch.specs.Patches.{IsPatchList, PatchList}
use Rattle.rp_patch.specs.RandomEvidence.{ShowsShare}
use Rattle.rp_patch.proofs.GreatestShares.{shows_share}
use Rattle.rp_patch.proofs.TypeKinds.{are_whole}
use Rattle.rp_persons.specs.SaysRandom.{SaysOfChoices}
use Rattle.rp_persons.proofs.SaysOfItems.{evidence_says}
use Rattle.rp_random.proofs.random_verdict.random.Goals as goal

shown : (p : PatchList) → IsPatchList p → (part : RandomPart) → ProvesMixture (types_on p) part → ShowsShare p part
shown p is (Mixture den parts) proves = shows_share p is p.total (Mixture den parts) (refl, proves)
shown p is (Violated den parts weights) proves = shows_share p is p.total (Violated den parts weights) (refl, proves)
shown p is (Wide step) proves = tt

says : (p : PatchList) → IsPatchList p → (part : RandomPart) → ProvesMixture (types_on p) part → SaysOfChoices p part
says p is (Mixture den parts) proves = evidence_says p p.total (Mixture den parts) is (refl, proves)
says p is (Violated den parts weights) proves = evidence_says p p.total (Violated den parts weights) is (refl, proves)
says p is (Wide step) proves = evidence_says p p.total (Wide step) is tt

pub mixture-requires-clause-whole : goal.mixture-requires-clause-whole
mixture-requires-clause-whole c =
    subst (λ (p : PatchList). AreWhole (types_on p)) (sym c.make.ensures.patches) (are_whole c.args.patches.now c.budgets.ensures.valid)

pub returns-clause-share : goal.returns-clause-share
returns-clause-share c =
    let p = c.args.patches.now in
    let r = c.mixture.result in
    IfOk-weaker r (ProvesMixture (types_on p)) (ShowsShare p) (λ part proves. shown p c.budgets.ensures.valid part proves)
    (subst (λ (q : PatchList). IfOk r (ProvesMixture (types_on q))) c.make.ensures.patches c.mixture.ensures.proves)

pub returns-clause-mixtures_with_added : goal.returns-clause-mixtures_with_added
returns-clause-mixtures_with_added c = λ more place adds. c.patches_without_units_change_nothing.ensures.mixtures c.args.patches.now more place adds

pub returns-clause-share_with_added : goal.returns-clause-share_with_added
returns-clause-share_with_added c = λ more place adds. c.patches_without_units_change_nothing.ensures.shares c.args.patches.now more place adds

pub returns-clause-says : goal.returns-clause-says
returns-clause-says c =
    let p = c.args.patches.now in
    let r = c.mixture.result in
    IfOk-weaker r (ProvesMixture (types_on p)) (SaysOfChoices p) (λ part proves. says p c.budgets.ensures.valid part proves)
    (subst (λ (q : PatchList). IfOk r (ProvesMixture (types_on q))) c.make.ensures.patches c.mixture.ensures.proves)
