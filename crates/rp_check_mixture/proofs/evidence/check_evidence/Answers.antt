use Rattle.std.proofs.Common.{List, ℕ, subst, sym}
use Rattle.rp_evidence.specs.declared.random.RandomPart.{RandomPart}
use Rattle.rp_evidence.specs.declared.random.Share.{Share}
use Rattle.rp_patch.specs.KindFailure.{EvidenceFailsOf, MixtureFailsOf, ViolationFailsOf}
use Rattle.rp_check_mixture.proofs.evidence.check_evidence.Goals as goal

pub returns-in-Mixture : goal.returns-in-Mixture
returns-in-Mixture g c =
    let k = g.C.CellUnits.kinds c.args.choosers.now in
    let r = c.check_mixture.result in
    subst (λ (evidence : RandomPart). EvidenceFailsOf k evidence r) (sym c.in-Mixture.is)
    (subst (λ (parts : List Share). MixtureFailsOf k c.in-Mixture.den parts r) c.as_slice.ensures c.check_mixture.ensures)

pub returns-in-Violated : goal.returns-in-Violated
returns-in-Violated g c =
    let k = g.C.CellUnits.kinds c.args.choosers.now in
    let r = c.check_no_mixture.result in
    let v = c.in-Violated in
    subst (λ (evidence : RandomPart). EvidenceFailsOf k evidence r) (sym v.is)
    (subst (λ (weights : List ℕ). ViolationFailsOf k v.den v.parts weights r) c.as_slice-in-Violated-2.ensures
    (subst (λ (parts : List Share). ViolationFailsOf k v.den parts c.as_slice-in-Violated-2.result.now r) c.as_slice-in-Violated.ensures c.check_no_mixture.ensures))
