use Rattle.std.proofs.Common.{List, ℕ, subst, sym}
use Rattle.rp_evidence.specs.declared.random.RandomPart.{RandomPart}
use Rattle.rp_evidence.specs.declared.random.Share.{Share}
use Rattle.rp_check_mixture.specs.RandomWithin.{RandomPartFailsWithin, ViolationFailsWithin}
use Rattle.rp_check_mixture.proofs.choices.check_evidence_within.Goals as goal

pub returns-in-Violated : goal.returns-in-Violated
returns-in-Violated c =
    let p = c.args.patches.now in
    let r = c.check_no_mixture_within.result in
    let v = c.in-Violated in
    subst (λ (evidence : RandomPart). RandomPartFailsWithin p evidence c.args.steps r) (sym v.is)
    (subst (λ (weights : List ℕ). ViolationFailsWithin p v.den v.parts weights c.args.steps r) c.as_slice-numbers.ensures
    (subst (λ (parts : List Share). ViolationFailsWithin p v.den parts c.as_slice-numbers.result.now c.args.steps r) c.as_slice-shares.ensures c.check_no_mixture_within.ensures))
