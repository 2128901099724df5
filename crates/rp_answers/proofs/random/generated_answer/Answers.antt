use Rattle.std.proofs.Common.{◌≡◌, ◌∙◌, ◌≤◌, ℕ, zero, suc, Ok, ap, arith, subst, sym}
use Rattle.rp_answers.proofs.CheckedFits.{checked_readable}
use Rattle.rp_agreement.proofs.SameValues.{text_read_back}
use Rattle.rp_agreement.specs.ReadBack.{IsReadBack}
use Rattle.rp_check.specs.RandomCheckWithin.{IsRandomCheckVerdictWithin}
use Rattle.rp_check.specs.declared.verdict.Verdict.TheVariants.{Accepted}
use Rattle.rp_check_mixture.specs.RandomWithin.{RandomFailsWithin}
use Rattle.rp_evidence.specs.Certificates.{random_certificate}
use Rattle.rp_evidence.specs.declared.certificate.Certificate.{Certificate}
use Rattle.rp_evidence.specs.declared.certificate.Kind.TheVariants.{Random as RandomKind}
use Rattle.rp_evidence.specs.declared.random.RandomPart.{RandomPart}
use Rattle.rp_evidence.specs.declared.random.RandomPart.TheVariants.{Wide}
use Rattle.rp_generated.specs.Steps.{IsMostSteps, IsWithheldAfter, WithheldAt}
use Rattle.rp_json_entries.specs.Reading.{FitsLong}
use Rattle.rp_limits.specs.declared.generated.TheConstants.{STEPS}
use Rattle.rp_patch.specs.Patches.{PatchList}
use Rattle.rp_answers.proofs.random.generated_answer.Goals as goal

-- the one item passes
one_passes : (p : PatchList) (part : RandomPart) → RandomFailsWithin p p.total part STEPS (Ok tt) → IsRandomCheckVerdictWithin p (random_certificate p.total part).items STEPS Accepted
one_passes p part passes zero within other = passes
one_passes p part passes (suc k) within other = absurd (omega (arith, within))

-- a number of steps is one of 64 bits
steps_are_long : (p : PatchList) (most step : ℕ) → IsMostSteps most → IsWithheldAfter p most step → FitsLong step
steps_are_long p most step half made = let within = made.within in omega (arith, half, within)

pub returns : goal.returns
returns c =
    let p = c.args.patches.now in
    let evidence = c.in_ok-evidence.evidence in
    let found = c.in_ok-evidence.ensures in
    let item : c.in_ok-certificate.certificate ≡ random_certificate p.total evidence = c.in_ok-certificate.ensures ∙ ap (λ total. random_certificate total evidence) c.total.ensures in
    let long = λ (step : ℕ) (is : evidence ≡ Wide step). steps_are_long p c.args.most step c.requires (subst (λ (part : RandomPart). WithheldAt part (IsWithheldAfter p c.args.most)) is found.steps) in
    record {
      evidence = evidence;
      item = item;
      proves = found.proves;
      share = found.share;
      says = found.says;
      accepted = subst (λ (made : Certificate). IsRandomCheckVerdictWithin p made.items STEPS Accepted) (sym item) (one_passes p evidence found.accepted);
      read_back = subst (IsReadBack RandomKind) (sym item)
          (text_read_back RandomKind (random_certificate p.total evidence) (checked_readable p c.budgets.ensures.valid STEPS evidence found.proves found.accepted long));
      steps = found.steps;
    }
