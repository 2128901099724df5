use Rattle.std.proofs.Common.{◌≡◌, ◌∙◌, ap, subst, sym}
use Rattle.rp_agreement.proofs.AcceptedRandom.{random_certificate_passes}
use Rattle.rp_check.specs.RandomCheckVerdict.{IsRandomCheckVerdict}
use Rattle.rp_check.specs.declared.verdict.Verdict.TheVariants.{Accepted}
use Rattle.rp_evidence.specs.Certificates.{random_certificate}
use Rattle.rp_evidence.specs.declared.certificate.Certificate.{Certificate}
use Rattle.rp_types.specs.Listed.{types_of}
use Rattle.rp_evidence.specs.declared.certificate.Kind.TheVariants.{Random as RandomKind}
use Rattle.rp_agreement.proofs.ItemsFit.{random_readable}
use Rattle.rp_agreement.proofs.SameValues.{text_read_back}
use Rattle.rp_agreement.specs.ReadBack.{IsReadBack}
use Rattle.rp_answers.proofs.random.random_answer.Goals as goal

pub returns : goal.returns
returns c =
    let p = c.args.patches.now in
    let types = types_of c.args.types.now in
    let evidence = c.in_ok-evidence.evidence in
    let item : c.in_ok-certificate.certificate ≡ random_certificate p.total evidence = c.in_ok-certificate.ensures ∙ ap (λ total. random_certificate total evidence) c.total.ensures in
    record {
      evidence = evidence;
      item = item;
      proves = c.in_ok-evidence.ensures.proves;
      says = c.in_ok-evidence.ensures.says;
      given = c.in_ok-evidence.ensures.run;
      accepted = subst (λ (made : Certificate). IsRandomCheckVerdict p made.items Accepted) (sym item)
          (random_certificate_passes p c.budgets.ensures.valid c.requires.few_patches types c.requires.few c.requires.all evidence c.in_ok-evidence.ensures.run);
      read_back = subst (IsReadBack RandomKind) (sym item)
          (text_read_back RandomKind (random_certificate p.total evidence) (random_readable p types evidence c.budgets.ensures.valid c.in_ok-evidence.ensures.proves c.in_ok-evidence.ensures.run));
    }
