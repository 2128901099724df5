use Rattle.std.proofs.Common.{refl, subst, sym}
use Rattle.std.proofs.lemmas.Result.{IfOk-weaker}
use Rattle.rp_evidence.specs.Input.{input_of_table}
use Rattle.rp_evidence.specs.declared.homothetic.Homothetic.{Homothetic}
use Rattle.rp_filled.specs.InnerFound.{IsFoundHomothetic}
use Rattle.rp_filled.proofs.CertificateLemmas.{verdict_filled}
use Rattle.rp_filled.proofs.FoundLemmas.{homothetic_stays}
use Rattle.rp_filled.proofs.certificate.fill_homothetic.Goals as goal

pub returns-in_ok-costs-in-Withheld : goal.returns-in_ok-costs-in-Withheld
returns-in_ok-costs-in-Withheld c =
    let input = input_of_table c.args.table.now in
    IfOk-weaker c.found_homothetic.result _ _
    (λ found is. verdict_filled c.args.table.now c.n.ensures.valid c.args.stated found c.requires (subst (λ (h : Homothetic). IsFoundHomothetic input h found) (sym c.in-Withheld.is) is))
    (rw c.new-input.ensures.of at c.found_homothetic.ensures)

pub returns-in_default : goal.returns-in_default
returns-in_default c =
    let input = input_of_table c.args.table.now in
    verdict_filled c.args.table.now c.n.ensures.valid c.args.stated c.args.stated c.requires (homothetic_stays input c.args.stated c.args.stated refl)
