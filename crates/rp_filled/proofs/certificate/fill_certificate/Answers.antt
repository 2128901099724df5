use Rattle.std.proofs.Common.{List, ap, arith, subst, sym}
use Rattle.rp_evidence.specs.Input.{input_of_table}
use Rattle.rp_evidence.specs.declared.certificate.Item.{Item}
use Rattle.rp_filled.specs.InnerFound.{ItemsPass}
use Rattle.rp_filled.proofs.CertificateLemmas.{certificate_from, certificate_stays, items_pass}
use Rattle.rp_filled.proofs.certificate.fill_certificate.Goals as goal

pub found_items-requires-clause-pass : goal.found_items-requires-clause-pass
found_items-requires-clause-pass c =
    let input = input_of_table c.args.table.now in
    subst (λ (items : List Item). ItemsPass input items) (sym c.into_vec.ensures) (items_pass input c.args.stated.levels c.args.stated.items c.requires.accepted)

pub returns-then-withheld-eq0 : goal.returns-then-withheld-eq0
returns-then-withheld-eq0 c = certificate_stays c.args.table.now c.n.ensures.valid c.args.stated c.requires.accepted c.requires.read_back

pub returns : goal.returns
returns c =
    certificate_from c.args.table.now c.n.ensures.valid c.args.stated c.requires.accepted c.requires.read_back c.into_vec.result.items c.in_ok-found.found.items _ c.into_vec.ensures
    (ap (λ (items : List Item). record { kind = c.args.stated.kind; version = c.args.stated.version; levels = c.args.stated.levels; items = items }) c.from_vec.ensures) c.in_ok-found.ensures
    (λ none. absurd (omega (arith, c.if-withheld-eq0.false, c.withheld.ensures, none)))
