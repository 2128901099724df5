use Rattle.std.proofs.Common.{◌∙◌, subst}
use Rattle.rp_evidence.specs.declared.garp.Garp.{Garp}
use Rattle.rp_bound_rows_wide.specs.InnerItems.{HasSmallRanks}
use Rattle.rp_bound_rows_wide.proofs.ItemLemmas.{made_accepted, made_of, made_read_back}
use Rattle.rp_bound_rows_wide.proofs.item.certificate_of.Goals as goal

pub returns-clause-accepted : goal.returns-clause-accepted
returns-clause-accepted c =
    made_accepted c.args.table.now c.requires.no_levels c.args.tested.now c.requires.is_test c.args.item c.requires.given c.in_ok-certificate.certificate
    (made_of c.levels.result.now c.args.tested.now.garp c.in_ok-garp.garp c.args.item c.in_ok-items.items.items c.in_ok-certificate.certificate (c.levels.ensures.same ∙ c.requires.no_levels) c.in_ok-garp.ensures.same
    c.in_ok-items.ensures c.in_ok-certificate.ensures)

pub returns-clause-read_back : goal.returns-clause-read_back
returns-clause-read_back c =
    made_read_back c.args.table.now c.requires.no_levels c.args.tested.now c.requires.is_test c.args.item c.requires.given c.in_ok-certificate.certificate
    (made_of c.levels.result.now c.args.tested.now.garp c.in_ok-garp.garp c.args.item c.in_ok-items.items.items c.in_ok-certificate.certificate (c.levels.ensures.same ∙ c.requires.no_levels) c.in_ok-garp.ensures.same
    c.in_ok-items.ensures c.in_ok-certificate.ensures)
    (subst (λ (garp : Garp). HasSmallRanks garp) c.in_ok-garp.ensures.same c.in_ok-garp.ensures.small)
