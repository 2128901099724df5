use Rattle.rp_answers.proofs.GarpTestLemmas.{judged_first}
use Rattle.rp_answers.proofs.welfare.welfare_certificate.Goals as goal

pub returns : goal.returns
returns c =
    judged_first c.args.table.now c.requires.no_levels c.in_ok-tested.tested c.in_ok-tested.ensures.is_test c.in_ok-tested.ensures.given _ _ c.in_ok-items.items.items c.in_ok-certificate.certificate c.in_ok-certificate.ensures c.in_ok-items.ensures (λ k item is. is.passes) (λ k item is. is.readable)
