use Rattle.std.proofs.Common.{All, List, subst, sym}
use Rattle.std.proofs.lemmas.List.Elements.{All-push}
use Rattle.rp_num.specs.Fraction.{Fraction}
use Rattle.rp_num.specs.Spelled.{IsReduced}
use Rattle.rp_rounded.proofs.evidence.values.Goals as goal

pub loop-t-preserved : goal.loop-t-preserved
loop-t-preserved c =
    subst (λ (all : List Fraction). All IsReduced all) (sym c.in_ok-push-in-Some.ensures.items)
    (All-push IsReduced c.loop-t.values.items _ c.loop-t.invariant c.in-Some.ensures)
