use Rattle.std.proofs.Common.{ℕ, List, Bor}
use Rattle.rp_panel.proofs.TextLemmas.{three_more}
use Rattle.rp_panel.proofs.offered.with_offered_columns.Goals as goal

pub returns : goal.returns
returns c =
    three_more (λ (name : Bor (List ℕ)). name.now) c.args.names.items _ _ _ _ _ _ c.in_ok-push.ensures.items c.in_ok-push-2.ensures.items c.in_ok-push-3.ensures.items
