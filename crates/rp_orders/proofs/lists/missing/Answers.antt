use Rattle.std.proofs.Common.{◌==◌, ap, not, sym, ◌∙◌}
use Rattle.std.specs.List.{list_any}
use Rattle.rp_orders.proofs.OrderLists.{first_at}
use Rattle.rp_orders.proofs.lists.missing.Goals as goal

pub returns-then-not-contains : goal.returns-then-not-contains
returns-then-not-contains c =
    sym (first_at c.loop-letter.letter-counter c.args.letters (λ x. not (list_any (λ y. y == x) c.args.list.now)) c.loop-letter.invariant
    (ap not (sym c.contains.ensures.value ∙ c.if-not-contains.true)) c.loop-letter-test.true)
