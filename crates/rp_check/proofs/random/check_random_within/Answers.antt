use Rattle.std.proofs.Common.{ap, arith, length}
use Rattle.rp_persons.proofs.SaysOfItems.{items_say}
use Rattle.rp_check.proofs.SoundRandom.{items_without, random_items_sound}
use Rattle.rp_check.proofs.random.check_random_within.Goals as goal

pub returns-clause-accepted_without : goal.returns-clause-accepted_without
returns-clause-accepted_without c = λ is.
    items_without c.args.patches.now c.args.steps c.args.certificate.now.items
    (λ k within. c.loop-k.invariant k (omega (arith, ap length c.as_slice-item-items.ensures)))

pub returns-clause-accepted_proves : goal.returns-clause-accepted_proves
returns-clause-accepted_proves c = λ is.
    random_items_sound c.args.patches.now c.budgets.ensures.valid c.args.certificate.now.items c.requires.1
    (items_without c.args.patches.now c.args.steps c.args.certificate.now.items
    (λ k within. c.loop-k.invariant k (omega (arith, ap length c.as_slice-item-items.ensures))))

pub returns-clause-accepted_says : goal.returns-clause-accepted_says
returns-clause-accepted_says c = λ is.
    items_say c.args.patches.now c.args.certificate.now.items c.budgets.ensures.valid
    (random_items_sound c.args.patches.now c.budgets.ensures.valid c.args.certificate.now.items c.requires.1
    (items_without c.args.patches.now c.args.steps c.args.certificate.now.items
    (λ k within. c.loop-k.invariant k (omega (arith, ap length c.as_slice-item-items.ensures)))))
