use Rattle.std.proofs.Common.{◌<◌, ◌∙◌, ◌⊎◌, ◌↔◌, ◌+◌, slice_set, ℕ, ap, arith, refl, subst, sym, rules, slice_index, get_or-set_same, get_or-set_other}
use Rattle.std.proofs.lemmas.List.{length-take-le}
use Rattle.std.proofs.lemmas.Grind.{take-set_at}
use Rattle.rp_patch.specs.PartialTypes.{taken_in}
use Rattle.rp_patch.specs.Sets.{Has}
use Rattle.rp_patch.proofs.PartialTypeLaws.{taken_more}
use Rattle.rp_patch.proofs.partial_type.PartialType.extended.Goals as goal

pub returns-clause-part : goal.returns-clause-part
returns-clause-part c =
    let p = c.args.patches.now in
    let old = c.args.self.now in
    let d = old.taken in
    let room : d < p.budgets = subst (λ b. b < p.budgets) c.requires.next (c.budgets.ensures.valid.on_budgets c.args.i c.requires.patch) in
    taken_more p old _ c.args.i c.from_next-from.result c.weak_to-into.result c.requires.part (length-take-le d old.patches (search rules)) c.requires.patch c.requires.next room refl
    (ap (λ xs. taken_in (record { taken = d + 1; patches = slice_set xs d c.args.i; reached = old.reached })) c.join.ensures.patches ∙ take-set_at old.patches d (d + 1) c.args.i refl (search rules))
    c.from_next-from.ensures c.weak_to-into.ensures
    (λ k t below. subst (λ r. Has r t ↔ (Has (slice_index old.reached k) t ⊎ (((m : ℕ) × Has (slice_index old.reached k) m × Has c.weak_to-into.result m) × Has c.from_next-from.result t)))
    (sym (get_or-set_other c.join.new.self.reached d k c.from_next-from.result 0 (λ e. omega (arith, e, below)))) (c.join.ensures.joined k t below))
    (get_or-set_same c.join.new.self.reached d c.from_next-from.result 0 (search rules))
