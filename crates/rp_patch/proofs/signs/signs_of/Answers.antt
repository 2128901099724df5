use Rattle.std.proofs.Common.{sym, arith, ◌∙◌, ap, ◌++◌, ◌∷◌, [], List, ℤ, w8}
use Rattle.std.proofs.lemmas.Int.{to_z-of_z}
use Rattle.std.proofs.lemmas.List.FromFn.{map-range_with_len_more}
use Rattle.rp_patch.specs.Choices.{random_input_of}
use Rattle.rp_patch.specs.Signs.{sign_to}
use Rattle.rp_patch.proofs.signs.signs_of.Goals as goal

pub loop-k-preserved : goal.loop-k-preserved
loop-k-preserved c =
    c.in_ok-push.ensures.items
    ∙ ap (λ (x : ℤ). c.loop-k.signs.items ++ x ∷ []) (to_z-of_z w8 c.sign_to.result (record { sfits = c.sign_to.type_inv }) ∙ c.sign_to.ensures)
    ∙ ap (λ (xs : List ℤ). xs ++ sign_to (random_input_of c.args.budgets.now c.args.choices.now) c.args.i c.loop-k.k ∷ []) c.loop-k.invariant
    ∙ sym (map-range_with_len_more (sign_to (random_input_of c.args.budgets.now c.args.choices.now) c.args.i) 0 c.loop-k.k c.loop-k.k (omega arith))
