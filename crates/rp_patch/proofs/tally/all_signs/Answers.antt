use Rattle.std.proofs.Common.{sym, arith, ◌∙◌, ap, ◌++◌, ◌∷◌, [], List, ℤ}
use Rattle.std.proofs.lemmas.List.FromFn.{map-range_with_len_more}
use Rattle.rp_patch.specs.Choices.{random_input_of}
use Rattle.rp_patch.specs.Signs.{signs_of}
use Rattle.rp_patch.proofs.tally.all_signs.Goals as goal

pub loop-i-preserved : goal.loop-i-preserved
loop-i-preserved c =
    c.in_ok-push.ensures.items
    ∙ ap (λ (x : List ℤ). c.loop-i.all.items ++ x ∷ []) (c.from_vec.ensures ∙ c.in_ok-signs_of.ensures)
    ∙ ap (λ (xs : List (List ℤ)). xs ++ signs_of (random_input_of c.args.budgets.now c.args.choices.now) c.loop-i.i ∷ []) c.loop-i.invariant
    ∙ sym (map-range_with_len_more (signs_of (random_input_of c.args.budgets.now c.args.choices.now)) 0 c.loop-i.i c.loop-i.i (omega arith))
