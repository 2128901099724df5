use Rattle.std.proofs.Common.{arith, sym, ◌∙◌}
use Rattle.std.proofs.lemmas.Bool.{false≢true}
use Rattle.rp_check_levels.proofs.walks.are_strict.Goals as goal

pub returns-then-not-is_strict : goal.returns-then-not-is_strict
returns-then-not-is_strict c =
    (λ h. absurd (false≢true h), λ all. absurd (false≢true (sym c.if-not-is_strict.true ∙ c.is_strict.ensures.1 (all c.loop-k.k (omega arith)))))
