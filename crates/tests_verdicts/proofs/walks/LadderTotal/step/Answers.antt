use Rattle.std.proofs.Common.{arith}
use Rattle.std.proofs.lemmas.Int.{ints}
use Rattle.std.specs.Prelude.{pos, ◌+ℤ◌, ◌-ℤ◌}
use Rattle.tests_verdicts.proofs.walks.LadderTotal.step.Goals as goal

pub returns-then-sum-geminus1-clause-wide : goal.returns-then-sum-geminus1-clause-wide
returns-then-sum-geminus1-clause-wide c =
    (λ e. cc, λ nofit. absurd (nofit (c.args.v +ℤ (pos c.cost.result -ℤ pos c.cost-2.result), omega (arith, ints), omega (arith, ints), omega (arith, ints))))
