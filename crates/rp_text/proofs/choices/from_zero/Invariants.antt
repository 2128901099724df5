use Rattle.std.proofs.Common.{◌≡◌, ◌-◌, map, take}
use Rattle.rp_text.proofs.choices.from_zero.Given as goal

abbrev pub invariant-loop-number : goal.invariant-loop-number
invariant-loop-number l = l.budget.items ≡ map (λ number. number - 1) (take l.number-index l.numbers)
