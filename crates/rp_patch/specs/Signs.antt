-- The patch of a choice: its budget, and on which side of each budget the bundle lies when it is scaled to cost the
-- whole income of its own (after Kitamura and Stoye 2018, section 3).
use Rattle.std.specs.Prelude.{ℕ, ◌*◌, ℤ, pos, negsuc, List, map}
use Rattle.std.specs.List.{range_with_len}
use Rattle.std.specs.Ordering.{nat_cmp}
use Rattle.std.specs.declared.cmp.Ordering.{Ordering}
use Rattle.std.specs.declared.cmp.Ordering.TheVariants.{Less, Equal, Greater}
use Rattle.rp_table.specs.Spending.{spending}
use Rattle.rp_patch.specs.Choices.{RandomInput}

-- What choice i costs at the prices of budget k.
abbrev pub cost_on : RandomInput → ℕ → ℕ → ℕ
cost_on input k i = spending input.goods (input.price k) (input.quantity i)

-- 1 for greater, 0 for equal, -1 for less.
abbrev pub sign_of : Ordering → ℤ
sign_of Less = negsuc 0
sign_of Equal = pos 0
sign_of Greater = pos 1

-- What sign w_j (p_k x) - w_k (p_j x) has for the bundle x of choice i and its budget j: 1 where the bundle, scaled to
-- cost the income of j, costs more than the income of k, -1 where it costs less, and 0 where it costs just that.
abbrev pub sign_to : RandomInput → ℕ → ℕ → ℤ
sign_to input i k =
    sign_of (nat_cmp (input.income (input.budget i) * cost_on input k i)
    (input.income k * cost_on input (input.budget i) i))

-- The signs of choice i to all budgets, in order.
abbrev pub signs_of : RandomInput → ℕ → List ℤ
signs_of input i = map (sign_to input i) (range_with_len 0 input.budgets)
