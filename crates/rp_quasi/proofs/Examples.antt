-- The definitions at worked tables: one whose only negative closed walks have three steps, and one whose
-- closed walk of two steps has the sum 0.
use Rattle.std.proofs.Common.{◌≡◌, ℕ, ◌+◌, ◌*◌, [], ◌∷◌, get_or, refl, arith, lit<}
use Rattle.std.proofs.lemmas.Int.{ints}
use Rattle.std.specs.Prelude.{pos, negsuc}
use Rattle.rp_walk.specs.Walk.{total_after}
use Rattle.rp_evidence.specs.Quasilinear.{step_sum, walk_sum, IsNegativeCycle}
use Rattle.rp_walk.specs.Sums.{sums, whole_total}

three_goods : ℕ → ℕ → ℕ
three_goods s t = get_or (2 ∷ 1 ∷ 3 ∷ 3 ∷ 2 ∷ 1 ∷ 1 ∷ 3 ∷ 2 ∷ []) (s * 3 + t) 0

same_prices : ℕ → ℕ → ℕ
same_prices s t = get_or (8 ∷ 4 ∷ 8 ∷ 4 ∷ []) (s * 2 + t) 0

round_of_three : walk_sum three_goods (0 ∷ 1 ∷ 2 ∷ 0 ∷ []) ≡ negsuc 2
unfolding three_goods
round_of_three = refl

rounds_of_two : walk_sum three_goods (0 ∷ 1 ∷ 0 ∷ []) ≡ pos 0
unfolding three_goods
rounds_of_two = refl

round_of_nothing : walk_sum same_prices (0 ∷ 1 ∷ 0 ∷ []) ≡ pos 0
unfolding same_prices
round_of_nothing = refl

a_cycle : IsNegativeCycle 3 three_goods (0 ∷ 1 ∷ 2 ∷ 0 ∷ [])
unfolding three_goods
a_cycle = record {
  closed = (0, (refl, (lit< tt, tt, (lit< tt, tt, (lit< tt, tt, (lit< tt, refl))))), lit< tt);
  negative = omega (arith, ints);
}

total_of_the_round : (total_after (sums 3 (step_sum three_goods)) (whole_total (pos 0)) 0 (1 ∷ 2 ∷ 0 ∷ [])).num ≡ negsuc 2
unfolding three_goods
total_of_the_round = refl
