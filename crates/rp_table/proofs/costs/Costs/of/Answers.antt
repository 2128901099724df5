use Rattle.std.proofs.Common.{◌≡◌, ℕ, ◌+◌, ◌*◌, ◌/◌, ◌%◌, ◌<◌, ◌≤◌, ◌++◌, [], ◌∷◌, List, length, slice_index, ap, sym, subst, ◌^◌, inl, inr, ◌∙◌, arith, rules}
use Rattle.std.specs.List.{All}
use Rattle.std.proofs.Math.ListN.{get_or-append}
use Rattle.std.proofs.Math.Seq.{get_or-append_seam}
use Rattle.std.proofs.lemmas.Bool.{cases_lt}
use Rattle.std.proofs.lemmas.List.Elements.{All-push}
use Rattle.std.proofs.lemmas.Nat.{div-mul-add, mod-mul-add, mul-add-lt}
use Rattle.rp_table.specs.OwnLevels.{AreOwnLevels}
use Rattle.rp_table.specs.Tables.{Observations, records_of}
use Rattle.rp_table.specs.Cost.{cost_of, IsCostsOf}
use Rattle.rp_table.proofs.costs.Costs.of.Goals as goal

-- entries that are the costs place by place are the costs by prices and bundles
costs_by_place : (table : Observations) (entries levels : List ℕ) (n : ℕ) → n ≡ records_of table → levels ≡ table.levels → ((k : ℕ) → k < n * n → slice_index entries k ≡ cost_of table (k / n) (k % n)) → IsCostsOf (record { n = n; entries = entries; levels = levels }) table
costs_by_place table entries levels n count same each_place = record {
  size = count;
  levels = same;
  each = λ s t s_in t_in.
      let in_row : t < n = omega arith in
      let in_table : s * n + t < n * n = mul-add-lt s n t n (omega arith) in_row in
      rw (div-mul-add s n t in_row, mod-mul-add s n t in_row) at (each_place (s * n + t) in_table);
}

-- what is pushed last is the cost at its place
at_its_place : (table : Observations) (n s t cost : ℕ) → t < n → cost ≡ cost_of table s t → cost ≡ cost_of table ((s * n + t) / n) ((s * n + t) % n)
at_its_place table n s t cost in_row same = rw (div-mul-add s n t in_row, mod-mul-add s n t in_row) same

-- one entry more, which is that of its place
one_more : (f : ℕ → ℕ) (xs ys : List ℕ) (y n : ℕ) → ys ≡ xs ++ y ∷ [] → length xs ≡ n → ((k : ℕ) → k < n → slice_index xs k ≡ f k) → y ≡ f n → (k : ℕ) → k < n + 1 → slice_index ys k ≡ f k
one_more f xs ys y n pushed long each last k below = elim (cases_lt k n) [
  | inl before ↦ ap (λ zs. slice_index zs k) pushed ∙ (get_or-append xs (y ∷ []) 0 k (omega (arith, long, before)) ∙ each k before)
  | inr not_before ↦
      let at_end : k ≡ n = omega (arith, below, not_before) in
      ap (λ zs. slice_index zs k) pushed ∙ (ap (slice_index (xs ++ y ∷ [])) (at_end ∙ sym long) ∙ (get_or-append_seam xs y [] 0 ∙ (last ∙ ap f (sym at_end))))
]

pub loop-t-preserved : goal.loop-t-preserved
loop-t-preserved c =
    let here = at_its_place c.args.table.now c.n-n.result c.loop-s.s c.loop-t.t _ (search rules) c.cost_at_prices.ensures.exact in
    let long : length c.loop-t.entries.items ≡ c.loop-s.s * c.n-n.result + c.loop-t.t = sym c.loop-t.entries.ok.0 ∙ c.loop-t.invariant.so_far in
    record {
      so_far = omega (arith, c.in_ok-push.ensures.len, c.loop-t.invariant.so_far);
      exact = λ k below. one_more (λ k. cost_of c.args.table.now (k / c.n-n.result) (k % c.n-n.result)) _ _ _ _ c.in_ok-push.ensures.items long c.loop-t.invariant.exact here k (omega (arith, below));
      limits = subst (All (λ cost. (1 ≤ cost) × (cost < 2 ^ 51))) (sym c.in_ok-push.ensures.items) (All-push (λ cost. (1 ≤ cost) × (cost < 2 ^ 51)) _ _ c.loop-t.invariant.limits (c.cost_at_prices.ensures.positive, c.cost_at_prices.ensures.below));
    }

-- as many places as rows times their length
all_places : (n s : ℕ) → n ≤ s → s ≤ n → s * n ≡ n * n
all_places n s low high = ap (λ k. k * n) (omega (arith, low, high))

-- levels that are the table's are its observations' own
levels_same : (made levels : List ℕ) (m n : ℕ) → made ≡ levels → m ≡ n → AreOwnLevels n levels → AreOwnLevels m made
levels_same made levels m n same count levels_are = rw (same, count) levels_are

pub invariant_of-result : goal.invariant_of-result
invariant_of-result c =
    let whole = all_places c.n-n.result c.loop-s.s (search rules) (search rules) in
    record {
      some = search rules;
      few = search rules;
      all = sym c.loop-s.entries.ok.0 ∙ (c.loop-s.invariant.so_far ∙ whole);
      limits = c.loop-s.invariant.limits;
      own_levels = levels_same _ _ _ _ (c.in_ok-levels.ensures.items ∙ c.levels.ensures.same) c.n-n.ensures.count c.n-n.ensures.valid.own_levels;
    }

pub returns : goal.returns
returns c = costs_by_place c.args.table.now c.loop-s.entries.items c.in_ok-levels.levels.items c.n-n.result c.n-n.ensures.count (search rules) (λ k below. c.loop-s.invariant.exact k (search rules))
