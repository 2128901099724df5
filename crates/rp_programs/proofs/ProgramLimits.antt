-- The programs of bounds are within the limits of programs.
use Rattle.std.proofs.Common.{◌≡◌, ◌<◌, ◌≤◌, ◌+◌, ◌*◌, ℕ, zero, suc, ℤ, pos, neg_ℤ, ◌≤ℤ◌, All, Bool, true, false, List, length, cond, eqb, ltb, inl, inr, sym, subst, arith, slice_index}
use Rattle.std.proofs.lemmas.Bool.{cases_lt, le-ltb}
use Rattle.std.proofs.lemmas.Int.{ints}
use Rattle.std.proofs.lemmas.Nat.{mul-add-lt}
use Rattle.std.specs.Int.RustNames.{unsigned_abs}
use Rattle.rp_evidence.specs.DemandEvidence.{budget_of}
use Rattle.rp_evidence.specs.DemandPrograms.{demand_entry, demand_program, demand_worth}
use Rattle.rp_evidence.specs.Input.{input_of_table}
use Rattle.rp_evidence.specs.LeastCost.{least_cost_program}
use Rattle.rp_farkas.specs.Limits.{IsWithinLimits, largest_entry}
use Rattle.rp_table.specs.Limits.{IsExpenditure}
use Rattle.rp_table.specs.NewPrices.{AreNewPrices}
use Rattle.rp_table.specs.Tables.{IsTable, Observations, goods_of, price_of, records_of}
use Rattle.rp_limits.specs.declared.table.TheConstants.{RECORDS}
use Rattle.rp_programs.proofs.Spent.{spent_small}
use Rattle.rp_programs.specs.InnerRightSide.{right_side}
use Rattle.rp_programs.specs.declared.demand.Extreme.{Extreme}
use Rattle.rp_programs.specs.declared.demand.Extreme.TheVariants.{Least, Greatest}

-- ---- entries

abs_negated : (n k : ℕ) → n ≤ k → unsigned_abs (neg_ℤ (pos n)) ≤ k
abs_negated zero k l = l
abs_negated (suc n) k l = l

abs_either : (b : Bool) (x y : ℤ) (k : ℕ) → unsigned_abs x ≤ k → unsigned_abs y ≤ k → unsigned_abs (cond b x y) ≤ k
abs_either true x y k l m = l
abs_either false x y k l m = m

abs_past : (b : Bool) (x y : ℤ) (k : ℕ) → b ≡ false → unsigned_abs y ≤ k → unsigned_abs (cond b x y) ≤ k
abs_past b x y k e m = subst (λ c. unsigned_abs (cond c x y) ≤ k) (sym e) m

at_least_0 : (b : Bool) (n m : ℕ) → pos 0 ≤ℤ cond b (pos n) (pos m)
at_least_0 true n m = omega (arith, ints)
at_least_0 false n m = omega (arith, ints)

-- ---- prices

price_small : (table : Observations) → IsTable table → (t g : ℕ) → t < records_of table → g < goods_of table → price_of table t g ≤ largest_entry
price_small table valid t g t_in g_in =
    let h = (valid.price_limits (t * goods_of table + g) 0 (omega (arith, mul-add-lt t (goods_of table) g (records_of table) t_in g_in, valid.all_prices))).1 in
    omega arith

new_price_small : (goods : ℕ) (prices : List ℕ) → AreNewPrices goods prices → (g : ℕ) → g < goods → slice_index prices g ≤ largest_entry
new_price_small goods prices new g g_in = let h = (new.fit g 0 (omega (arith, new.one_each))).1 in omega arith

module _ (table : Observations) (valid : IsTable table)
    (prices : List ℕ) (new : AreNewPrices (goods_of table) prices)
    (listed : List ℕ) (observed : All (λ t. t < records_of table) listed) (few : length listed ≤ RECORDS) where
  -- ---- the least cost

  pub least_cost_within : IsWithinLimits (least_cost_program (input_of_table table) (slice_index prices) listed)
  least_cost_within = record {
    rows_at_most = omega (arith, valid.few_goods);
    cols_at_most = omega (arith, few);
    a_bounded = λ i j i_in j_in. price_small table valid (slice_index listed j) i (observed j 0 j_in) i_in;
    b_bounded = λ i i_in. new_price_small (goods_of table) prices new i i_in;
    c_bounded = λ j j_in. spent_small table valid (slice_index listed j) (observed j 0 j_in);
    b_not_negative = λ i i_in. omega (arith, ints);
  }

  -- ---- the programs of a good

  module _ (m : ℕ) (spends : IsExpenditure m) where
    a_small : (i j : ℕ) → i < goods_of table → unsigned_abs (demand_entry (input_of_table table) (budget_of prices m) listed i j) ≤ largest_entry
    a_small i j i_in = elim (cases_lt j (length listed)) [
      | inl l ↦ abs_either (ltb j (length listed)) _ _ largest_entry (price_small table valid (slice_index listed j) i (observed j 0 l) i_in) (rest i j i_in)
      | inr l ↦ abs_past (ltb j (length listed)) _ _ largest_entry (le-ltb j (length listed) l) (rest i j i_in)
    ]
      where
        rest : (i j : ℕ) → i < goods_of table → unsigned_abs (cond (eqb j (length listed)) (pos (slice_index prices i)) (neg_ℤ (pos (slice_index prices i)))) ≤ largest_entry
        rest i j i_in =
            let small = new_price_small (goods_of table) prices new i i_in in
            abs_either (eqb j (length listed)) _ _ largest_entry small (abs_negated (slice_index prices i) largest_entry small)

    c_small : (j : ℕ) → unsigned_abs (demand_worth (input_of_table table) (budget_of prices m) listed j) ≤ largest_entry
    c_small j = elim (cases_lt j (length listed)) [
      | inl l ↦ abs_either (ltb j (length listed)) _ _ largest_entry (spent_small table valid (slice_index listed j) (observed j 0 l)) rest
      | inr l ↦ abs_past (ltb j (length listed)) _ _ largest_entry (le-ltb j (length listed) l) rest
    ]
      where
        rest : unsigned_abs (cond (eqb j (length listed)) (pos m) (neg_ℤ (pos m))) ≤ largest_entry
        rest = abs_either (eqb j (length listed)) _ _ largest_entry (omega (arith, spends.1)) (abs_negated m largest_entry (omega (arith, spends.1)))

    with_right : (right : ℕ → ℤ) → ((i : ℕ) → i < goods_of table → unsigned_abs (right i) ≤ largest_entry) → ((i : ℕ) → i < goods_of table → pos 0 ≤ℤ right i)
        → IsWithinLimits (demand_program (input_of_table table) (budget_of prices m) listed right)
    with_right right small not_negative = record {
      rows_at_most = omega (arith, valid.few_goods);
      cols_at_most = omega (arith, few);
      a_bounded = λ i j i_in j_in. a_small i j i_in;
      b_bounded = small;
      c_bounded = λ j j_in. c_small j;
      b_not_negative = not_negative;
    }

    -- the right side of the least of a good, and of the greatest
    pub demand_within : (extreme : Extreme) (g : ℕ) → IsWithinLimits (demand_program (input_of_table table) (budget_of prices m) listed (right_side extreme (budget_of prices m) g))
    demand_within Least g =
        with_right _ (λ i i_in. abs_either (eqb i g) (pos 1) (pos 0) largest_entry (omega arith) (omega arith)) (λ i i_in. at_least_0 (eqb i g) 1 0)
    demand_within Greatest g =
        with_right _ (λ i i_in. abs_either (eqb i g) (pos 0) (pos (slice_index prices i)) largest_entry (omega arith) (new_price_small (goods_of table) prices new i i_in))
        (λ i i_in. at_least_0 (eqb i g) 0 (slice_index prices i))
