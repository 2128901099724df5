-- The first ratio with a closed walk of weak steps is the index: first among one ratio of each observation, and then
-- among all between the two that it lies between.
use Rattle.std.proofs.Common.{◌≡◌, ◌<◌, ◌≤◌, ◌*◌, ℕ, List, [], ◌∷◌, length, get_or, inl, inr, refl, sym, ap, subst, ◌∙◌, arith}
use Rattle.std.proofs.Math.Nat.{mul-le-mul_left, mul-lt-mul_of_pos_left, lt_of_mul-lt-mul_left}
use Rattle.std.proofs.lemmas.Bool.{cases_lt, cases_order}
use Rattle.std.proofs.lemmas.List.{get_or_default}
use Rattle.std.specs.List.{Any}
use Rattle.rp_num.specs.Fraction.{IsLowestTerms}
use Rattle.rp_evidence.specs.Efficiency.{IsEfficiencyIndex, IsRatio}
use Rattle.rp_evidence.specs.Walk.{LeadsTo}
use Rattle.rp_evidence.specs.Preference.{IsWeakAt}
use Rattle.rp_evidence.proofs.Index.{NoLowerCycle, closed_rises, index_by_cycle, index_same}
use Rattle.rp_evidence.proofs.Walks.{rest_of_reach, starts_below}
use Rattle.rp_table.specs.Cost.{CostTable, IsCostTable, cost_at}
use Rattle.rp_table.proofs.CostLimits.{cost_positive}
use Rattle.rp_effic.specs.InnerBracket.{AreBetween, IsBracket}
use Rattle.rp_effic.specs.InnerCycles.{HasCycle, HasCycleFrom}
use Rattle.rp_effic.specs.Monotone.{IsFirstTrue}
use Rattle.rp_pref.proofs.LevelOrder.{level_den}
use Rattle.rp_effic.specs.InnerRatios.{HasOne, Rise}
use Rattle.rp_effic.specs.declared.bracket.Bracket.{Bracket}
use Rattle.rp_effic.specs.declared.ratio.Ratio.{Ratio}

-- there is no closed walk of weak steps at 0
pub none_at_zero : (costs : CostTable) → IsCostTable costs → ¬ HasCycle costs.n (cost_at costs) 0 1
none_at_zero costs valid h =
    let k = rest_of_reach costs.n (IsWeakAt (cost_at costs) 0 1) h.1.0 h.1.0 (h.0, h.1.1, h.1.2) in
    go h.1.0 h.1.0 k.0 k.1 k.2
  where
    go : (s t x : ℕ) (w : List ℕ) → LeadsTo costs.n (IsWeakAt (cost_at costs) 0 1) s t (x ∷ w) → ⊥
    go s t x w l =
        let positive = cost_positive costs valid s x l.0 (starts_below costs.n (IsWeakAt (cost_at costs) 0 1) x t w l.2) in
        absurd (omega (arith, positive, l.1))

module _ (costs : CostTable) (valid : IsCostTable costs) (ratios : List Ratio) (place : ℕ) (first : IsFirstTrue (length ratios) (HasCycleFrom costs ratios) place) where
  -- a ratio with a cycle stands at the place or after it
  not_before : (k : ℕ) (r : Ratio) → k < length ratios → get_or ratios k r ≡ r → HasCycle costs.n (cost_at costs) r.num r.den → place ≤ k
  not_before k r within there cycle = elim (cases_lt k place) [
    | inl earlier ↦ absurd (first.none_before k earlier
        (λ d. subst (λ (x : Ratio). HasCycle costs.n (cost_at costs) x.num x.den) (sym (get_or_default ratios k d r within ∙ there)) cycle))
    | inr later ↦ later
  ]

  -- so the place is not past the end
  within_by : Any (λ (r : Ratio). HasCycle costs.n (cost_at costs) r.num r.den) ratios → place < length ratios
  within_by a = let later = not_before a.0 a.1 a.2 a.3 a.4 in omega (arith, a.2)

  -- at 1 each observation makes a cycle with itself
  pub place_by_one : HasOne ratios → place < length ratios
  place_by_one a =
      within_by (a.0, a.1, a.2, a.3, (0 ∷ 0 ∷ [], (0, (refl, (omega (arith, valid.some), rw a.4 (omega arith), (omega (arith, valid.some), refl))), omega arith)))

  pub cycle_there : place < length ratios → (r : Ratio) → get_or ratios place r ≡ r → HasCycle costs.n (cost_at costs) r.num r.den
  cycle_there within r there = subst (λ (x : Ratio). HasCycle costs.n (cost_at costs) x.num x.den) there (first.holds_there within r)

  -- and at the ratio before there is none
  pub none_before_place : (k : ℕ) (r : Ratio) → k < place → place < length ratios → get_or ratios k r ≡ r → ¬ HasCycle costs.n (cost_at costs) r.num r.den
  none_before_place k r before within there cycle = let later = not_before k r (omega arith) there cycle in absurd (omega arith)

  -- ---- among all ratios of a bracket

  module _ (rise : Rise ratios) (bracket : Bracket) (is : IsBracket costs.n (cost_at costs) bracket) (are : AreBetween costs.n (cost_at costs) bracket ratios) where
    cycle_of_high : (r : Ratio) → (r.num ≡ bracket.high.num) × (r.den ≡ bracket.high.den) → HasCycle costs.n (cost_at costs) r.num r.den
    cycle_of_high r e = rw (e.0, e.1) is.some_at_high

    pub place_within : place < length ratios
    place_within = within_by (are.highest.0, are.highest.1, are.highest.2, are.highest.3, cycle_of_high are.highest.1 are.highest.4)

    -- the ratio there is at most one that has a cycle
    at_most : (r : Ratio) → ((d : Ratio) → get_or ratios place d ≡ r) → (k : ℕ) (y : Ratio) → k < length ratios → get_or ratios k y ≡ y → HasCycle costs.n (cost_at costs) y.num y.den → r.num * y.den ≤ y.num * r.den
    at_most r there k y within here cycle = elim (cases_order place k) [
      | inl same ↦
          let e : y ≡ r = sym here ∙ sym (ap (λ p. get_or ratios p y) same) ∙ there y in
          subst (λ (x : Ratio). r.num * x.den ≤ x.num * r.den) (sym e) (omega arith)
      | inr (inl before) ↦ rw (there y, here) at (rise place k y before within)
      | inr (inr behind) ↦ let later = not_before k y within here cycle in absurd (omega arith)
    ]

    none_lower : (r : Ratio) → ((d : Ratio) → get_or ratios place d ≡ r) → NoLowerCycle costs.n (cost_at costs) r.num r.den
    none_lower r there u v u_in v_in less walk closed = elim (cases_lt (bracket.low.num * cost_at costs u u) (cost_at costs u v * bracket.low.den)) [
      | inl above ↦ are.complete u v u_in v_in (above, below) missing
      | inr under ↦ is.none_at_low (walk, closed_rises costs.n (cost_at costs u v) (cost_at costs u u) bracket.low.num bracket.low.den (cost_at costs) walk spent under closed)
    ]
      where
        c : ℕ → ℕ → ℕ
        c = cost_at costs

        spent : 0 < cost_at costs u u
        spent = cost_positive costs valid u u u_in u_in

        below : cost_at costs u v * bracket.high.den < bracket.high.num * cost_at costs u u
        below =
            let h = are.highest in
            let most = at_most r there h.0 h.1 h.2 h.3 (cycle_of_high h.1 h.4) in
            less_than_most (cost_at costs u v) (cost_at costs u u) r.num r.den h.1.num h.1.den bracket.high.num bracket.high.den (level_den r.num r.den r.level) (level_den bracket.high.num bracket.high.den bracket.high.level) less most h.4.0 h.4.1
          where
            less_than_most : (a b p q x y hn hd : ℕ) → 0 < q → 0 < hd → a * q < p * b → p * y ≤ x * q → x ≡ hn → y ≡ hd → a * hd < hn * b
            less_than_most a b p q x y hn hd q_pos hd_pos l m e f =
                let k : hd * (a * q) < hd * (p * b) = mul-lt-mul_of_pos_left l hd_pos in
                let j : b * (p * hd) ≤ b * (hn * q) = mul-le-mul_left b (rw (sym e, sym f) m) in
                lt_of_mul-lt-mul_left q (omega arith)

        missing : ¬ Any (λ (y : Ratio). IsRatio (cost_at costs) y.num y.den u v) ratios
        missing a =
            let most = at_most r there a.0 a.1 a.2 a.3 (walk, closed_rises costs.n (cost_at costs u v) (cost_at costs u u) a.1.num a.1.den (cost_at costs) walk spent (omega (arith, a.4)) closed) in
            apart a.1 a.4 most
          where
            apart : (y : Ratio) → IsRatio (cost_at costs) y.num y.den u v → r.num * y.den ≤ y.num * r.den → ⊥
            apart y e l =
                let k : cost_at costs u u * (r.num * y.den) ≤ cost_at costs u u * (y.num * r.den) = mul-le-mul_left (cost_at costs u u) l in
                let j : y.den * (cost_at costs u v * r.den) < y.den * (r.num * cost_at costs u u) = mul-lt-mul_of_pos_left less (level_den y.num y.den y.level) in
                let i : r.den * (y.den * cost_at costs u v) ≡ r.den * (y.num * cost_at costs u u) = ap (λ x. r.den * x) e in
                absurd (omega arith)

    index_there : (r : Ratio) → ((d : Ratio) → get_or ratios place d ≡ r) → IsEfficiencyIndex costs.n (cost_at costs) r.num r.den
    index_there r there =
        let cycle = cycle_there place_within r (there r) in
        index_by_cycle costs.n (cost_at costs) (λ s s_in. cost_positive costs valid s s s_in s_in) r.num r.den cycle.0 r.level cycle.1 (none_lower r there)

    pub index_at_place : (r : Ratio) (num den : ℕ) → get_or ratios place r ≡ r → IsLowestTerms r.num r.den (record { num = num; den = den }) → IsEfficiencyIndex costs.n (cost_at costs) num den
    index_at_place r num den there lowest =
        index_same costs.n r.num r.den num den (cost_at costs) lowest.positive lowest.same_number
        (index_there r (λ d. get_or_default ratios place d r place_within ∙ there))
