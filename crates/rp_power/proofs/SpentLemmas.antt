-- What drawn bundles cost, and what is violated by it.
use Rattle.std.proofs.Common.{◌≡◌, ◌↔◌, ℕ, ◌+◌, ◌*◌, List, [], ◌∷◌, ◌++◌, ap, sym, ◌∙◌, get_or, length, append_assoc, subst, Bool, true, false, IsFalse, IsTrue, refl}
use Rattle.std.proofs.Math.Bool.{not}
use Rattle.std.proofs.lemmas.Bool.{false≢true}
use Rattle.std.specs.List.{All}
use Rattle.rp_evidence.specs.Preference.{AgreeBelow, IsStrict, IsWeak}
use Rattle.rp_evidence.proofs.SameCosts.{agree_back, violation_same}
use Rattle.rp_evidence.specs.Garp.{HasSomeViolation}
use Rattle.rp_num.specs.Below.{listed, rows_below}
use Rattle.rp_num.proofs.BelowLemmas.{listed-more}
use Rattle.rp_num.proofs.RowsBelow.{length-rows, row_number}
use Rattle.rp_table.specs.Cost.{cost_of}
use Rattle.rp_table.specs.Limits.{IsQuantity}
use Rattle.rp_table.specs.Tables.{IsTable, Observations, goods_of, records_of}
use Rattle.rp_power.specs.DrawnTable.{drawn_quantity, drawn_table}
use Rattle.rp_power.specs.PowerCount.{FailsAxiom, words_of}
use Rattle.rp_power.specs.InnerSpent.{cost_among, cost_in}
use Rattle.rp_power.proofs.DrawnLemmas.{drawn_is_table}

pub both : {A B C : Type 0} → A ↔ B → B ↔ C → A ↔ C
both one other = (λ a. other.0 (one.0 a), λ c. one.1 (other.1 c))

-- a test of whether costs violate the axiom nowhere
pub fails_where_told : (m n : ℕ) (costs : List ℕ) (holds : Bool) → m ≡ n → IsFalse holds ↔ HasSomeViolation m (IsWeak (cost_in m costs)) (IsStrict (cost_in m costs))
    → IsTrue (not holds) ↔ HasSomeViolation n (IsWeak (cost_in n costs)) (IsStrict (cost_in n costs))
fails_where_told m n costs true same told =
    (λ h. absurd (false≢true h), λ some. absurd (false≢true (sym (told.1 (subst (λ k. HasSomeViolation k (IsWeak (cost_in k costs)) (IsStrict (cost_in k costs))) (sym same) some)))))
fails_where_told m n costs false same told =
    (λ h. subst (λ k. HasSomeViolation k (IsWeak (cost_in k costs)) (IsStrict (cost_in k costs))) same (told.0 refl), λ some. refl)

-- one more of the listed numbers after others
pub appended_more : (f : ℕ → ℕ) (n x : ℕ) (old here more : List ℕ) → here ≡ old ++ listed n f → x ≡ f n → more ≡ here ++ x ∷ [] → more ≡ old ++ listed (n + 1) f
appended_more f n x old here more so is pushed =
    pushed ∙ ap (λ (l : List ℕ). l ++ x ∷ []) so ∙ append_assoc old (listed n f) (x ∷ [])
    ∙ ap (λ (l : List ℕ). old ++ l) (listed-more f n x (listed n f) (λ i. listed n f) is)

-- costs that agree violate the same
same_violations : (n : ℕ) (c d : ℕ → ℕ → ℕ) → AgreeBelow n c d → HasSomeViolation n (IsWeak c) (IsStrict c) ↔ HasSomeViolation n (IsWeak d) (IsStrict d)
same_violations n c d agree = (λ v. (v.0, violation_same n c d 1 1 agree v.0 v.1), λ v. (v.0, violation_same n d c 1 1 (agree_back n c d agree) v.0 v.1))

module _ (table : Observations) (words quantities : List ℕ) (drawn : quantities ≡ rows_below (records_of table) (goods_of table) (drawn_quantity table words)) where
  pub quantities_count : length quantities ≡ words_of table
  quantities_count = ap length drawn ∙ length-rows (records_of table) (goods_of table) (drawn_quantity table words)

  pub quantities_within : IsTable table → All IsQuantity quantities
  quantities_within is = subst (All IsQuantity) (sym drawn) (drawn_is_table table words is).quantity_limits

module _ (table : Observations) (words quantities : List ℕ) (drawn : quantities ≡ rows_below (records_of table) (goods_of table) (drawn_quantity table words)) where
  costs_drawn : AgreeBelow (records_of table) (cost_among table quantities) (cost_of (drawn_table table words))
  costs_drawn s t s_in t_in = ap (λ (q : List ℕ). cost_among table q s t) drawn

  -- what the quantities violate, the drawn table does
  pub some_drawn : HasSomeViolation (records_of table) (IsWeak (cost_among table quantities)) (IsStrict (cost_among table quantities)) ↔ FailsAxiom (drawn_table table words)
  some_drawn = same_violations (records_of table) (cost_among table quantities) (cost_of (drawn_table table words)) costs_drawn

module _ (table : Observations) (quantities costs : List ℕ) (priced : costs ≡ rows_below (records_of table) (records_of table) (cost_among table quantities)) where
  costs_listed : AgreeBelow (records_of table) (cost_in (records_of table) costs) (cost_among table quantities)
  costs_listed s t s_in t_in =
      let n = records_of table in
      ap (λ (l : List ℕ). get_or l (s * n + t) 0) priced ∙ row_number n n (cost_among table quantities) s t s_in t_in

  -- what the listed costs violate, the quantities do
  pub some_listed : HasSomeViolation (records_of table) (IsWeak (cost_in (records_of table) costs)) (IsStrict (cost_in (records_of table) costs))
      ↔ HasSomeViolation (records_of table) (IsWeak (cost_among table quantities)) (IsStrict (cost_among table quantities))
  some_listed = same_violations (records_of table) (cost_in (records_of table) costs) (cost_among table quantities) costs_listed

  pub costs_count : length costs ≡ records_of table * records_of table
  costs_count = ap length priced ∙ length-rows (records_of table) (records_of table) (cost_among table quantities)
