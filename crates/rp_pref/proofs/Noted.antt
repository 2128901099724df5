-- Steps are noted as bits, and what the rounds make of them is the closure.
use Rattle.std.proofs.Common.{◌≡◌, ◌≢◌, ℕ, ◌+◌, ◌*◌, ◌-◌, ◌/◌, ◌%◌, ◌^◌, ◌<◌, ◌≤◌, ◌↔◌, ◌||◌, Bool, true, false, not, cond, eqb, IsTrue, length, replicate, count_by, bit_or, inl, inr, refl, sym, ap, ◌∙◌, subst, arith, mod-lt, shl_exact}
use mir.Val.{bool_byte}
use Rattle.std.specs.Int.{bit_at}
use Rattle.std.specs.List.{range_with_len}
use Rattle.std.proofs.lemmas.Bool.{cases_eq, cases_lt, false_from_ne_true}
use Rattle.std.proofs.lemmas.Nat.Bits.{bit_at-zero, bit_at-pow_same, bit_at-pow_other}
use Rattle.std.proofs.lemmas.List.{length-replicate}
use Rattle.rp_evidence.specs.Walk.{Reaches}
use Rattle.rp_grid.specs.Rows.{Rows, row_of, filled}
use Rattle.rp_evidence.specs.Bits.{bit_in}
use Rattle.rp_evidence.specs.Through.{ReachesThrough}
use Rattle.rp_evidence.proofs.BitLemmas.{bit_of_or, or_false}
use Rattle.rp_evidence.proofs.Rounds.{HasClosed, closed_all}
use Rattle.rp_evidence.proofs.Throughs.{through_ends_below}
use Rattle.rp_pref.specs.InnerBits.{bit_of, has_bit, HoldsBits, IsWordOf}
use Rattle.rp_pref.specs.Closure.{IsClosureOf, IsCountIn, reached_by, reaches_in}
use Rattle.rp_pref.proofs.ClosureLemmas.{counted, equals_or_reaches_in}
use Rattle.rp_evidence.proofs.Tabulated.{reaches_in_by}
use Rattle.rp_pref.proofs.BitCounts.{none_after, counted_with}

-- ---- one word of steps

no_bit : (t : ℕ) → eqb (bit_at 0 (t % 64)) 1 ≡ false
no_bit t = ap (λ v. eqb v 1) (bit_at-zero (t % 64))

-- the word with this bit alone, or with none
shifted : (b : Bool) (j : ℕ) → j < 64 → bool_byte b * 2 ^ j % 18446744073709551616 ≡ cond b (2 ^ j) 0
shifted true j l = shl_exact {a = 1} 1 j 64 (omega arith) (omega arith) ∙ one_times (2 ^ j)
  where
    one_times : (a : ℕ) → 1 * a ≡ a
    one_times a = omega arith
shifted false j l = ap (λ x. x % 18446744073709551616) (none_times (2 ^ j))
  where
    none_times : (a : ℕ) → 0 * a ≡ 0
    none_times a = omega arith

same_bit : (b : Bool) (j : ℕ) → eqb (bit_at (cond b (2 ^ j) 0) j) 1 ≡ b
same_bit true j = ap (λ v. eqb v 1) (bit_at-pow_same j)
same_bit false j = ap (λ v. eqb v 1) (bit_at-zero j)

other_bit : (b : Bool) (j i : ℕ) → i ≢ j → eqb (bit_at (cond b (2 ^ j) 0) i) 1 ≡ false
other_bit true j i apart = ap (λ v. eqb v 1) (bit_at-pow_other j i apart)
other_bit false j i apart = ap (λ v. eqb v 1) (bit_at-zero i)

pub word_noted : (place end word byte : ℕ) (is_step : Bool) (step : ℕ → Type 0) → end / 64 ≡ place → IsWordOf place end step word → IsTrue is_step ↔ step end → byte ≡ bool_byte is_step
    → IsWordOf place (end + 1) step (bit_or word (byte * 2 ^ (end % 64) % 18446744073709551616))
word_noted place end word byte is_step step here so_far tested of_step t same =
    let j = end % 64 in
    let x = cond is_step (2 ^ j) 0 in
    let shift : byte * 2 ^ j % 18446744073709551616 ≡ x = ap (λ b. b * 2 ^ j % 18446744073709551616) of_step ∙ shifted is_step j (mod-lt end (omega arith)) in
    let now : bit_of (bit_or word (byte * 2 ^ j % 18446744073709551616)) t ≡ (bit_of word t || eqb (bit_at x (t % 64)) 1) = ap (λ v. bit_of (bit_or word v) t) shift ∙ bit_of_or word x (t % 64) in
    elim (cases_eq t end) [
      | inl e ↦
          let none : bit_of word t ≡ false = false_from_ne_true (bit_of word t) (λ h. let l = ((so_far t same).0 h).0 in omega (arith, l, e)) in
          let is : bit_of (bit_or word (byte * 2 ^ j % 18446744073709551616)) t ≡ is_step = now ∙ (λ i. none i || eqb (bit_at x (e i % 64)) 1) ∙ same_bit is_step j in
          (λ h. (omega (arith, e), subst step (sym e) (tested.0 (sym is ∙ h))), λ p. is ∙ tested.1 (subst step e p.1))
      | inr apart ↦
          let other : t % 64 ≢ j = λ m. apart (omega (arith, same, here, m)) in
          let is : bit_of (bit_or word (byte * 2 ^ j % 18446744073709551616)) t ≡ bit_of word t = now ∙ ap (λ b. bit_of word t || b) (other_bit is_step j (t % 64) other) ∙ or_false (bit_of word t) in (
            λ h. let p = (so_far t same).0 (sym is ∙ h) in let l = p.0 in (omega (arith, l), p.1),
            λ p. let l = p.0 in is ∙ (so_far t same).1 (elim (cases_lt t end) [ inl less ↦ less | inr more ↦ absurd (apart (omega (arith, l, more))) ], p.1),
          )
    ]

-- ---- one row of steps

-- Of row s the bits of the first words are set where there is a step to one of n observations.
pub record HasNoted (old now : Rows ℕ) (s words n : ℕ) (step : ℕ → Type 0) : Type 0 where
  pub count : length now.rows ≡ length old.rows
  pub cols : now.cols ≡ old.cols
  pub row : (t : ℕ) → IsTrue (has_bit now s t) ↔ ((t < words * 64) × (t < n) × step t)
  pub others : (a t : ℕ) → (a ≡ s → ⊥) → has_bit now a t ≡ has_bit old a t

-- ---- all rows of steps

pub record HasNotedRows (old now : Rows ℕ) (n end : ℕ) (step : ℕ → ℕ → Type 0) : Type 0 where
  pub count : length now.rows ≡ length old.rows
  pub cols : now.cols ≡ old.cols
  pub rows : (s t : ℕ) → s < end → IsTrue (has_bit now s t) ↔ ((t < n) × step s t)
  pub left : (s t : ℕ) → end ≤ s → has_bit now s t ≡ false

-- ---- a new grid has no bit

-- ---- the closure

module _ (n : ℕ) (first last : Rows ℕ) (step : ℕ → ℕ → Type 0)
    (noted : (s t : ℕ) → s < n → IsTrue (has_bit first s t) ↔ ((t < n) × step s t))
    (closed : HasClosed n (has_bit first) (has_bit last) n) where
  pub ends_below : (s t : ℕ) → s < n → IsTrue (has_bit last s t) → t < n
  ends_below s t l h = through_ends_below n (λ a b. IsTrue (has_bit first a b)) (λ a b c d. ((noted a b c).0 d).0) n s t (omega arith) l ((closed s t l).0 h)

  reached : (s t : ℕ) → s < n → t < n → IsTrue (has_bit last s t) ↔ Reaches n step s t
  reached = closed_all n step (has_bit first) (has_bit last) (λ s t a b. ((λ h. ((noted s t a).0 h).1), (λ h. (noted s t a).1 (b, h)))) closed

  pub closure_by_bits : IsClosureOf (reached_by n (has_bit last)) n step
  closure_by_bits = record {
    size = refl;
    exact = λ s t a b. subst (λ x. IsTrue x ↔ Reaches n step s t) (sym (reaches_in_by n (has_bit last) s t a b)) (reached s t a b);
  }

-- From a grid without bits, by the steps, to the closure.
pub made_closure : (n m words : ℕ) (start first last : Rows ℕ) (step : ℕ → ℕ → Type 0) → n ≡ m → n ≤ words * 64 → words ≤ 1024 → start ≡ filled n words 0
    → length first.rows ≡ length start.rows → first.cols ≡ start.cols → length last.rows ≡ length first.rows → last.cols ≡ first.cols
    → ((s t : ℕ) → s < m → IsTrue (has_bit first s t) ↔ ((t < m) × step s t))
    → ((s t : ℕ) → s < length first.rows → IsTrue (has_bit last s t) ↔ ReachesThrough (length first.rows) (λ a b. IsTrue (has_bit first a b)) s t)
    → HoldsBits n last × IsClosureOf (reached_by n (has_bit last)) m step
made_closure n m words start first last step size enough small new count_first cols_first count_last cols_last noted closed =
    let rows : length first.rows ≡ n = count_first ∙ ap (λ g. length g.rows) new ∙ length-replicate n (replicate words 0) in
    let cols : last.cols ≡ words = cols_last ∙ cols_first ∙ ap (λ g. g.cols) new in
    let steps = subst (λ k. (s t : ℕ) → s < k → IsTrue (has_bit first s t) ↔ ((t < k) × step s t)) (sym size) noted in
    let walks = subst (λ k. (s t : ℕ) → s < k → IsTrue (has_bit last s t) ↔ ReachesThrough k (λ a b. IsTrue (has_bit first a b)) s t) rows closed in (
      record {
        rows = count_last ∙ rows;
        enough = omega (arith, enough, cols);
        small = omega (arith, small, cols);
        none_past = ends_below n first last step steps walks;
      },
      subst (λ k. IsClosureOf (reached_by n (has_bit last)) k step) size (closure_by_bits n first last step steps walks),
    )

-- ---- its counts

unset : (b : Bool) → ◌≡◌ {A = ℕ} (bool_byte (not b)) (cond b 0 1)
unset true = refl
unset false = refl

pub byte_below : (b : Bool) → bool_byte b ≤ 1
byte_below true = omega arith
byte_below false = omega arith

pub counted_by_bits : (n : ℕ) (bits : Rows ℕ) (holds : HoldsBits n bits) (s k total : ℕ) → s < n → length (row_of bits s) ≡ bits.cols
    → total ≡ count_by (bit_in (row_of bits s)) (range_with_len 0 (length (row_of bits s) * 64)) → k ≡ total + bool_byte (not (has_bit bits s s))
    → IsCountIn (reached_by n (has_bit bits)) s k
counted_by_bits n bits holds s k total below long all is =
    let p = has_bit bits s in let reached = reached_by n (has_bit bits) in let end = bits.cols * 64 in
    let past : (t : ℕ) → n ≤ t → p t ≡ false = λ t l. false_from_ne_true (p t) (λ h. omega (arith, l, holds.none_past s t below h)) in
    let some : total ≡ count_by p (range_with_len 0 n) =
    all ∙ ap (λ m. count_by p (range_with_len 0 (m * 64))) long
    ∙ ap (λ m. count_by p (range_with_len 0 m)) (let e : end ≡ n + (end - n) = omega (arith, holds.enough) in e) ∙ none_after p n (end - n) past in
    let with_itself : count_by (equals_or_reaches_in reached s) (range_with_len 0 n) ≡ count_by p (range_with_len 0 n) + cond (p s) 0 1 =
    counted_with p (reaches_in reached s) n s (λ t l. reaches_in_by n (has_bit bits) s t below l) below in
    subst (IsCountIn reached s) (with_itself ∙ ap (λ m. m + cond (p s) 0 1) (sym some) ∙ ap (λ m. total + m) (sym (unset (p s))) ∙ sym is) (counted reached s)
