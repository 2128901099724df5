-- Rows of a grid of bits take in others, round by round. The records say how far a loop has come.
use Rattle.std.proofs.Common.{◌≡◌, ◌≢◌, ℕ, ◌+◌, ◌/◌, ◌%◌, ◌<◌, ◌≤◌, ◌||◌, true, false, eqb, List, [], length, get_or, bit_or, inl, inr, sym, ap, ◌∙◌, arith}
use Rattle.std.specs.Int.{bit_at}
use Rattle.std.proofs.lemmas.Bool.{cases_lt}
use Rattle.std.proofs.lemmas.List.{get_or_past}
use Rattle.rp_grid.specs.Rows.{Rows, row_of, AreEqual}
use Rattle.rp_evidence.specs.Bits.{bit_in}
use Rattle.rp_evidence.proofs.BitLemmas.{bit_of_or}
use Rattle.rp_evidence.proofs.Rounds.{HasClosed, HasGone, itself_gone, reached_gone, unreached_gone}
use Rattle.rp_pref.specs.InnerBits.{has_bit}

-- ---- one row takes in another

-- Row s has taken in the first w words of row k.
pub record IsTakenIn (old now : Rows ℕ) (s k w : ℕ) : Type 0 where
  pub count : length now.rows ≡ length old.rows
  pub cols : now.cols ≡ old.cols
  pub equal : AreEqual now
  pub others : (a : ℕ) → a ≢ s → row_of now a ≡ row_of old a
  pub done : (v : ℕ) → v < w → get_or (row_of now s) v 0 ≡ bit_or (get_or (row_of old s) v 0) (get_or (row_of old k) v 0)
  pub left : (v : ℕ) → w ≤ v → get_or (row_of now s) v 0 ≡ get_or (row_of old s) v 0

module _ (old now : Rows ℕ) (s k w : ℕ) (into : s < length old.rows) (from : k < length old.rows) (equal : AreEqual old) (taken : IsTakenIn old now s k w) (all : old.cols ≤ w) where
  words : (v : ℕ) → get_or (row_of now s) v 0 ≡ bit_or (get_or (row_of old s) v 0) (get_or (row_of old k) v 0)
  words v = elim (cases_lt v w) [
    | inl l ↦ taken.done v l
    | inr l ↦
        let long_s : length (row_of old s) ≤ v = omega (arith, equal s into) in
        let long_k : length (row_of old k) ≤ v = omega (arith, equal k from) in
        taken.left v l ∙ get_or_past (row_of old s) v 0 long_s ∙ sym (λ i. bit_or (get_or_past (row_of old s) v 0 long_s i) (get_or_past (row_of old k) v 0 long_k i))
  ]

  pub row_taken : (t : ℕ) → has_bit now s t ≡ (has_bit old s t || has_bit old k t)
  row_taken t = ap (λ v. eqb (bit_at v (t % 64)) 1) (words (t / 64)) ∙ bit_of_or (get_or (row_of old s) (t / 64) 0) (get_or (row_of old k) (t / 64) 0) (t % 64)

  -- The same of the grid as the loan leaves it.
  pub row_left : (rows : List (List ℕ)) → rows ≡ now.rows → (t : ℕ) → bit_in (get_or rows s []) t ≡ (has_bit old s t || has_bit old k t)
  row_left rows is t = ap (λ l. bit_in (get_or l s []) t) is ∙ row_taken t

-- ---- one round

-- The first rows have gone through observation k.
pub record HasGoneRows (old now : Rows ℕ) (k end : ℕ) : Type 0 where
  pub count : length now.rows ≡ length old.rows
  pub cols : now.cols ≡ old.cols
  pub bits : HasGone (has_bit old) (has_bit now) k end
  pub middle : (t : ℕ) → has_bit now k t ≡ has_bit old k t

module _ (old now : Rows ℕ) (k s : ℕ) (so_far : HasGoneRows old now k s) where
  pub skipped_itself : s ≡ k → HasGoneRows old now k (s + 1)
  skipped_itself e = record {
    count = so_far.count;
    cols = so_far.cols;
    bits = itself_gone (has_bit old) (has_bit now) k s so_far.bits e;
    middle = so_far.middle;
  }

  pub skipped_unreached : has_bit now s k ≡ false → HasGoneRows old now k (s + 1)
  skipped_unreached none = record {
    count = so_far.count;
    cols = so_far.cols;
    bits = unreached_gone (has_bit old) (has_bit now) k s so_far.bits none;
    middle = so_far.middle;
  }

  pub row_gone : (new : Rows ℕ) → s ≢ k → has_bit now s k ≡ true → length new.rows ≡ length now.rows → new.cols ≡ now.cols
      → ((t : ℕ) → has_bit new s t ≡ (has_bit now s t || has_bit now k t)) → ((a t : ℕ) → a ≢ s → has_bit new a t ≡ has_bit now a t) → HasGoneRows old new k (s + 1)
  row_gone new apart reached count cols row others = record {
    count = count ∙ so_far.count;
    cols = cols ∙ so_far.cols;
    bits = reached_gone (has_bit old) (has_bit now) k s so_far.bits reached (has_bit new) (λ t. row t ∙ ap (λ b. has_bit now s t || b) (so_far.middle t)) others;
    middle = λ t. others k t (λ e. apart (sym e)) ∙ so_far.middle t;
  }

-- ---- all rounds

pub record HasClosedRows (old now : Rows ℕ) (k : ℕ) : Type 0 where
  pub count : length now.rows ≡ length old.rows
  pub cols : now.cols ≡ old.cols
  pub rows : HasClosed (length old.rows) (has_bit old) (has_bit now) k
