-- The bits of rows of words are counted.
use Rattle.std.proofs.Common.{◌≡◌, ℕ, zero, suc, ◌+◌, ◌-◌, ◌*◌, ◌/◌, ◌%◌, ◌^◌, ◌<◌, ◌≤◌, ◌||◌, Bool, true, false, cond, eqb, List, get_or, count_by, count_ones, refl, sym, ap, ◌∙◌, arith, mod-lt, pow-suc}
use Rattle.std.specs.Int.{bit_at}
use Rattle.std.specs.List.{range_with_len}
use lib.Count.{ones_step}
use Rattle.std.proofs.lemmas.Bool.{eq-eqb, ne_eqb}
use Rattle.std.proofs.lemmas.Nat.{div-mul-add, mod-mul-add, ones_le_self}
use Rattle.std.proofs.lemmas.Nat.Bits.{bit_at-suc, bit_at_lowest}
use Rattle.rp_evidence.specs.Bits.{bit_in}
use Rattle.rp_pref.proofs.ClosureLemmas.{count_more}

-- The sum of the first k values.
abbrev pub total : ℕ → (ℕ → ℕ) → ℕ
total zero f = 0
total (suc k) f = total k f + f k

total_shift : (k : ℕ) (f : ℕ → ℕ) → total (suc k) f ≡ f 0 + total k (λ i. f (suc i))
total_shift zero f = omega arith
total_shift (suc k) f = omega (arith, total_shift k f)

total_same : (k : ℕ) (f g : ℕ → ℕ) → ((i : ℕ) → i < k → f i ≡ g i) → total k f ≡ total k g
total_same zero f g same = refl
total_same (suc k) f g same = λ i. total_same k f g (λ j l. same j (omega arith)) i + same k (omega arith) i

abbrev flag : ℕ → ℕ → ℕ
flag w i = cond (eqb (bit_at w i) 1) 1 0

lowest_flag : (x : ℕ) → x < 2 → cond (eqb x 1) 1 0 ≡ x
lowest_flag zero _ = refl
lowest_flag (suc zero) _ = refl
lowest_flag (suc (suc x)) h = absurd (omega arith)

ones_total : (k w : ℕ) → w < 2 ^ k → count_ones w ≡ total k (flag w)
ones_total zero w fits = omega (arith, ones_le_self w)
ones_total (suc k) w fits =
    let half : w / 2 < 2 ^ k = omega (arith, pow-suc 2 k) in
    let first : flag w 0 ≡ w % 2 = ap (λ v. cond (eqb v 1) 1 0) (bit_at_lowest w) ∙ lowest_flag (w % 2) (mod-lt w (omega arith)) in
    let rest : total k (λ i. flag w (suc i)) ≡ total k (flag (w / 2)) = total_same k (λ i. flag w (suc i)) (flag (w / 2)) (λ i l. ap (λ v. cond (eqb v 1) 1 0) (bit_at-suc w i)) in
    omega (arith, ones_step w, ones_total k (w / 2) half, total_shift k (flag w), first, rest)

count_block : (p : ℕ → Bool) (m k : ℕ) → count_by p (range_with_len 0 (m + k)) ≡ count_by p (range_with_len 0 m) + total k (λ j. cond (p (m + j)) 1 0)
count_block p m zero = let none : m + 0 ≡ m = omega arith in let same : count_by p (range_with_len 0 (m + 0)) ≡ count_by p (range_with_len 0 m) = ap (λ n. count_by p (range_with_len 0 n)) none in omega arith
count_block p m (suc k) =
    let one : m + suc k ≡ m + k + 1 = omega arith in
    let same : count_by p (range_with_len 0 (m + suc k)) ≡ count_by p (range_with_len 0 (m + k + 1)) = ap (λ n. count_by p (range_with_len 0 n)) one in
    omega (arith, same, count_more p (m + k), count_block p m k)

-- One word more is counted.
pub word_more : (words : List ℕ) (i w k : ℕ) → k ≡ 64 → w ≡ get_or words i 0 → w < 2 ^ k
    → count_by (bit_in words) (range_with_len 0 ((i + 1) * 64)) ≡ count_by (bit_in words) (range_with_len 0 (i * 64)) + count_ones w
word_more words i w k size is fits =
    let next : (i + 1) * 64 ≡ i * 64 + k = omega arith in
    let each : (j : ℕ) → j < k → cond (bit_in words (i * 64 + j)) 1 0 ≡ flag w j = λ j l.
    let low : j < 64 = omega arith in
    ap (λ v. cond (eqb v 1) 1 0) ((λ d. bit_at (get_or words (div-mul-add i 64 j low d) 0) (mod-mul-add i 64 j low d)) ∙ ap (λ v. bit_at v j) (sym is)) in
    ap (λ n. count_by (bit_in words) (range_with_len 0 n)) next ∙ count_block (bit_in words) (i * 64) k
    ∙ ap (λ n. count_by (bit_in words) (range_with_len 0 (i * 64)) + n) (total_same k (λ j. cond (bit_in words (i * 64 + j)) 1 0) (flag w) each ∙ sym (ones_total k w fits))

-- What comes after the last that is set does not count.
pub none_after : (p : ℕ → Bool) (n d : ℕ) → ((t : ℕ) → n ≤ t → p t ≡ false) → count_by p (range_with_len 0 (n + d)) ≡ count_by p (range_with_len 0 n)
none_after p n zero none = let e : n + 0 ≡ n = omega arith in ap (λ m. count_by p (range_with_len 0 m)) e
none_after p n (suc d) none =
    let e : n + suc d ≡ n + d + 1 = omega arith in
    let last : ◌≡◌ {A = ℕ} (cond (p (n + d)) 1 0) 0 = ap (λ b. cond b 1 0) (none (n + d) (omega arith)) in
    let same : count_by p (range_with_len 0 (n + suc d)) ≡ count_by p (range_with_len 0 (n + d + 1)) = ap (λ m. count_by p (range_with_len 0 m)) e in
    omega (arith, count_more p (n + d), none_after p n d none)

one_of : (b : Bool) → ◌≡◌ {A = ℕ} (cond b 1 0 + cond b 0 1) 1
one_of true = refl
one_of false = refl

-- One that counts whether it is set or not.
module _ (p q : ℕ → Bool) (n s : ℕ) (same : (t : ℕ) → t < n → q t ≡ p t) (below : s < n) where
  abbrev with_s : ℕ → Bool
  with_s t = eqb t s || q t

  before : (m : ℕ) → m ≤ s → count_by with_s (range_with_len 0 m) ≡ count_by p (range_with_len 0 m)
  before zero l = refl
  before (suc m) l =
      let apart : m ≡ s → ⊥ = λ e. omega arith in
      let e : suc m ≡ m + 1 = omega arith in
      let last : ◌≡◌ {A = ℕ} (cond (with_s m) 1 0) (cond (p m) 1 0) = ap (λ b. cond (b || q m) 1 0) (ne_eqb m s apart) ∙ ap (λ b. cond b 1 0) (same m (omega arith)) in
      ap (λ k. count_by with_s (range_with_len 0 k)) e
      ∙ (let goal : count_by with_s (range_with_len 0 (m + 1)) ≡ count_by p (range_with_len 0 (m + 1)) = omega (arith, count_more with_s m, count_more p m, before m (omega arith), last) in goal)
      ∙ ap (λ k. count_by p (range_with_len 0 k)) (sym e)

  after : (d : ℕ) → s + 1 + d ≤ n → count_by with_s (range_with_len 0 (s + 1 + d)) ≡ count_by p (range_with_len 0 (s + 1 + d)) + cond (p s) 0 1
  after zero l =
      let e : s + 1 + 0 ≡ s + 1 = omega arith in
      let this : ◌≡◌ {A = ℕ} (cond (with_s s) 1 0) 1 = ap (λ b. cond (b || q s) 1 0) (eq-eqb s s refl) in
      ap (λ k. count_by with_s (range_with_len 0 k)) e
      ∙ (let goal : count_by with_s (range_with_len 0 (s + 1)) ≡ count_by p (range_with_len 0 (s + 1)) + cond (p s) 0 1 = omega (arith, count_more with_s s, count_more p s, before s (omega arith), this, one_of (p s)) in goal)
      ∙ ap (λ k. count_by p (range_with_len 0 k) + cond (p s) 0 1) (sym e)
  after (suc d) l =
      let m = s + 1 + d in
      let apart : m ≡ s → ⊥ = λ e. omega arith in
      let e : s + 1 + suc d ≡ m + 1 = omega arith in
      let last : ◌≡◌ {A = ℕ} (cond (with_s m) 1 0) (cond (p m) 1 0) = ap (λ b. cond (b || q m) 1 0) (ne_eqb m s apart) ∙ ap (λ b. cond b 1 0) (same m (omega arith)) in
      ap (λ k. count_by with_s (range_with_len 0 k)) e
      ∙ (let goal : count_by with_s (range_with_len 0 (m + 1)) ≡ count_by p (range_with_len 0 (m + 1)) + cond (p s) 0 1 = omega (arith, count_more with_s m, count_more p m, after d (omega arith), last) in goal)
      ∙ ap (λ k. count_by p (range_with_len 0 k) + cond (p s) 0 1) (sym e)

  pub counted_with : count_by with_s (range_with_len 0 n) ≡ count_by p (range_with_len 0 n) + cond (p s) 0 1
  counted_with =
      let e : s + 1 + (n - (s + 1)) ≡ n = omega arith in
      ap (λ k. count_by with_s (range_with_len 0 k)) (sym e) ∙ after (n - (s + 1)) (omega arith) ∙ ap (λ k. count_by p (range_with_len 0 k) + cond (p s) 0 1) e

total_below : (k : ℕ) (f : ℕ → ℕ) → ((i : ℕ) → f i ≤ 1) → total k f ≤ k
total_below zero f each = omega arith
total_below (suc k) f each = omega (arith, total_below k f each, each k)

flag_below : (b : Bool) → cond b 1 0 ≤ 1
flag_below true = omega arith
flag_below false = omega arith

pub ones_below : (k w : ℕ) → w < 2 ^ k → count_ones w ≤ k
ones_below k w fits = omega (arith, ones_total k w fits, total_below k (flag w) (λ i. flag_below (eqb (bit_at w i) 1)))
