-- A search by halving: what it keeps, and how often it tests.
use Rattle.std.proofs.Common.{add-one, inl, inr, ◌≡◌, ◌<◌, ◌≤◌, ◌+◌, ◌-◌, ◌*◌, ◌/◌, ◌^◌, ℕ, zero, suc, sym, subst, arith}
use Rattle.std.proofs.Math.Nat.{mul-le-mul_left, pow-suc}
use Rattle.std.proofs.lemmas.Bool.{cases_eq}
use Rattle.rp_effic.specs.Monotone.{IsMonotone}

-- it holds at none before low, and at high or high is the end; what is left between them bounds the tests so far
pub record Halves (n : ℕ) (holds : ℕ → Type 0) (tested low high : ℕ) : Type 0 where
  pub ordered : low ≤ high
  pub within : high ≤ n
  pub none_below : (j : ℕ) → j < low → ¬ holds j
  pub holds_there : high < n → holds high
  pub few_left : low < high → 2 ^ tested * (2 * (high - low)) ≤ 2 * n
  pub few : 2 ^ tested ≤ 2 * n + 1

-- one test more doubles the power
module _ (tested length' width half : ℕ) (bound : 2 ^ tested * (2 * width) ≤ 2 * length') where
  pub few_after : 0 < width → 2 ^ (tested + 1) ≤ 2 * length' + 1
  few_after pos =
      let k : 2 ^ tested * 2 ≤ 2 ^ tested * (2 * width) = mul-le-mul_left (2 ^ tested) (omega arith) in
      rw add-one (rw pow-suc (omega arith))

  pub few_left_after : 2 * half ≤ width → 2 ^ (tested + 1) * (2 * half) ≤ 2 * length'
  few_left_after l =
      let k : 2 ^ tested * (2 * (2 * half)) ≤ 2 ^ tested * (2 * width) = mul-le-mul_left (2 ^ tested) (omega arith) in
      rw add-one (rw pow-suc (omega arith))

module _ (n : ℕ) (holds : ℕ → Type 0) (tested low high middle : ℕ) (h : Halves n holds tested low high) (some : low < high) (is : middle ≡ low + (high - low) / 2) where
  pub to_left : holds middle → Halves n holds (tested + 1) low middle
  to_left e = record {
    ordered = omega arith;
    within = omega (arith, h.within);
    none_below = h.none_below;
    holds_there = λ l. e;
    few_left = λ l. few_left_after tested n (high - low) (middle - low) (h.few_left some) (omega arith);
    few = few_after tested n (high - low) 0 (h.few_left some) (omega arith);
  }

  pub to_right : IsMonotone n holds → ¬ holds middle → Halves n holds (tested + 1) (middle + 1) high
  to_right monotone none = record {
    ordered = omega arith;
    within = h.within;
    none_below = λ j l. elim (cases_eq j middle) [
      | inl same ↦ subst (λ x. ¬ holds x) (sym same) none
      | inr apart ↦ λ there. none (monotone j middle (omega arith) (omega (arith, h.within)) there)
    ];
    holds_there = h.holds_there;
    few_left = λ l. few_left_after tested n (high - low) (high - (middle + 1)) (h.few_left some) (omega arith);
    few = few_after tested n (high - low) 0 (h.few_left some) (omega arith);
  }

-- a number is below its power of two
pub below_power : (k : ℕ) → k < 2 ^ k
below_power zero = omega arith
below_power (suc k) = let l = below_power k in rw pow-suc (omega arith)

-- so the count of tests does not come to its end
pub countable : (n : ℕ) (holds : ℕ → Type 0) (start now low high : ℕ) → start < 2 ^ 63 → start ≤ now → n < 2 ^ 32 → Halves n holds (now - start) low high → now < 2 ^ 64 - 1
countable n holds start now low high few rises short h =
    let k = below_power (now - start) in
    let b = h.few in
    omega arith

-- the tests so far, with one more
pub one_more : (start now next : ℕ) → start ≤ now → next ≡ now + 1 → next - start ≡ (now - start) + 1
one_more start now next l e = omega arith
