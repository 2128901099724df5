-- Pairs, counted one after another.
use Rattle.std.proofs.Common.{◌≡◌, ◌≢◌, ◌<◌, ◌≤◌, ◌+◌, ◌*◌, ◌==◌, ℕ, zero, suc, Bool, true, false, List, [], ◌∷◌, ◌++◌, Result, Ok, Err, inl, inr, refl, sym, ap, subst, ◌∙◌, arith}
use Rattle.std.specs.Prelude.{◌↔◌, IfOk}
use Rattle.std.proofs.lemmas.Bool.{cases_eq, eq-eqb}
use Rattle.std.proofs.lemmas.Bool.Decides.{Decides-eqb}
use Rattle.std.proofs.lemmas.List.{length_push}
use Rattle.rp_evidence.specs.Clauses.{Unless, failure}
use Rattle.rp_evidence.specs.Count.{IsNumberOf}
use Rattle.rp_evidence.specs.Input.{TableInput}
use Rattle.rp_evidence.specs.Preference.{IsWeak}
use Rattle.rp_evidence.specs.Walk.{IsWalk, Reaches}
use Rattle.rp_evidence.specs.Welfare.{EqualsOrReaches}
use Rattle.rp_evidence.specs.declared.failure.Failure.{Failure}
use Rattle.rp_evidence.specs.declared.failure.Reason.TheVariants.{Number}
use Rattle.rp_evidence.proofs.CountLists.{number_is_one}
use Rattle.rp_evidence.proofs.Enumerations.{enumerates_with, enumerates_without}
use Rattle.rp_fit.specs.Violations.{AreViolationCounts, IsNumberOfPairs}
use Rattle.rp_fit.proofs.OneNumber.{pairs_have_one_number}
use Rattle.rp_table.specs.Sums.{sum_below}
use Rattle.rp_check_fit.specs.ViolationsFailure.{ViolationsFail}
use Rattle.rp_fit.specs.declared.violations.ViolationsPart.{ViolationsPart}

-- ---- one observation after another

pub number_at_start : (P : ℕ → Type 0) → IsNumberOf 0 P 0
number_at_start P = (
  [],
  record { rising = λ k l. absurd (omega arith); just_these = λ t. (λ there. absurd (omega (arith, there.1)), λ h. absurd (omega (arith, h.0))) },
  refl,
)

pub number_with : (P : ℕ → Type 0) (t k new : ℕ) → IsNumberOf t P k → P t → new ≡ k + 1 → IsNumberOf (t + 1) P new
number_with P t k new number holds is =
    (number.0 ++ t ∷ [], enumerates_with P t number.0 number.1 holds, omega (arith, length_push number.0 t, number.2, is))

pub number_without : (P : ℕ → Type 0) (t k new : ℕ) → IsNumberOf t P k → ¬ P t → new ≡ k → IsNumberOf (t + 1) P new
number_without P t k new number not is = (number.0, enumerates_without P t number.0 number.1 not, omega (arith, number.2, is))

-- ---- one first observation after another

-- so many pairs have their first observation below m
abbrev pub PairsBelow : ℕ → ℕ → (ℕ → ℕ → Type 0) → ℕ → Type 0
PairsBelow m n relation k =
    (seconds : ℕ → ℕ) × ((s : ℕ) → s < m → IsNumberOf n (relation s) (seconds s)) × (sum_below m seconds ≡ k)

pub no_pairs_below : (n : ℕ) (relation : ℕ → ℕ → Type 0) → PairsBelow 0 n relation 0
no_pairs_below n relation = (λ s. 0, λ s l. absurd (omega arith), refl)

same_sums : (n : ℕ) (f g : ℕ → ℕ) → ((s : ℕ) → s < n → f s ≡ g s) → sum_below n f ≡ sum_below n g
same_sums zero f g same = refl
same_sums (suc n) f g same =
    let a = same_sums n f g (λ s l. same s (omega arith)) in
    let b = same n (omega arith) in
    omega (arith, a, b)

-- the numbers so far, and one more at m
abbrev chosen : ℕ → (ℕ → ℕ) → ℕ → Bool → ℕ
chosen more seconds s true = more
chosen more seconds s false = seconds s

abbrev with_more : ℕ → ℕ → (ℕ → ℕ) → ℕ → ℕ
with_more m more seconds s = chosen more seconds s (s == m)

earlier_stay : (m more : ℕ) (seconds : ℕ → ℕ) (s : ℕ) → s < m → with_more m more seconds s ≡ seconds s
earlier_stay m more seconds s l = go (s == m) refl
  where
    go : (b : Bool) → (s == m) ≡ b → chosen more seconds s b ≡ seconds s
    go true e = absurd (omega (arith, l, (Decides-eqb s m).0 e))
    go false e = refl

last_is_more : (m more : ℕ) (seconds : ℕ → ℕ) → with_more m more seconds m ≡ more
last_is_more m more seconds = ap (λ b. chosen more seconds m b) (eq-eqb m m refl)

pub pairs_more : (m n : ℕ) (relation : ℕ → ℕ → Type 0) (k more new : ℕ) → PairsBelow m n relation k → IsNumberOf n (relation m) more → new ≡ k + more → PairsBelow (m + 1) n relation new
pairs_more m n relation k more new pairs number is = (with_more m more pairs.0, each, sum)
  where
    each : (s : ℕ) → s < m + 1 → IsNumberOf n (relation s) (with_more m more pairs.0 s)
    each s l = elim (cases_eq s m) [
      | inl e ↦
          subst (λ z. IsNumberOf n (relation z) (with_more m more pairs.0 z)) (sym e)
          (subst (λ x. IsNumberOf n (relation m) x) (sym (last_is_more m more pairs.0)) number)
      | inr d ↦
          (let before : s < m = omega (arith, l, d) in subst (λ x. IsNumberOf n (relation s) x) (sym (earlier_stay m more pairs.0 s before)) (pairs.1 s before))
    ]

    sum : sum_below (m + 1) (with_more m more pairs.0) ≡ new
    sum =
        let a = same_sums m (with_more m more pairs.0) pairs.0 (earlier_stay m more pairs.0) in
        let b = last_is_more m more pairs.0 in
        let e : m + 1 ≡ suc m = omega arith in
        subst (λ z. sum_below z (with_more m more pairs.0) ≡ new) (sym e) (omega (arith, a, b, pairs.2, is))

pub counted_more : (m n : ℕ) (relation : ℕ → ℕ → Type 0) (k more new : ℕ) → PairsBelow m n relation k × (k ≤ m * 512) → IsNumberOf n (relation m) more → more ≤ 512 → new ≡ k + more
    → PairsBelow (m + 1) n relation new × (new ≤ (m + 1) * 512)
counted_more m n relation k more new so_far number few is = (pairs_more m n relation k more new so_far.0 number is, omega (arith, so_far.1, few, is))

pub all_pairs_counted : (n : ℕ) (relation : ℕ → ℕ → Type 0) (k : ℕ) → PairsBelow n n relation k → IsNumberOfPairs n relation k
all_pairs_counted n relation k pairs = record { seconds = pairs.0; each = pairs.1; sum = pairs.2 }

-- ---- reaching another

pub reaches_another : (input : TableInput) (s t : ℕ) → s ≢ t → EqualsOrReaches input s t ↔ Reaches input.n (IsWeak input.cost) s t
reaches_another input s t differ = (λ h. go h.0 h.1, λ h. (h.0, h.1))
  where
    go : (walk : List ℕ) → IsWalk input.n (IsWeak input.cost) s t walk → Reaches input.n (IsWeak input.cost) s t
    go [] h = absurd h
    go (x ∷ []) h = absurd (differ (sym h.0 ∙ h.1.1))
    go (x ∷ y ∷ rest) h = (x ∷ y ∷ rest, h, omega arith)

-- ---- all numbers

pub counts_prove : (input : TableInput) (part : ViolationsPart) (r : Result (Unit {0}) Failure) → ViolationsFail input part r
    → IfOk r (λ done. AreViolationCounts input part.garp part.weak_garp part.warp part.sarp part.observations)
counts_prove input part (Err e) found = tt
counts_prove input part (Ok done) (garp, (weak_garp, (warp, (sarp, (observations, end))))) =
    record { garp_is = garp; weak_garp_is = weak_garp; warp_is = warp; sarp_is = sarp; observations_is = observations }

-- ---- what is told

pub pairs_not_told : (n : ℕ) (relation : ℕ → ℕ → Type 0) (counted told place : ℕ) (r : Result (Unit {0}) Failure) → IsNumberOfPairs n relation counted → counted ≢ told → r ≡ Err (failure Number place)
    → Unless (IsNumberOfPairs n relation told) Number place r
pairs_not_told n relation counted told place r number differ is = rw is (λ h. differ (pairs_have_one_number n relation counted told number h), refl)

pub number_not_told : (n : ℕ) (P : ℕ → Type 0) (counted told place : ℕ) (r : Result (Unit {0}) Failure) → IsNumberOf n P counted → counted ≢ told → r ≡ Err (failure Number place)
    → Unless (IsNumberOf n P told) Number place r
number_not_told n P counted told place r number differ is = rw is (λ h. differ (number_is_one n P counted told number h), refl)
