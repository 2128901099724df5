-- The axiom holds exactly where no two observations violate it.
use Rattle.std.proofs.Common.{◌≡◌, ◌<◌, ◌↔◌, ℕ, List, [], Bool, true, false, refl, sym, IfOk, IsFalse, IsTrue, Result, Ok, Err}
use Rattle.std.proofs.Math.Bool.{not}
use Rattle.std.proofs.lemmas.Bool.{false≢true}
use Rattle.rp_evidence.specs.Garp.{HasNoViolation, MeetsGarp}
use Rattle.rp_evidence.specs.Preference.{IsStrict, IsWeak, StrictByLevels, WeakByLevels}
use Rattle.rp_evidence.proofs.OwnLevels.{strict_without_levels, weak_without_levels}
use Rattle.rp_evidence.proofs.SameCosts.{no_violation_same}
use Rattle.rp_evidence.proofs.Violations.{has_reach_and_strict, reach_and_strict}
use Rattle.rp_evidence.proofs.Walks.{reach_ends_below, reach_starts_below}
use Rattle.rp_evidence.specs.Garp.{HasSomeViolation}
use Rattle.rp_garp.specs.InnerMeeting.{SomeViolate}

module _ (n : ℕ) (weak strict : ℕ → ℕ → Type 0) (is_weak : (s t : ℕ) → s < n → t < n → strict s t → weak s t) where
  some_violate : HasSomeViolation n weak strict → SomeViolate n weak strict
  some_violate v =
      let r = has_reach_and_strict n weak strict v.0 v.1 in
      (r.1, reach_ends_below n weak r.0 r.1 r.2, (r.0, reach_starts_below n weak r.0 r.1 r.2, (r.2, r.3)))

  some_violates : SomeViolate n weak strict → HasSomeViolation n weak strict
  some_violates v =
      let t = v.0 in
      let s = v.2.0 in
      let reach = v.2.2.0 in
      let back = v.2.2.1 in
      (_, reach_and_strict n weak strict s t reach.0 reach.1 (is_weak t s v.1 v.2.1 back) back)

  -- a test of whether any two do
  pub holds_where_told : (told : Bool) → IsTrue told ↔ SomeViolate n weak strict → IsTrue (not told) ↔ HasNoViolation n weak strict
  holds_where_told true is = (λ h. absurd (false≢true h), λ none. let v = some_violates (is.0 refl) in absurd (none v.0 v.1))
  holds_where_told false is = (λ h walk v. false≢true (is.1 (some_violate (walk, v))), λ none. refl)

  pub violated_where_told : (told : Bool) → IsTrue told ↔ SomeViolate n weak strict → IsFalse (not told) ↔ HasSomeViolation n weak strict
  violated_where_told true is = (λ h. some_violates (is.0 refl), λ v. refl)
  violated_where_told false is = (λ h. absurd (false≢true (sym h)), λ v. absurd (false≢true (is.1 (some_violate v))))

module _ (n : ℕ) (c : ℕ → ℕ → ℕ) where
  here : HasNoViolation n (WeakByLevels [] c) (StrictByLevels [] c) → MeetsGarp n c
  here =
      no_violation_same n (WeakByLevels [] c) (StrictByLevels [] c) (IsWeak c) (IsStrict c)
      (λ s t a b. weak_without_levels c s t) (λ s t a b. strict_without_levels c s t)

  there : MeetsGarp n c → HasNoViolation n (WeakByLevels [] c) (StrictByLevels [] c)
  there =
      no_violation_same n (IsWeak c) (IsStrict c) (WeakByLevels [] c) (StrictByLevels [] c)
      (λ s t a b. (let h = weak_without_levels c s t in (h.1, h.0))) (λ s t a b. (let h = strict_without_levels c s t in (h.1, h.0)))

  pub meets_at_one : (levels : List ℕ) → levels ≡ [] → HasNoViolation n (WeakByLevels levels c) (StrictByLevels levels c) ↔ MeetsGarp n c
  meets_at_one levels none = rw none (here, there)

-- what follows of an answer, under a condition
pub if_ok : {X E : Type 0} (P Q : X → Type 0) (N : Type 0) → (N → (x : X) → P x → Q x) → (r : Result X E) → IfOk r P → IfOk r (λ x. N → Q x)
if_ok P Q N f (Ok x) p = λ none. f none x p
if_ok P Q N f (Err e) p = p

pub ok_with : {X E : Type 0} (P Q : X → Type 0) → ((x : X) → P x → Q x) → (r : Result X E) → IfOk r P → IfOk r Q
ok_with P Q f (Ok x) p = f x p
ok_with P Q f (Err e) p = p
