-- A failure that `?` passes on.
use Rattle.std.proofs.Common.{◌≡◌, ℕ, ◌+◌, ◌<◌, [], ◌∷◌, Result, Ok, Err, ap, inl, inr, refl, sym, subst}
use Rattle.std.specs.Result.{IsErr, IsErrAnd}
use Rattle.rp_evidence.specs.declared.failure.Failure.{Failure}
use Rattle.rp_evidence.specs.declared.failure.Reason.{Reason}
use Rattle.rp_evidence.specs.Clauses.{FirstBelow, FirstUnless, InOrder, failure}

pub passed_on : (r : Result (Unit {0}) Failure) (e : Failure) (found : Result (Unit {0}) Failure → Type 0) → IsErr r × IsErrAnd r (λ x. x ≡ e) → found (Err e) → found r
passed_on (Ok x) e found h is = absurd (cc (h.0))
passed_on (Err x) e found h is = subst found (ap Err (sym h.1)) is

-- the first of the numbers below n whose clauses find something
pub first_found : (n k : ℕ) (each : ℕ → Result (Unit {0}) Failure → Type 0) (r : Result (Unit {0}) Failure) (e : Failure) → k < n → ((j : ℕ) → j < k → each j (Ok tt)) → each k (Err e) → IsErr r × IsErrAnd r (λ x. x ≡ e) → FirstBelow n each r
first_found n k each r e within before found h = passed_on r e (FirstBelow n each) h (k, within, found, before)

-- two clauses, of which the first holds
pub then_last : (first last : Result (Unit {0}) Failure → Type 0) (r : Result (Unit {0}) Failure) → first (Ok tt) → last r → InOrder (first ∷ last ∷ []) r
then_last first last (Ok x) holds found = (holds, (found, tt))
then_last first last (Err e) holds found = inr (holds, inl found)

-- the first of the numbers below n that does not hold
pub first_not : (n k : ℕ) (holds : ℕ → Type 0) (reason : Reason) (r : Result (Unit {0}) Failure) → k < n → ((j : ℕ) → j < k → holds j) → ¬ holds k → r ≡ Err (failure reason (k + 1)) → FirstUnless n holds reason r
first_not n k holds reason r within before not is = rw is (k, within, (not, refl), before)
