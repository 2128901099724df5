-- A fault that `?` passes on.
use Rattle.std.proofs.Common.{◌≡◌, Some, Result, Ok, Err, sym, ap, subst}
use Rattle.std.specs.Result.{IfErr, IsErr, IsErrAnd, result_err}

pub passed_on : {A E : Type 0} (r : Result A E) (e : E) (P : E → Type 0) → IsErr r × IsErrAnd r (λ x. x ≡ e) → P e → IfErr r P
passed_on (Ok x) e P h p = tt
passed_on (Err x) e P h p = subst P (sym h.1) p

pub passed_err : {A E : Type 0} (r : Result A E) (e : E) → IsErr r × IsErrAnd r (λ x. x ≡ e) → result_err r ≡ Some e
passed_err (Ok x) e h = cc h.0
passed_err (Err x) e h = ap Some h.1
