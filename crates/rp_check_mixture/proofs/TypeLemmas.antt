-- Types by the patches that they begin with.
use Rattle.std.proofs.Common.{◌≡◌, ◌<◌, ◌++◌, ℕ, zero, suc, List, [], ◌∷◌, length, take, slice_index, arith, refl, sym}
use Rattle.rp_patch.specs.PartialTypes.{Begins}

-- a type begins with its first patches
pub begins_so_far : (type : List ℕ) (k x : ℕ) → k < length type → x ≡ slice_index type k → Begins type (take k type ++ x ∷ [])
begins_so_far [] k x within is = absurd (omega (arith, within))
begins_so_far (y ∷ type) zero x within is = (sym is, tt)
begins_so_far (y ∷ type) (suc k) x within is = (refl, begins_so_far type k x (omega (arith, within)) is)
