-- One pivot (Dantzig 1963), over whole numbers without bound and one denominator in lowest terms.
use Prim.Native.Nat.{◌∣◌}
use Rattle.std.specs.Prelude.{ℕ, ◌≡◌, ◌≢◌, ◌*◌, ◌<◌, ◌≤◌, ℤ, pos, ◌*ℤ◌, ◌-ℤ◌, if◌then◌else◌, ◌==◌}
use Rattle.std.specs.Int.RustNames.{unsigned_abs}
use Rattle.rp_simplex.specs.ExactTableau.{ExactTableau}

-- The entry in row i and column j after the pivot at row r and column c, over the old denominator times the pivot's
-- entry: the multiple of row r that clears column c is taken from each other row.
abbrev pub cleared : ExactTableau → ℕ → ℕ → ℕ → ℕ → ℤ
cleared t r c i j = if i == r then t.at r j *ℤ pos t.den else t.at i j *ℤ t.at r c -ℤ t.at i c *ℤ t.at r j

-- k divides the new denominator and every new entry.
pub record DividesAll (rows width : ℕ) (t : ExactTableau) (r c k : ℕ) : Type 0 where
  pub divides_den : k ∣ unsigned_abs (pos t.den *ℤ t.at r c)
  pub divides_entries : (i j : ℕ) → i ≤ rows → j < width → k ∣ unsigned_abs (cleared t r c i j)

-- u is t after the pivot at row r and column c, with all numbers divided by their greatest common divisor.
pub record IsPivot (rows width : ℕ) (t : ExactTableau) (r c : ℕ) (u : ExactTableau) : Type 0 where
  pub divisor : ℕ
  pub divides : DividesAll rows width t r c divisor
  pub greatest : (k : ℕ) → DividesAll rows width t r c k → k ∣ divisor
  pub den : pos t.den *ℤ t.at r c ≡ pos (u.den * divisor)
  pub entries : (i j : ℕ) → i ≤ rows → j < width → cleared t r c i j ≡ u.at i j *ℤ pos divisor
  pub enters : u.basis r ≡ c
  pub stays : (i : ℕ) → i < rows → i ≢ r → u.basis i ≡ t.basis i
