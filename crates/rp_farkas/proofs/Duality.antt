-- Weak duality, and what a ray gives.
use Rattle.std.proofs.Common.{◌≡◌, ℕ, ◌+◌, ◌*◌, ◌<◌, ◌≤◌, ℤ, pos, ◌+ℤ◌, ◌*ℤ◌, ◌≤ℤ◌, ◌<ℤ◌, sym, ◌∙◌, ap, subst, arith}
use Rattle.std.proofs.lemmas.Int.{ints}
use Rattle.std.specs.Int.RustNames.{unsigned_abs}
use Rattle.std.proofs.Math.Nat.{le-mul_of_pos_right}
use Rattle.rp_farkas.specs.Total.{total}
use Rattle.rp_farkas.specs.LinearProgram.{LinearProgram}
use Rattle.rp_farkas.specs.Point.{IsFeasiblePoint, row_times, value_of}
use Rattle.rp_farkas.specs.Prices.{IsFeasiblePrices, column_times, value_of_prices}
use Rattle.rp_farkas.specs.EqualPair.{IsEqualPair}
use Rattle.rp_farkas.specs.Ray.{IsRay}
use Rattle.rp_farkas.specs.Best.{IsBestPoint, IsBestPrices, HasNoBound}
use Rattle.rp_farkas.proofs.Totals.{total-same, total-add, total-scale, total-mono, total-swap}
use Rattle.rp_farkas.proofs.Integers.{turn, below_abs, above_abs, times_at_least, times_mono, times_plus, times_assoc}

chain : (a b c d e f : ℤ) → a ≡ b → b ≤ℤ c → c ≡ d → d ≤ℤ e → e ≡ f → a ≤ℤ f
chain a b c d e f p q r s t = omega (arith, ints)

-- x A y, summed by columns and by rows
by_rows : (p : LinearProgram) (y x : ℕ → ℕ) → total p.cols (λ j. column_times p j x *ℤ pos (y j)) ≡ total p.rows (λ i. row_times p i y *ℤ pos (x i))
by_rows p y x =
    total-same p.cols (λ j. column_times p j x *ℤ pos (y j)) (λ j. total p.rows (λ i. (p.a i j *ℤ pos (x i)) *ℤ pos (y j)))
    (λ j _. sym (total-scale p.rows (λ i. p.a i j *ℤ pos (x i)) (pos (y j))))
    ∙ total-swap p.cols p.rows (λ j i. (p.a i j *ℤ pos (x i)) *ℤ pos (y j))
    ∙ total-same p.rows (λ i. total p.cols (λ j. (p.a i j *ℤ pos (x i)) *ℤ pos (y j))) (λ i. row_times p i y *ℤ pos (x i))
    (λ i _. total-same p.cols (λ j. (p.a i j *ℤ pos (x i)) *ℤ pos (y j)) (λ j. (p.a i j *ℤ pos (y j)) *ℤ pos (x i)) (λ j _. turn (p.a i j) (pos (x i)) (pos (y j)))
    ∙ total-scale p.cols (λ j. p.a i j *ℤ pos (y j)) (pos (x i)))

-- no feasible point is worth more than what a feasible price vector costs
pub weak_duality : (p : LinearProgram) (d e : ℕ) (y x : ℕ → ℕ) → IsFeasiblePoint p d y → IsFeasiblePrices p e x → (value_of p y *ℤ pos e) ≤ℤ (value_of_prices p x *ℤ pos d)
weak_duality p d e y x point prices =
    let left : (value_of p y *ℤ pos e) ≡ total p.cols (λ j. (p.c j *ℤ pos e) *ℤ pos (y j))
    = sym (total-scale p.cols (λ j. p.c j *ℤ pos (y j)) (pos e))
    ∙ total-same p.cols (λ j. (p.c j *ℤ pos (y j)) *ℤ pos e) (λ j. (p.c j *ℤ pos e) *ℤ pos (y j)) (λ j _. turn (p.c j) (pos (y j)) (pos e)) in
    let columns : total p.cols (λ j. (p.c j *ℤ pos e) *ℤ pos (y j)) ≤ℤ total p.cols (λ j. column_times p j x *ℤ pos (y j))
    = total-mono p.cols (λ j. (p.c j *ℤ pos e) *ℤ pos (y j)) (λ j. column_times p j x *ℤ pos (y j))
    (λ j h. times_mono (p.c j *ℤ pos e) (column_times p j x) (y j) (prices.columns_hold j h)) in
    let rows : total p.rows (λ i. row_times p i y *ℤ pos (x i)) ≤ℤ total p.rows (λ i. (p.b i *ℤ pos d) *ℤ pos (x i))
    = total-mono p.rows (λ i. row_times p i y *ℤ pos (x i)) (λ i. (p.b i *ℤ pos d) *ℤ pos (x i))
    (λ i h. times_mono (row_times p i y) (p.b i *ℤ pos d) (x i) (point.rows_hold i h)) in
    let right : total p.rows (λ i. (p.b i *ℤ pos d) *ℤ pos (x i)) ≡ (value_of_prices p x *ℤ pos d)
    = total-same p.rows (λ i. (p.b i *ℤ pos d) *ℤ pos (x i)) (λ i. (p.b i *ℤ pos (x i)) *ℤ pos d) (λ i _. turn (p.b i) (pos d) (pos (x i)))
    ∙ total-scale p.rows (λ i. p.b i *ℤ pos (x i)) (pos d) in
    chain (value_of p y *ℤ pos e) (total p.cols (λ j. (p.c j *ℤ pos e) *ℤ pos (y j))) (total p.cols (λ j. column_times p j x *ℤ pos (y j)))
    (total p.rows (λ i. row_times p i y *ℤ pos (x i))) (total p.rows (λ i. (p.b i *ℤ pos d) *ℤ pos (x i))) (value_of_prices p x *ℤ pos d)
    left columns (by_rows p y x) rows right

pub best_point : (p : LinearProgram) (den : ℕ) (y x : ℕ → ℕ) → IsEqualPair p den y x → IsBestPoint p den y
best_point p den y x pair = record {
  feasible = pair.point;
  no_greater = λ d z feasible. subst (λ (v : ℤ). (value_of p z *ℤ pos den) ≤ℤ (v *ℤ pos d)) (sym pair.equal) (weak_duality p d den z x feasible pair.prices);
}

pub best_prices : (p : LinearProgram) (den : ℕ) (y x : ℕ → ℕ) → IsEqualPair p den y x → IsBestPrices p den x
best_prices p den y x pair = record {
  feasible = pair.prices;
  no_lower = λ d w feasible. subst (λ (v : ℤ). (v *ℤ pos d) ≤ℤ (value_of_prices p w *ℤ pos den)) pair.equal (weak_duality p den d y w pair.point feasible);
}

-- ---- a ray

-- the point y + k r
along : (y r : ℕ → ℕ) → ℕ → ℕ → ℕ
along y r k j = y j + r j * k

spread : (a : ℤ) (y r k : ℕ) → a *ℤ pos (y + r * k) ≡ (a *ℤ pos y) +ℤ ((a *ℤ pos r) *ℤ pos k)
spread a y r k =
    let split = times_plus a (pos y) (pos (r * k)) in
    let group = times_assoc a (pos r) (pos k) in
    omega (arith, ints, split, group)

total-along : (n : ℕ) (a : ℕ → ℤ) (y r : ℕ → ℕ) (k : ℕ) → total n (λ j. a j *ℤ pos (along y r k j)) ≡ total n (λ j. a j *ℤ pos (y j)) +ℤ (total n (λ j. a j *ℤ pos (r j)) *ℤ pos k)
unfolding along
total-along n a y r k =
    total-same n (λ j. a j *ℤ pos (y j + r j * k)) (λ j. (a j *ℤ pos (y j)) +ℤ ((a j *ℤ pos (r j)) *ℤ pos k)) (λ j _. spread (a j) (y j) (r j) k)
    ∙ total-add n (λ j. a j *ℤ pos (y j)) (λ j. (a j *ℤ pos (r j)) *ℤ pos k)
    ∙ ap (λ z. total n (λ j. a j *ℤ pos (y j)) +ℤ z) (total-scale n (λ j. a j *ℤ pos (r j)) (pos k))

still_below : (s t b z : ℤ) (k : ℕ) → s ≡ t +ℤ (z *ℤ pos k) → t ≤ℤ b → z ≤ℤ pos 0 → s ≤ℤ b
still_below s t b z k e h l = let m : (z *ℤ pos k) ≤ℤ (pos 0 *ℤ pos k) = times_mono z (pos 0) k l in omega (arith, ints)

along_feasible : (p : LinearProgram) (den : ℕ) (y r : ℕ → ℕ) (k : ℕ) → IsFeasiblePoint p den y → IsRay p r → IsFeasiblePoint p den (along y r k)
along_feasible p den y r k point ray = record {
  den_positive = point.den_positive;
  rows_hold = λ i h. still_below (row_times p i (along y r k)) (row_times p i y) (p.b i *ℤ pos den) (row_times p i r) k
      (total-along p.cols (p.a i) y r k) (point.rows_hold i h) (ray.rows_hold i h);
}

-- steps enough along the ray for the value n / d
steps_for : (n v : ℤ) → ℕ → ℕ
steps_for n v den = unsigned_abs n * den + unsigned_abs v + 1

reached : (v s w : ℤ) (a top : ℕ) → pos 0 ≤ℤ (v +ℤ pos a) → pos (top + a + 1) ≤ℤ s → w ≡ v +ℤ s → pos (top + 1) ≤ℤ w
reached v s w a top h k e = omega (arith, ints)

passes : (s t : ℤ) (top d : ℕ) → 0 < d → s ≤ℤ pos top → pos ((top + 1) * d) ≤ℤ t → s <ℤ t
passes s t top d positive h k =
    let more : top + 1 ≤ (top + 1) * d = le-mul_of_pos_right (top + 1) positive in
    omega (arith, ints)

far : (n v g w : ℤ) (d den : ℕ) → 0 < d → pos 0 <ℤ g → w ≡ v +ℤ (g *ℤ pos (steps_for n v den)) → (n *ℤ pos den) <ℤ (w *ℤ pos d)
unfolding steps_for
far n v g w d den hd hg e =
    let top : ℕ = unsigned_abs n * den in
    let gained : pos (top + unsigned_abs v + 1) ≤ℤ (g *ℤ pos (top + unsigned_abs v + 1)) = times_at_least g (top + unsigned_abs v + 1) hg in
    let start : pos 0 ≤ℤ (v +ℤ pos (unsigned_abs v)) = above_abs v in
    let low : pos (top + 1) ≤ℤ w = reached v (g *ℤ pos (top + unsigned_abs v + 1)) w (unsigned_abs v) top start gained e in
    let scaled : (pos (top + 1) *ℤ pos d) ≤ℤ (w *ℤ pos d) = times_mono (pos (top + 1)) w d low in
    let small : (n *ℤ pos den) ≤ℤ (pos (unsigned_abs n) *ℤ pos den) = times_mono n (pos (unsigned_abs n)) den (below_abs n) in
    passes (n *ℤ pos den) (w *ℤ pos d) top d hd small scaled

pub no_bound : (p : LinearProgram) (den : ℕ) (y r : ℕ → ℕ) → IsFeasiblePoint p den y → IsRay p r → HasNoBound p
no_bound p den y r point ray n d positive =
    let k : ℕ = steps_for n (value_of p y) den in
    record {
      den = den;
      point = along y r k;
      feasible = along_feasible p den y r k point ray;
      above = far n (value_of p y) (value_of p r) (value_of p (along y r k)) d den positive ray.gains (total-along p.cols p.c y r k);
    }
