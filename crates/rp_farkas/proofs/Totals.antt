-- Laws of finite sums of whole numbers.
use Rattle.std.proofs.Common.{◌≡◌, ℕ, zero, suc, ◌+◌, ◌<◌, ℤ, pos, ◌+ℤ◌, ◌*ℤ◌, ◌≤ℤ◌, refl, sym, ◌∙◌, ap, arith, add-one}
use Rattle.std.proofs.lemmas.Int.{ints}
use Rattle.rp_farkas.specs.Total.{total}
use Rattle.rp_farkas.proofs.Integers.{plus_times}

pub total-suc : (n : ℕ) (f : ℕ → ℤ) → total (n + 1) f ≡ total n f +ℤ f n
unfolding total
total-suc n f = rw add-one refl

pub total-same : (n : ℕ) (f g : ℕ → ℤ) → ((k : ℕ) → k < n → f k ≡ g k) → total n f ≡ total n g
unfolding total
total-same zero f g h = refl
total-same (suc n) f g h =
    let e = total-same n f g (λ k l. h k (omega arith)) in
    let here : f n ≡ g n = h n (omega arith) in
    cc

pub total-zero : (n : ℕ) → total n (λ _. pos 0) ≡ pos 0
unfolding total
total-zero zero = refl
total-zero (suc n) = omega (arith, ints, total-zero n)

pub total-add : (n : ℕ) (f g : ℕ → ℤ) → total n (λ k. f k +ℤ g k) ≡ total n f +ℤ total n g
unfolding total
total-add zero f g = refl
total-add (suc n) f g = omega (arith, ints, total-add n f g)

pub total-scale : (n : ℕ) (f : ℕ → ℤ) (z : ℤ) → total n (λ k. f k *ℤ z) ≡ total n f *ℤ z
unfolding total
total-scale zero f z = omega (arith, ints)
total-scale (suc n) f z = ap (λ w. w +ℤ f n *ℤ z) (total-scale n f z) ∙ sym (plus_times (total n f) (f n) z)

pub total-mono : (n : ℕ) (f g : ℕ → ℤ) → ((k : ℕ) → k < n → f k ≤ℤ g k) → total n f ≤ℤ total n g
unfolding total
total-mono zero f g h = omega (arith, ints)
total-mono (suc n) f g h =
    let below : total n f ≤ℤ total n g = total-mono n f g (λ k l. h k (omega arith)) in
    let here : f n ≤ℤ g n = h n (omega arith) in
    omega (arith, ints)

pub total-swap : (m n : ℕ) (f : ℕ → ℕ → ℤ) → total m (λ i. total n (λ j. f i j)) ≡ total n (λ j. total m (λ i. f i j))
unfolding total
total-swap zero n f = sym (total-zero n)
total-swap (suc m) n f =
    ap (λ z. z +ℤ total n (λ j. f m j)) (total-swap m n f)
    ∙ sym (total-add n (λ j. total m (λ i. f i j)) (λ j. f m j))
