-- One item more that a search has passed over.
use Rattle.std.proofs.Common.{◌≡◌, ◌<◌, ℕ, zero, suc, Bool, true, false, List, [], ◌∷◌, None, length, take, slice_index_or, refl, arith}
use Rattle.std.specs.List.{find}

pub none_more : {X : Type 0} (test : X → Bool) (xs : List X) (i : ℕ) (d : X) → find test (take i xs) ≡ None → test (slice_index_or xs i d) ≡ false → i < length xs → find test (take (suc i) xs) ≡ None
none_more test [] i d none fails within = absurd (omega (arith, within))
none_more test (x ∷ xs) zero d none fails within = rw fails refl
none_more test (x ∷ xs) (suc i) d none fails within =
    go (test x) refl (λ rest. none_more test xs i d rest fails (omega (arith, within)))
  where
    go : (b : Bool) → test x ≡ b → (find test (take i xs) ≡ None → find test (take (suc i) xs) ≡ None)
        → find test (take (suc (suc i)) (x ∷ xs)) ≡ None
    go true is later = absurd (let wrong = rw is at none in cc)
    go false is later = let rest = rw is at none in rw is (later rest)
