-- Closed walks of weak steps by their places.
use Rattle.std.proofs.Common.{◌≡◌, ◌<◌, ◌≤◌, ◌+◌, ◌-◌, ℕ, suc, List, [], ◌∷◌, length, refl, sym, subst, arith, add-one, slice_index}
use Rattle.rp_evidence.specs.Preference.{IsWeak}
use Rattle.rp_evidence.specs.Walk.{IsClosedWalk, LeadsTo}
use Rattle.rp_evidence.proofs.Places.{below_at, ends_at, leads_by_places, step_at}

pub closed_by_places : (n : ℕ) (c : ℕ → ℕ → ℕ) (walk : List ℕ) → 1 < length walk → ((k : ℕ) → k < length walk → slice_index walk k < n) → ((k : ℕ) → k < length walk - 1 → IsWeak c (slice_index walk k) (slice_index walk (k + 1))) → slice_index walk 0 ≡ slice_index walk (length walk - 1) → IsClosedWalk n (IsWeak c) walk
closed_by_places n c [] some observed weak closed = absurd (omega arith)
closed_by_places n c (x ∷ rest) some observed weak closed =
    let p : suc (length rest) - 1 ≡ length rest = omega arith in
    let e : slice_index (x ∷ rest) (length rest) ≡ x = sym (subst (λ k. x ≡ slice_index (x ∷ rest) k) p closed) in
    let l = leads_by_places n (IsWeak c) x rest observed (λ k h. rw add-one at (weak k (omega arith))) in
    (x, (refl, subst (λ z. LeadsTo n (IsWeak c) x z rest) e l), some)

pub leads_closed : (n : ℕ) (c : ℕ → ℕ → ℕ) (x : ℕ) (rest : List ℕ) → IsClosedWalk n (IsWeak c) (x ∷ rest) → LeadsTo n (IsWeak c) x x rest
leads_closed n c x rest w = subst (λ s. LeadsTo n (IsWeak c) x s rest) (sym w.1.0) w.1.1

pub closed_observed : (n : ℕ) (c : ℕ → ℕ → ℕ) (walk : List ℕ) → IsClosedWalk n (IsWeak c) walk → ((k : ℕ) → k < length walk → slice_index walk k < n)
closed_observed n c [] w = absurd w.1
closed_observed n c (x ∷ rest) w = below_at n (IsWeak c) x x rest (leads_closed n c x rest w)

pub closed_weak : (n : ℕ) (c : ℕ → ℕ → ℕ) (walk : List ℕ) → IsClosedWalk n (IsWeak c) walk → ((k : ℕ) → k < length walk - 1 → IsWeak c (slice_index walk k) (slice_index walk (k + 1)))
closed_weak n c [] w = absurd w.1
closed_weak n c (x ∷ rest) w = λ k h. rw add-one (step_at n (IsWeak c) x x rest (leads_closed n c x rest w) k (omega arith))

pub closed_ends : (n : ℕ) (c : ℕ → ℕ → ℕ) (walk : List ℕ) → IsClosedWalk n (IsWeak c) walk → slice_index walk 0 ≡ slice_index walk (length walk - 1)
closed_ends n c [] w = absurd w.1
closed_ends n c (x ∷ rest) w =
    let p : length rest ≡ suc (length rest) - 1 = omega arith in
    subst (λ k. x ≡ slice_index (x ∷ rest) k) p (sym (ends_at n (IsWeak c) x x rest (leads_closed n c x rest w)))
