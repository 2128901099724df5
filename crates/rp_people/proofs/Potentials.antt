-- Where no closed walk falls, every observation has a potential such that no step leads to more than the potential before
-- it and the step's weight (Rockafellar 1970, section 24; the least weights between two observations let these in one by
-- one, after Floyd 1962 and Warshall 1962). The weights are of any kind that is ordered and composed: sums of whole
-- numbers, and products of positive fractions.
use Rattle.std.proofs.Common.{ℕ, zero, suc, ◌<◌, ◌≤◌, ◌⊎◌, inl, inr, List, [], ◌∷◌, ◌++◌, refl, sym, subst, arith}
use Rattle.std.proofs.lemmas.Bool.{cases_eq}
use Rattle.rp_evidence.specs.Walk.{AnyStep, LeadsTo}
use Rattle.rp_evidence.proofs.Walks.{leads_on}

pub record AreWeights (G : Type 0) (leq : G → G → Type 0) (plus : G → G → G) (none : G) : Type 0 where
  pub either : (x y : G) → leq x y ⊎ leq y x
  pub through : (x y z : G) → leq x y → leq y z → leq x z
  pub both : (x y z w : G) → leq x y → leq z w → leq (plus x z) (plus y w)
  pub to_left : (x y z : G) → leq (plus x (plus y z)) (plus (plus x y) z)
  pub to_right : (x y z : G) → leq (plus (plus x y) z) (plus x (plus y z))
  pub none_before : (x : G) → leq x (plus none x)
  pub none_after : (x : G) → leq x (plus x none)
  pub after_none : (x : G) → leq (plus x none) x

module _ (G : Type 0) (leq : G → G → Type 0) (plus : G → G → G) (none : G) (weights : AreWeights G leq plus none) where
  itself : (x : G) → leq x x
  itself x = elim (weights.either x x) [ inl h ↦ h | inr h ↦ h ]

  -- the lesser of two
  pick : (x y : G) → leq x y ⊎ leq y x → G
  pick x y (inl h) = x
  pick x y (inr h) = y

  lesser : G → G → G
  lesser x y = pick x y (weights.either x y)

  lesser_first : (x y : G) → leq (lesser x y) x
  unfolding lesser pick
  lesser_first x y = go (weights.either x y)
    where
      go : (h : leq x y ⊎ leq y x) → leq (pick x y h) x
      go (inl h) = itself x
      go (inr h) = h

  lesser_second : (x y : G) → leq (lesser x y) y
  unfolding lesser pick
  lesser_second x y = go (weights.either x y)
    where
      go : (h : leq x y ⊎ leq y x) → leq (pick x y h) y
      go (inl h) = h
      go (inr h) = itself y

  lesser_is : (P : G → Type 0) (x y : G) → P x → P y → P (lesser x y)
  unfolding lesser pick
  lesser_is P x y p q = go (weights.either x y)
    where
      go : (h : leq x y ⊎ leq y x) → P (pick x y h)
      go (inl h) = p
      go (inr h) = q

  module _ (weight : ℕ → ℕ → G) where
    -- the weight of a walk
    abbrev pub along : ℕ → List ℕ → G
    along t [] = none
    along t (s ∷ rest) = plus (weight t s) (along s rest)

    -- the least weight of the ways from t to s through observations below k
    least : ℕ → ℕ → ℕ → G
    least zero t s = weight t s
    least (suc k) t s = lesser (least k t s) (plus (least k t k) (least k k s))

    along_on : (n t m : ℕ) (v w : List ℕ) → LeadsTo n AnyStep t m v → leq (along t (v ++ w)) (plus (along t v) (along m w))
    along_on n t m [] w h = subst (λ z. leq (along t w) (plus none (along z w))) h.1 (weights.none_before (along t w))
    along_on n t m (x ∷ v) w h =
        weights.through (plus (weight t x) (along x (v ++ w))) (plus (weight t x) (plus (along x v) (along m w))) (plus (plus (weight t x) (along x v)) (along m w))
        (weights.both (weight t x) (weight t x) (along x (v ++ w)) (plus (along x v) (along m w)) (itself (weight t x)) (along_on n x m v w h.2))
        (weights.to_left (weight t x) (along x v) (along m w))

    -- some walk of one or more steps has at most that weight
    record IsWalked (n t s : ℕ) (bound : G) : Type 0 where
      next : ℕ
      rest : List ℕ
      leads : LeadsTo n AnyStep t s (next ∷ rest)
      within : leq (along t (next ∷ rest)) bound

    walked_on : (n t m s : ℕ) (x y : G) → IsWalked n t m x → IsWalked n m s y → IsWalked n t s (plus x y)
    walked_on n t m s x y a b = record {
      next = a.next;
      rest = a.rest ++ b.next ∷ b.rest;
      leads = leads_on n AnyStep t m s (a.next ∷ a.rest) (b.next ∷ b.rest) a.leads b.leads;
      within =
          weights.through (along t (a.next ∷ a.rest ++ b.next ∷ b.rest)) (plus (along t (a.next ∷ a.rest)) (along m (b.next ∷ b.rest))) (plus x y)
          (along_on n t m (a.next ∷ a.rest) (b.next ∷ b.rest) a.leads)
          (weights.both (along t (a.next ∷ a.rest)) x (along m (b.next ∷ b.rest)) y a.within b.within);
    }

    least_is_walked : (n k t s : ℕ) → k ≤ n → t < n → s < n → IsWalked n t s (least k t s)
    unfolding least
    least_is_walked n zero t s few a b = record { next = s; rest = []; leads = (a, tt, (b, refl)); within = weights.after_none (weight t s) }
    least_is_walked n (suc k) t s few a b =
        lesser_is (IsWalked n t s) (least k t s) (plus (least k t k) (least k k s)) (least_is_walked n k t s (omega arith) a b)
        (walked_on n t k s (least k t k) (least k k s) (least_is_walked n k t k (omega arith) a (omega arith)) (least_is_walked n k k s (omega arith) (omega arith) b))

    below_step : (k t s : ℕ) → leq (least k t s) (weight t s)
    unfolding least
    below_step zero t s = itself (weight t s)
    below_step (suc k) t s =
        weights.through (lesser (least k t s) (plus (least k t k) (least k k s))) (least k t s) (weight t s)
        (lesser_first (least k t s) (plus (least k t k) (least k k s))) (below_step k t s)

    module _ (n : ℕ) (holds : (s x : ℕ) (rest : List ℕ) → LeadsTo n AnyStep s s (x ∷ rest) → leq none (along s (x ∷ rest))) where
      never_falls : (k t : ℕ) → k ≤ n → t < n → leq none (least k t t)
      never_falls k t few a =
          let w = least_is_walked n k t t few a a in
          weights.through none (along t (w.next ∷ w.rest)) (least k t t) (holds t w.next w.rest w.leads) w.within

      -- no way round through m is shorter
      abbrev IsShortest : ℕ → ℕ → ℕ → ℕ → Type 0
      IsShortest k m t s = leq (least k t s) (plus (least k t m) (least k m s))

      module _ (k : ℕ) (few : k < n) (before : (t s m : ℕ) → t < n → s < n → m < k → IsShortest k m t s) where
        -- to k and from k nothing is gained by a way through k
        to_last : (t : ℕ) → t < n → leq (least k t k) (least (suc k) t k)
        unfolding least
        to_last t a =
            lesser_is (λ z. leq (least k t k) z) (least k t k) (plus (least k t k) (least k k k)) (itself (least k t k))
            (weights.through (least k t k) (plus (least k t k) none) (plus (least k t k) (least k k k)) (weights.none_after (least k t k))
            (weights.both (least k t k) (least k t k) none (least k k k) (itself (least k t k)) (never_falls k k (omega arith) few)))

        from_last : (s : ℕ) → s < n → leq (least k k s) (least (suc k) k s)
        unfolding least
        from_last s b =
            lesser_is (λ z. leq (least k k s) z) (least k k s) (plus (least k k k) (least k k s)) (itself (least k k s))
            (weights.through (least k k s) (plus none (least k k s)) (plus (least k k k) (least k k s)) (weights.none_before (least k k s))
            (weights.both none (least k k k) (least k k s) (least k k s) (never_falls k k (omega arith) few) (itself (least k k s))))

        through_last : (t s : ℕ) → leq (least (suc k) t s) (plus (least k t k) (least k k s))
        unfolding least
        through_last t s = lesser_second (least k t s) (plus (least k t k) (least k k s))

        straight : (t s : ℕ) → leq (least (suc k) t s) (least k t s)
        unfolding least
        straight t s = lesser_first (least k t s) (plus (least k t k) (least k k s))

        by_last : (t s : ℕ) → t < n → s < n → IsShortest (suc k) k t s
        by_last t s a b =
            weights.through (least (suc k) t s) (plus (least k t k) (least k k s)) (plus (least (suc k) t k) (least (suc k) k s)) (through_last t s)
            (weights.both (least k t k) (least (suc k) t k) (least k k s) (least (suc k) k s) (to_last t a) (from_last s b))

        module _ (t s m : ℕ) (a : t < n) (b : s < n) (l : m < k) where
          in_m : m < n
          in_m = omega arith

          -- to m through k
          first_round : leq (least (suc k) t s) (plus (plus (least k t k) (least k k m)) (least k m s))
          first_round =
              weights.through (least (suc k) t s) (plus (least k t k) (least k k s)) (plus (plus (least k t k) (least k k m)) (least k m s)) (through_last t s)
              (weights.through (plus (least k t k) (least k k s)) (plus (least k t k) (plus (least k k m) (least k m s))) (plus (plus (least k t k) (least k k m)) (least k m s))
              (weights.both (least k t k) (least k t k) (least k k s) (plus (least k k m) (least k m s)) (itself (least k t k)) (before k s m few b l))
              (weights.to_left (least k t k) (least k k m) (least k m s)))

          -- from m through k
          second_round : leq (least (suc k) t s) (plus (least k t m) (plus (least k m k) (least k k s)))
          second_round =
              weights.through (least (suc k) t s) (plus (least k t k) (least k k s)) (plus (least k t m) (plus (least k m k) (least k k s))) (through_last t s)
              (weights.through (plus (least k t k) (least k k s)) (plus (plus (least k t m) (least k m k)) (least k k s)) (plus (least k t m) (plus (least k m k) (least k k s)))
              (weights.both (least k t k) (plus (least k t m) (least k m k)) (least k k s) (least k k s) (before t k m a few l) (itself (least k k s)))
              (weights.to_right (least k t m) (least k m k) (least k k s)))

          -- both: the way from k to k between does not fall
          both_rounds : leq (least (suc k) t s) (plus (plus (least k t k) (least k k m)) (plus (least k m k) (least k k s)))
          both_rounds =
              let round : leq none (plus (least k k m) (least k m k)) =
              weights.through none (least k k k) (plus (least k k m) (least k m k)) (never_falls k k (omega arith) few) (before k k m few few l) in
              weights.through (least (suc k) t s) (plus (least k t k) (least k k s)) (plus (plus (least k t k) (least k k m)) (plus (least k m k) (least k k s))) (through_last t s)
              (weights.through (plus (least k t k) (least k k s)) (plus (least k t k) (plus (plus (least k k m) (least k m k)) (least k k s))) (plus (plus (least k t k) (least k k m)) (plus (least k m k) (least k k s)))
              (weights.both (least k t k) (least k t k) (least k k s) (plus (plus (least k k m) (least k m k)) (least k k s)) (itself (least k t k))
              (weights.through (least k k s) (plus none (least k k s)) (plus (plus (least k k m) (least k m k)) (least k k s)) (weights.none_before (least k k s))
              (weights.both none (plus (least k k m) (least k m k)) (least k k s) (least k k s) round (itself (least k k s)))))
              (weights.through (plus (least k t k) (plus (plus (least k k m) (least k m k)) (least k k s))) (plus (least k t k) (plus (least k k m) (plus (least k m k) (least k k s)))) (plus (plus (least k t k) (least k k m)) (plus (least k m k) (least k k s)))
              (weights.both (least k t k) (least k t k) (plus (plus (least k k m) (least k m k)) (least k k s)) (plus (least k k m) (plus (least k m k) (least k k s))) (itself (least k t k)) (weights.to_right (least k k m) (least k m k) (least k k s)))
              (weights.to_left (least k t k) (least k k m) (plus (least k m k) (least k k s)))))

          by_earlier : IsShortest (suc k) m t s
          unfolding least
          by_earlier =
              lesser_is (λ z. leq (least (suc k) t s) (plus z (least (suc k) m s))) (least k t m) (plus (least k t k) (least k k m))
              (lesser_is (λ z. leq (least (suc k) t s) (plus (least k t m) z)) (least k m s) (plus (least k m k) (least k k s))
              (weights.through (least (suc k) t s) (least k t s) (plus (least k t m) (least k m s)) (straight t s) (before t s m a b l)) second_round)
              (lesser_is (λ z. leq (least (suc k) t s) (plus (plus (least k t k) (least k k m)) z)) (least k m s) (plus (least k m k) (least k k s)) first_round both_rounds)

      shortest : (k : ℕ) → k ≤ n → (t s m : ℕ) → t < n → s < n → m < k → IsShortest k m t s
      shortest zero few t s m a b l = absurd (omega arith)
      shortest (suc k) few t s m a b l =
          let before = shortest k (omega arith) in
          elim (cases_eq m k) [
            | inl e ↦ subst (λ z. IsShortest (suc k) z t s) (sym e) (by_last k few before t s a b)
            | inr d ↦ by_earlier k few before t s m a b (omega arith)
          ]

      -- the least weights from the first observation
      pub potentials : 0 < n → (potential : ℕ → G) × ((t s : ℕ) → t < n → s < n → leq (potential s) (plus (potential t) (weight t s)))
      potentials some = (
        λ s. least n 0 s,
        λ t s a b.
            weights.through (least n 0 s) (plus (least n 0 t) (least n t s)) (plus (least n 0 t) (weight t s))
            (shortest n (omega arith) 0 s t some b a)
            (weights.both (least n 0 t) (least n 0 t) (least n t s) (weight t s) (itself (least n 0 t)) (below_step n t s)),
      )
