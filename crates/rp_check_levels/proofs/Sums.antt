-- Sums, added as a loop goes, and walks that go by steps, by their places.
use Rattle.std.proofs.Common.{◌≡◌, ◌<◌, ◌≤◌, ◌+◌, ◌-◌, ◌*◌, ◌^◌, ◌||◌, ◌⊎◌, ℕ, zero, suc, Bool, true, false, List, [], ◌∷◌, inl, inr, refl, sym, ap, subst, ◌∙◌, arith, add-one, length, take, slice_index, if◌then◌else◌}
use Rattle.std.specs.Prelude.{◌↔◌, IsTrue}
use Rattle.std.proofs.lemmas.Bool.{false≢true}
use Rattle.std.proofs.lemmas.List.Sums.{sum_by_more}
use Rattle.rp_table.specs.Sums.{sum_below}
use Rattle.rp_fit.specs.WeightedWalks.{goes_by, goes_from, weight_by}
use Rattle.rp_fit.specs.declared.weighted.WeightedWalk.{WeightedWalk}
use Rattle.rp_check_levels.specs.WalksFailure.{walk_at}

-- a turn of the loop that adds the weight of a walk, where it goes by these steps
pub weight_more : (these : ℕ → ℕ → Bool) (walks : List WeightedWalk) (k weight added new : ℕ) → k < length walks → added ≡ (if goes_by these (walk_at walks k).walk then (walk_at walks k).weight else 0) → added ≤ 2 ^ 64
    → (weight ≡ weight_by these (take k walks)) × (weight ≤ k * 2 ^ 64) → new ≡ weight + added → (new ≡ weight_by these (take (k + 1) walks)) × (new ≤ (k + 1) * 2 ^ 64)
weight_more these walks k weight added new within is small so_far adds = (
  adds ∙ ap (λ w. w + added) so_far.0 ∙ ap (λ a. weight_by these (take k walks) + a) is
      ∙ sym (sum_by_more (λ (each : WeightedWalk). if goes_by these each.walk then each.weight else 0) walks k (record { weight = 0; walk = [] }) within),
  omega (arith, adds, small, so_far.1),
)

-- a turn of the loop that adds a number
pub sum_more : (f : ℕ → ℕ) (k sum added new most : ℕ) → (sum ≡ sum_below k f) × (sum ≤ k * most) → added ≡ f k → added ≤ most → new ≡ sum + added → (new ≡ sum_below (k + 1) f) × (new ≤ (k + 1) * most)
sum_more f k sum added new most so_far is small adds =
    let e : sum_below (k + 1) f ≡ sum_below k f + f k = rw add-one refl in
    (omega (arith, e, so_far.0, is, adds), omega (arith, so_far.1, small, adds))

-- ---- by places

module _ (these : ℕ → ℕ → Bool) where
  or_left : (a b : Bool) → a ≡ true → (a || b) ≡ true
  or_left true b h = refl
  or_left false b h = absurd (false≢true h)

  or_right : (a b : Bool) → b ≡ true → (a || b) ≡ true
  or_right true b h = refl
  or_right false b h = h

  goes_at : (x : ℕ) (w : List ℕ) (k : ℕ) → k < length w → these (slice_index (x ∷ w) k) (slice_index (x ∷ w) (suc k)) ≡ true → goes_from these x w ≡ true
  goes_at x [] k l h = absurd (omega arith)
  goes_at x (y ∷ w) zero l h = or_left (these x y) (goes_from these y w) h
  goes_at x (y ∷ w) (suc k) l h = or_right (these x y) (goes_from these y w) (goes_at y w k (omega arith) h)

  place_of : (x : ℕ) (w : List ℕ) → goes_from these x w ≡ true → (k : ℕ) × (k < length w) × (these (slice_index (x ∷ w) k) (slice_index (x ∷ w) (suc k)) ≡ true)
  place_of x [] h = absurd (false≢true h)
  place_of x (y ∷ w) h = go (these x y) refl (λ g. place_of y w g) h
    where
      go : (b : Bool) → these x y ≡ b → (goes_from these y w ≡ true → (k : ℕ) × (k < length w) × (these (slice_index (y ∷ w) k) (slice_index (y ∷ w) (suc k)) ≡ true)) → (b || goes_from these y w) ≡ true
          → (k : ℕ) × (k < suc (length w)) × (these (slice_index (x ∷ y ∷ w) k) (slice_index (x ∷ y ∷ w) (suc k)) ≡ true)
      go true e later h = (0, omega arith, e)
      go false e later h = let r = later h in (suc r.0, omega (arith, r.1), r.2)

  same_truth : (r g : Bool) → (r ≡ true → g ≡ true) → (g ≡ true → r ≡ true) → r ≡ g
  same_truth true true f h = refl
  same_truth false false f h = refl
  same_truth true false f h = sym (f refl)
  same_truth false true f h = h refl

  pub goes_by_places : (walk : List ℕ) (r : Bool) → (IsTrue r ↔ ((k : ℕ) × (k < length walk - 1) × IsTrue (these (slice_index walk k) (slice_index walk (k + 1))))) → r ≡ goes_by these walk
  goes_by_places [] r h = same_truth r false (λ t. absurd (omega (arith, (h.0 t).1))) (λ t. absurd (false≢true t))
  goes_by_places (x ∷ w) r h = same_truth r (goes_from these x w) there back
    where
      there : r ≡ true → goes_from these x w ≡ true
      there t = let k = h.0 t in goes_at x w k.0 (omega (arith, k.1)) (rw add-one at k.2)

      back : goes_from these x w ≡ true → r ≡ true
      back g = let k = place_of x w g in h.1 (k.0, omega (arith, k.1), rw add-one k.2)
