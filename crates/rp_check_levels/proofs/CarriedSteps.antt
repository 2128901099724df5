-- Walks all of whose steps are strict, some of which are of a kind: what leaves each observation by these.
use Rattle.std.proofs.Common.{◌≡◌, ◌<◌, ◌≤◌, ◌+◌, ◌*◌, ◌||◌, ◌&&◌, ◌==◌, ◌⊎◌, ℕ, zero, suc, Bool, true, false, List, [], ◌∷◌, inl, inr, refl, sym, ap, subst, ◌∙◌, arith, eq-eqb, if◌then◌else◌}
use Rattle.std.proofs.lemmas.Bool.{false≢true}
use Rattle.std.proofs.lemmas.Bool.Decides.{Decides-eqb}
use Rattle.rp_table.specs.Sums.{sum_below}
use Rattle.rp_evidence.specs.Preference.{IsStrict}
use Rattle.rp_evidence.specs.Walk.{IsClosedWalk, LeadsTo}
use Rattle.rp_fit.specs.WeightedWalks.{goes_by, goes_from, weight_by, weight_of_all}
use Rattle.rp_fit.specs.declared.weighted.WeightedWalk.{WeightedWalk}
use Rattle.rp_check_levels.proofs.Carried.{All_walks, IsCarried, part_of, step_of_walk, weight_by_one, weight_is_carried, weight_is_monotone}

-- ---- truth values

pub and_true : (a b : Bool) → a ≡ true → b ≡ true → (a && b) ≡ true
and_true true b h k = k
and_true false b h k = absurd (false≢true h)

pub and_first : (a b : Bool) → (a && b) ≡ true → a ≡ true
and_first true b h = refl
and_first false b h = absurd (false≢true h)

pub and_second : (a b : Bool) → (a && b) ≡ true → b ≡ true
and_second true b h = h
and_second false b h = absurd (false≢true h)

or_neither : (a b : Bool) → (a || b) ≡ false → (a ≡ false) × (b ≡ false)
or_neither true b h = absurd (false≢true (sym h))
or_neither false b h = (refl, h)

-- ---- walks of none of these steps

pub leads_by_none : (n : ℕ) (step : ℕ → ℕ → Type 0) (these : ℕ → ℕ → Bool) (s t : ℕ) (w : List ℕ) → LeadsTo n step s t w → goes_from these s w ≡ false → LeadsTo n (λ a b. step a b × (these a b ≡ false)) s t w
leads_by_none n step these s t [] h g = h
leads_by_none n step these s t (x ∷ w) h g =
    let e = or_neither (these s x) (goes_from these x w) g in
    (h.0, (h.1, e.0), leads_by_none n step these x t w h.2 e.1)

pub closes_by_none : (n : ℕ) (step : ℕ → ℕ → Type 0) (these : ℕ → ℕ → Bool) (walk : List ℕ) → IsClosedWalk n step walk → goes_by these walk ≡ false → IsClosedWalk n (λ a b. step a b × (these a b ≡ false)) walk
closes_by_none n step these [] closed g = absurd closed.1
closes_by_none n step these (x ∷ w) closed g = (closed.0, (closed.1.0, leads_by_none n step these x closed.0 w closed.1.1 g), closed.2)

pub goes_or_not : (these : ℕ → ℕ → Bool) (walk : List ℕ) → (goes_by these walk ≡ true) ⊎ (goes_by these walk ≡ false)
goes_or_not these walk = go (goes_by these walk)
  where
    go : (b : Bool) → (b ≡ true) ⊎ (b ≡ false)
    go true = inl refl
    go false = inr refl

-- ---- what leaves an observation

-- the step from a to b is one of these, and a is s
abbrev pub leaves_by : (ℕ → ℕ → Bool) → ℕ → ℕ → ℕ → Bool
leaves_by these s a b = (a == s) && these a b

abbrev pub AreStrict : ℕ → (ℕ → ℕ → ℕ) → List WeightedWalk → Type 0
AreStrict n c walks = All_walks walks (λ each. IsClosedWalk n (IsStrict c) each.walk)

pub all_of : (walks : List WeightedWalk) (P Q : WeightedWalk → Type 0) → ((each : WeightedWalk) → P each → Q each) → All_walks walks P → All_walks walks Q
all_of [] P Q f all = tt
all_of (each ∷ walks) P Q f all = (f each all.0, all_of walks P Q f all.1)

pub weight_leaves : (n : ℕ) (c : ℕ → ℕ → ℕ) (these : ℕ → ℕ → Bool) (walks : List WeightedWalk) → AreStrict n c walks → weight_by these walks ≤ sum_below n (λ s. weight_by (leaves_by these s) walks)
weight_leaves n c these walks strict =
    weight_is_carried n these (leaves_by these) walks (all_of walks (λ each. IsClosedWalk n (IsStrict c) each.walk) (IsCarried n these (leaves_by these)) carried strict)
  where
    carried : (each : WeightedWalk) → IsClosedWalk n (IsStrict c) each.walk → IsCarried n these (leaves_by these) each
    carried each closed g =
        let r = step_of_walk n (IsStrict c) these each.walk closed g in
        (r.0, r.2, r.6 (leaves_by these r.0) (and_true (r.0 == r.0) (these r.0 r.1) (eq-eqb r.0 r.0 refl) r.5))

-- no strict step is one of these
pub weight_of_none : (n : ℕ) (c : ℕ → ℕ → ℕ) (these : ℕ → ℕ → Bool) (walks : List WeightedWalk) → AreStrict n c walks → ((a b : ℕ) → a < n → b < n → IsStrict c a b → ¬ (these a b ≡ true)) → weight_by these walks ≡ 0
weight_of_none n c these [] strict none = refl
weight_of_none n c these (each ∷ walks) strict none =
    let more = weight_of_none n c these walks strict.1 none in
    let here : part_of these each ≡ 0 = go (goes_by these each.walk) refl in
    omega (arith, here, more, weight_by_one these each walks)
  where
    go : (b : Bool) → goes_by these each.walk ≡ b → (if b then each.weight else 0) ≡ 0
    go false e = refl
    go true e = let r = step_of_walk n (IsStrict c) these each.walk strict.0 e in absurd (none r.0 r.1 r.2 r.3 r.4 r.5)

-- each strict one of these is one of those
pub weight_of_more : (n : ℕ) (c : ℕ → ℕ → ℕ) (these those : ℕ → ℕ → Bool) (walks : List WeightedWalk) → AreStrict n c walks → ((a b : ℕ) → a < n → b < n → IsStrict c a b → these a b ≡ true → those a b ≡ true) → weight_by these walks ≤ weight_by those walks
weight_of_more n c these those walks strict more =
    weight_is_monotone these those walks (all_of walks (λ each. IsClosedWalk n (IsStrict c) each.walk) (λ each. goes_by these each.walk ≡ true → goes_by those each.walk ≡ true) goes strict)
  where
    goes : (each : WeightedWalk) → IsClosedWalk n (IsStrict c) each.walk → goes_by these each.walk ≡ true → goes_by those each.walk ≡ true
    goes each closed g =
        let r = step_of_walk n (IsStrict c) these each.walk closed g in
        r.6 those (more r.0 r.1 r.2 r.3 r.4 r.5)
