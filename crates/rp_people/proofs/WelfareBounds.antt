-- What is at least as good as the bundle of an observation lies in its region: at an observation that it reaches a bundle
-- that cost less would leave room for a better one.
use Rattle.std.proofs.Common.{ℕ, ◌*◌, ◌<◌, ◌≤◌, inl, inr, List, [], ◌∷◌, subst, arith}
use Rattle.std.proofs.lemmas.Bool.{cases_lt}
use Rattle.rp_evidence.specs.Demand.{FractionBundle, spending}
use Rattle.rp_evidence.specs.DemandEvidence.{ProvesLowerWelfare, ProvesWelfareBounds}
use Rattle.rp_evidence.specs.Input.{TableInput}
use Rattle.rp_evidence.specs.Preference.{IsWeak}
use Rattle.rp_evidence.specs.Walk.{IsWalk, LeadsTo}
use Rattle.rp_evidence.specs.Welfare.{EqualsOrReaches, IsInRegion}
use Rattle.rp_evidence.specs.WelfareModels.{CostsAtLeast, bundle_at}
use Rattle.rp_evidence.specs.declared.demand.Bound.{Bound}
use Rattle.rp_evidence.specs.declared.demand.Bound.TheVariants.{Shown, Wide}
use Rattle.rp_evidence.proofs.Walks.{ends_below, leads_by_weaker}
use Rattle.rp_people.specs.Bundles.{CostsLess, IsBundle}
use Rattle.rp_people.specs.Choices.{IsWeakChoice}
use Rattle.rp_people.specs.Preferences.{IsAtLeastAsGood, IsNonsatiatedPreference, shown_by}
use Rattle.rp_people.specs.Rationalizing.{Fits, Rationalizes}
use Rattle.rp_people.specs.TableChoices.{choices_at}
use Rattle.rp_people.proofs.Chains.{never_worse}
use Rattle.rp_people.proofs.Rooms.{room}
use Rattle.rp_people.specs.WelfareOfPeople.{BoundWelfareOfPeople, KeepsBounds}

module _ (input : TableInput) (prefers : FractionBundle → FractionBundle → Type 0) (preference : IsNonsatiatedPreference input.goods prefers) (rationalizes : Rationalizes (choices_at input 1 1) prefers) where
  weaker : (s t : ℕ) → s < input.n → t < input.n → IsWeak input.cost s t → IsWeakChoice (choices_at input 1 1) s t
  weaker s t a b h = let e = input.sums s t a b in omega arith

  pub reached_not_better : (s t : ℕ) → EqualsOrReaches input s t → IsAtLeastAsGood prefers (bundle_at input s) (bundle_at input t)
  reached_not_better s t r = go r.0 r.1
    where
      go : (w : List ℕ) → IsWalk input.n (IsWeak input.cost) s t w → IsAtLeastAsGood prefers (bundle_at input s) (bundle_at input t)
      go [] l = absurd l
      go (x ∷ w) l =
          never_worse (choices_at input 1 1) (λ k b. omega arith) prefers preference rationalizes s t w
          (leads_by_weaker input.n (IsWeak input.cost) (IsWeakChoice (choices_at input 1 1)) weaker s t w (subst (λ z. LeadsTo input.n (IsWeak input.cost) z t w) l.0 l.1))

  ends_in : (s t : ℕ) → EqualsOrReaches input s t → t < input.n
  ends_in s t r = go r.0 r.1
    where
      go : (w : List ℕ) → IsWalk input.n (IsWeak input.cost) s t w → t < input.n
      go [] l = absurd l
      go (x ∷ w) l = ends_below input.n (IsWeak input.cost) x t w l.1

  pub as_good_in_region : (t : ℕ) (x : FractionBundle) → IsBundle x → IsAtLeastAsGood prefers x (bundle_at input t) → IsInRegion input t x
  as_good_in_region t x ix good = record { fraction = ix; dear = dear }
    where
      dear : (s : ℕ) → EqualsOrReaches input t s → x.den * input.cost s s ≤ spending input.goods (input.price s) x.num
      dear s r =
          elim (cases_lt (spending input.goods (input.price s) x.num) (x.den * input.cost s s)) [
            | inr enough ↦ enough
            | inl cheap ↦
                let less : CostsLess input.goods (input.price s) x (1 * input.cost s s) 1 = omega arith in
                let m = room input.goods (input.price s) prefers x (1 * input.cost s s) 1 preference.nonsatiated ix less in
                let there = preference.transitive x (bundle_at input t) (bundle_at input s) ix (omega arith) (omega arith) good (reached_not_better t s r) in
                absurd (m.better.1 (preference.transitive x (bundle_at input s) m.more ix (omega arith) m.bundle there (rationalizes s (ends_in t s r) m.more m.bundle m.costs)))
          ]

  costs_enough : (prices : ℕ → ℕ) (t : ℕ) (lower : Bound) → ProvesLowerWelfare input prices t lower → (x : FractionBundle) → IsBundle x → IsAtLeastAsGood prefers x (bundle_at input t) → CostsAtLeast input prices x lower
  costs_enough prices t (Shown value pair) is x ix good = is.none_less x (as_good_in_region t x ix good)
  costs_enough prices t (Wide step) is x ix good = tt

pub bounds_kept : (input : TableInput) (prices : ℕ → ℕ) (t upper at : ℕ) (lower : Bound) (prefers : FractionBundle → FractionBundle → Type 0) → ProvesWelfareBounds input prices t upper at lower → Fits (choices_at input 1 1) prefers
    → KeepsBounds input prices t at lower prefers
bounds_kept input prices t upper at lower prefers is fits = record {
  none_cheaper = costs_enough input prefers fits.preference fits.rationalizes prices t lower is.lower_is;
  as_good = reached_not_better input prefers fits.preference fits.rationalizes at t is.upper_is.leads;
}

pub bounds_hold : (input : TableInput) (prices : ℕ → ℕ) (t upper at : ℕ) (lower : Bound) → ProvesWelfareBounds input prices t upper at lower → BoundWelfareOfPeople input prices t upper at lower
bounds_hold input prices t upper at lower is = record {
  kept = λ passes fits. bounds_kept input prices t upper at lower (shown_by passes) is fits;
  costs = is.upper_is.costs;
}
