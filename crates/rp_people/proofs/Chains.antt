-- Along a walk of weak steps a rationalizing preference has each bundle at least as good as the next, and a strict step
-- leads to a worse one, since a better one than it is still affordable: so no closed walk has one.
use Rattle.std.proofs.Common.{ℕ, ◌<◌, inl, inr, List, [], ◌∷◌, sym, subst}
use Rattle.rp_evidence.specs.Demand.{FractionBundle}
use Rattle.rp_evidence.specs.Walk.{HasStepFrom, LeadsTo}
use Rattle.rp_evidence.proofs.Walks.{ends_below, starts_below}
use Rattle.rp_people.specs.Bundles.{IsBundle}
use Rattle.rp_people.specs.Choices.{Choices, IsStrictChoice, IsWeakChoice, MeetAxiom}
use Rattle.rp_people.specs.Preferences.{IsAtLeastAsGood, IsNonsatiatedPreference}
use Rattle.rp_people.specs.Rationalizing.{HasNotBoth, Rationalizes}
use Rattle.rp_people.proofs.Rooms.{room}

module _ (choices : Choices) (bundles : (s : ℕ) → s < choices.n → IsBundle (choices.bundle s)) (prefers : FractionBundle → FractionBundle → Type 0) (preference : IsNonsatiatedPreference choices.goods prefers) (rationalizes : Rationalizes choices prefers) where
  as_good_as_itself : (x : FractionBundle) → IsBundle x → IsAtLeastAsGood prefers x x
  as_good_as_itself x is = elim (preference.complete x x is is) [ inl h ↦ h | inr h ↦ h ]

  -- a strict step leads to a worse bundle
  pub strict_is_better : (s t : ℕ) → s < choices.n → t < choices.n → IsStrictChoice choices s t → ¬ IsAtLeastAsGood prefers (choices.bundle t) (choices.bundle s)
  strict_is_better s t a b strict back =
      let r = room choices.goods (choices.price s) prefers (choices.bundle t) (choices.own s) choices.scale preference.nonsatiated (bundles t b) strict in
      let under = rationalizes s a r.more r.bundle r.costs in
      r.better.1 (preference.transitive (choices.bundle t) (choices.bundle s) r.more (bundles t b) (bundles s a) r.bundle back under)

  pub never_worse : (s t : ℕ) (w : List ℕ) → LeadsTo choices.n (IsWeakChoice choices) s t w → IsAtLeastAsGood prefers (choices.bundle s) (choices.bundle t)
  never_worse s t [] h = subst (λ v. IsAtLeastAsGood prefers (choices.bundle s) (choices.bundle v)) h.1 (as_good_as_itself (choices.bundle s) (bundles s h.0))
  never_worse s t (x ∷ w) h =
      let in_x = starts_below choices.n (IsWeakChoice choices) x t w h.2 in
      let in_t = ends_below choices.n (IsWeakChoice choices) x t w h.2 in
      preference.transitive (choices.bundle s) (choices.bundle x) (choices.bundle t) (bundles s h.0) (bundles x in_x) (bundles t in_t)
      (rationalizes s h.0 (choices.bundle x) (bundles x in_x) h.1) (never_worse x t w h.2)

  no_way_back : (s t : ℕ) (w : List ℕ) → LeadsTo choices.n (IsWeakChoice choices) s t w → HasStepFrom (IsStrictChoice choices) s w → ¬ IsAtLeastAsGood prefers (choices.bundle t) (choices.bundle s)
  no_way_back s t [] h k back = k
  no_way_back s t (x ∷ w) h (inl k) back =
      let in_x = starts_below choices.n (IsWeakChoice choices) x t w h.2 in
      let in_t = ends_below choices.n (IsWeakChoice choices) x t w h.2 in
      strict_is_better s x h.0 in_x k
      (preference.transitive (choices.bundle x) (choices.bundle t) (choices.bundle s) (bundles x in_x) (bundles t in_t) (bundles s h.0) (never_worse x t w h.2) back)
  no_way_back s t (x ∷ w) h (inr k) back =
      let in_x = starts_below choices.n (IsWeakChoice choices) x t w h.2 in
      let in_t = ends_below choices.n (IsWeakChoice choices) x t w h.2 in
      no_way_back x t w h.2 k
      (preference.transitive (choices.bundle t) (choices.bundle s) (choices.bundle x) (bundles t in_t) (bundles s h.0) (bundles x in_x) back
      (rationalizes s h.0 (choices.bundle x) (bundles x in_x) h.1))

  pub meets_axiom : MeetAxiom choices
  meets_axiom [] v = absurd v.1
  meets_axiom (x ∷ w) v =
      let l = subst (λ z. LeadsTo choices.n (IsWeakChoice choices) x z w) (sym v.0.1.0) v.0.1.1 in
      no_way_back x x w l v.1 (as_good_as_itself (choices.bundle x) (bundles x (starts_below choices.n (IsWeakChoice choices) x x w l)))

-- two choices, the first weakly preferred to the second and the second strictly to the first
pub has_not_both : (choices : Choices) (prefers : FractionBundle → FractionBundle → Type 0) (s t : ℕ) → IsBundle (choices.bundle s) → IsBundle (choices.bundle t) → IsWeakChoice choices s t → IsStrictChoice choices t s
    → HasNotBoth choices prefers s t
has_not_both choices prefers s t is_s is_t weak strict preference best_s best_t =
    let r = room choices.goods (choices.price t) prefers (choices.bundle s) (choices.own t) choices.scale preference.nonsatiated is_s strict in
    r.better.1 (preference.transitive (choices.bundle s) (choices.bundle t) r.more is_s is_t r.bundle (best_s (choices.bundle t) is_t weak) (best_t r.more r.bundle r.costs))
