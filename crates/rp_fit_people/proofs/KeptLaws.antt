-- A consistent set is rationalized by a utility: the other choices are held to nothing, so that no walk goes through them.
-- What some preference rationalizes is consistent: the other choices are replaced by one of the set.
use Rattle.std.proofs.Common.{◌≡◌, ◌<◌, ◌≤◌, ◌*◌, ◌⊎◌, inl, inr, ℕ, Bool, true, false, List, [], ◌∷◌, length, refl, sym, ap, subst, ◌∙◌, arith, Contains, if◌then◌else◌}
use Rattle.rp_evidence.specs.Demand.{FractionBundle}
use Rattle.rp_evidence.specs.Garp.{HasNoViolation}
use Rattle.rp_evidence.specs.Input.{TableInput}
use Rattle.rp_evidence.specs.Preference.{IsOwnStrict, IsOwnWeak, IsStrict, IsWeak}
use Rattle.rp_evidence.specs.Walk.{HasStepFrom, LeadsTo}
use Rattle.rp_evidence.specs.WelfareModels.{bundle_at}
use Rattle.rp_evidence.proofs.Violations.{violation_leads}
use Rattle.rp_evidence.proofs.Walks.{has_weaker_step, leads_by_weaker, starts_below}
use Rattle.rp_table.specs.Spending.{spending}
use Rattle.rp_fit.specs.Groups.{is_among}
use Rattle.rp_fit.specs.Kept.{IsConsistent, IsSetOfObservations, LiesWithin, NoneKeepsMore}
use Rattle.rp_fit.specs.KeptEvidence.{ProvesKept}
use Rattle.rp_fit.specs.declared.kept.KeptPart.{KeptPart}
use Rattle.rp_fit.proofs.ConsistentSets.{goes_within, starts_within}
use Rattle.rp_people.specs.Choices.{Choices, IsAffordable, IsStrictChoice, IsWeakChoice, MeetAxiom}
use Rattle.rp_people.specs.Preferences.{shown_by}
use Rattle.rp_people.specs.TableChoices.{IsFullInput, choices_at, choices_held_to}
use Rattle.rp_people.proofs.Chains.{meets_axiom}
use Rattle.rp_people.proofs.TableLaws.{held_utility}
use Rattle.rp_fit_people.specs.KeptPeople.{FitsKept, HaveConcaveUtility, NoneFitsMore}
use Rattle.rp_fit_people.proofs.Members.{among_is_there, contains_cases, there_is_among}

module _ (input : TableInput) (full : IsFullInput input) (set : List ℕ) (is_set : IsSetOfObservations input.n set) where
  -- ---- from the axiom to a utility

  -- what a choice of the set is held to; the others are held to nothing
  abbrev held : ℕ → ℕ
  held s = if is_among set s then input.cost s s else 0

  held_in_set : (s : ℕ) → Contains set s → held s ≡ input.cost s s
  held_in_set s there = ap (λ b. if b then input.cost s s else 0) (there_is_among set s there)

  held_at_most : (s : ℕ) → held s ≤ input.cost s s
  held_at_most s = go (is_among set s)
    where
      go : (b : Bool) → (if b then input.cost s s else 0) ≤ input.cost s s
      go true = omega arith
      go false = omega arith

  weak_is_kept : (s t : ℕ) → s < input.n → t < input.n → IsOwnWeak 1 held input.cost s t → Contains set s
  weak_is_kept s t s_in t_in weak = go (is_among set s) refl weak
    where
      go : (b : Bool) → is_among set s ≡ b → 1 * input.cost s t ≤ (if b then input.cost s s else 0) → Contains set s
      go true e h = among_is_there set s e
      go false e h = let p = full.positive_costs s t s_in t_in in absurd (omega (arith, p, h))

  weaker : (s t : ℕ) → s < input.n → t < input.n → IsOwnWeak 1 held input.cost s t → IsWeak input.cost s t
  weaker s t s_in t_in h = let m = held_at_most s in omega (arith, h, m)

  stricter : (s t : ℕ) → s < input.n → t < input.n → IsOwnStrict 1 held input.cost s t → IsStrict input.cost s t
  stricter s t s_in t_in h = let m = held_at_most s in omega (arith, h, m)

  entry_is_kept : (s t : ℕ) (w : List ℕ) → LeadsTo input.n (IsOwnWeak 1 held input.cost) s t w → (y : ℕ) → Contains (s ∷ w) y → Contains set y ⊎ (t ≡ y)
  entry_is_kept s t [] h y there = elim (contains_cases s [] y there) [
    | inl e ↦ inr (sym h.1 ∙ e)
    | inr none ↦ absurd (omega (arith, none.1))
  ]
  entry_is_kept s t (x ∷ w) h y there = go (contains_cases s (x ∷ w) y there) (λ more. entry_is_kept x t w h.2 y more)
    where
      go : (s ≡ y) ⊎ Contains (x ∷ w) y → (Contains (x ∷ w) y → Contains set y ⊎ (t ≡ y)) → Contains set y ⊎ (t ≡ y)
      go (inl e) later = inl (subst (λ z. Contains set z) e (weak_is_kept s x h.0 (starts_below input.n (IsOwnWeak 1 held input.cost) x t w h.2) h.1))
      go (inr more) later = later more

  none_violates : IsConsistent input.n input.cost set → HasNoViolation input.n (IsOwnWeak 1 held input.cost) (IsOwnStrict 1 held input.cost)
  none_violates consistent [] v = absurd v.1
  none_violates consistent (x ∷ []) v = absurd v.1
  none_violates consistent (x ∷ y ∷ w) v =
      let q = violation_leads input.n (IsOwnWeak 1 held input.cost) (IsOwnStrict 1 held input.cost) x (y ∷ w) v in
      let first = weak_is_kept x y q.0.0 (starts_below input.n (IsOwnWeak 1 held input.cost) y x w q.0.2) q.0.1 in
      let within : LiesWithin set (x ∷ y ∷ w) = λ z there. elim (entry_is_kept x x (y ∷ w) q.0 z there) [
        | inl kept ↦ kept
        | inr e ↦ subst (λ u. Contains set u) e first
      ] in
      consistent (x ∷ y ∷ w) within (
        (x, (refl, leads_by_weaker input.n (IsOwnWeak 1 held input.cost) (IsWeak input.cost) weaker x x (y ∷ w) q.0), omega arith),
        has_weaker_step input.n (IsOwnWeak 1 held input.cost) (IsOwnStrict 1 held input.cost) (IsStrict input.cost) stricter x x (y ∷ w) q.0 q.1,
      )

  pub utility_of_set : IsConsistent input.n input.cost set → HaveConcaveUtility input set
  utility_of_set consistent =
      let has = held_utility input full 1 held (omega arith) (none_violates consistent) in
      record {
        utility = has.utility;
        concave_utility = has.concave_utility;
        rationalizes = λ s there x is affordable. has.rationalizes s (is_set.observed s there) x is (as_held s there x affordable);
      }
    where
      as_held : (s : ℕ) → Contains set s → (x : FractionBundle) → IsAffordable (choices_at input 1 1) s x → IsAffordable (choices_held_to input 1 held) s x
      as_held s there x affordable = rw (held_in_set s there) (by (spending input.goods (input.price s) x.num) (input.cost s s) x.den affordable)
        where
          by : (spent own den : ℕ) → 1 * spent ≤ (1 * own) * den → 1 * spent ≤ own * den
          by spent own den h = omega (arith, h)

  -- ---- from a preference to the axiom

  module _ (prefers : FractionBundle → FractionBundle → Type 0) (fits : FitsKept input prefers set) (first : ℕ) (first_in : Contains set first) where
    -- an observation of the set itself, and the first for each other one
    abbrev stands : ℕ → ℕ
    stands s = if is_among set s then s else first

    stands_itself : (s : ℕ) → Contains set s → stands s ≡ s
    stands_itself s there = ap (λ b. if b then s else first) (there_is_among set s there)

    stands_in_set : (s : ℕ) → Contains set (stands s)
    stands_in_set s = go (is_among set s) refl
      where
        go : (b : Bool) → is_among set s ≡ b → Contains set (if b then s else first)
        go true e = among_is_there set s e
        go false e = first_in

    abbrev replaced : Choices
    replaced = record {
      n = input.n;
      goods = input.goods;
      price = λ s. input.price (stands s);
      bundle = λ s. bundle_at input (stands s);
      scale = 1;
      own = λ s. 1 * input.cost (stands s) (stands s);
    }

    replaced_meet : MeetAxiom replaced
    replaced_meet = meets_axiom replaced (λ s l. omega arith) prefers fits.preference (λ s s_in. fits.rationalizes (stands s) (stands_in_set s))

    as_weak : (s t : ℕ) → s < input.n → t < input.n → Contains set s → Contains set t → IsWeak input.cost s t → IsWeakChoice replaced s t
    as_weak s t s_in t_in in_s in_t h =
        subst (λ a. 1 * spending input.goods (input.price a) (input.quantity (stands t)) ≤ (1 * input.cost a a) * 1) (sym (stands_itself s in_s))
        (subst (λ b. 1 * spending input.goods (input.price s) (input.quantity b) ≤ (1 * input.cost s s) * 1) (sym (stands_itself t in_t))
        (let e = input.sums s t s_in t_in in omega (arith, h, e)))

    as_strict : (s t : ℕ) → s < input.n → t < input.n → Contains set s → Contains set t → IsStrict input.cost s t → IsStrictChoice replaced s t
    as_strict s t s_in t_in in_s in_t h =
        subst (λ a. 1 * spending input.goods (input.price a) (input.quantity (stands t)) < (1 * input.cost a a) * 1) (sym (stands_itself s in_s))
        (subst (λ b. 1 * spending input.goods (input.price s) (input.quantity b) < (1 * input.cost s s) * 1) (sym (stands_itself t in_t))
        (let e = input.sums s t s_in t_in in omega (arith, h, e)))

    leads_replaced : (s t : ℕ) (w : List ℕ) → LeadsTo input.n (IsWeak input.cost) s t w → LiesWithin set (s ∷ w) → LeadsTo input.n (IsWeakChoice replaced) s t w
    leads_replaced s t [] h within = h
    leads_replaced s t (x ∷ w) h within =
        let rest = goes_within set s (x ∷ w) within in
        (h.0, as_weak s x h.0 (starts_below input.n (IsWeak input.cost) x t w h.2) (starts_within set s (x ∷ w) within) (starts_within set x w rest) h.1, leads_replaced x t w h.2 rest)

    has_replaced : (s t : ℕ) (w : List ℕ) → LeadsTo input.n (IsWeak input.cost) s t w → HasStepFrom (IsStrict input.cost) s w → LiesWithin set (s ∷ w) → HasStepFrom (IsStrictChoice replaced) s w
    has_replaced s t [] h k within = absurd k
    has_replaced s t (x ∷ w) h (inl k) within =
        let rest = goes_within set s (x ∷ w) within in
        inl (as_strict s x h.0 (starts_below input.n (IsWeak input.cost) x t w h.2) (starts_within set s (x ∷ w) within) (starts_within set x w rest) k)
    has_replaced s t (x ∷ w) h (inr k) within = inr (has_replaced x t w h.2 k (goes_within set s (x ∷ w) within))

    consistent_by_first : IsConsistent input.n input.cost set
    consistent_by_first [] within v = absurd v.1
    consistent_by_first (x ∷ w) within v =
        let q = violation_leads input.n (IsWeak input.cost) (IsStrict input.cost) x w v in
        replaced_meet (x ∷ w) ((x, (refl, leads_replaced x x w q.0 within), v.0.2), has_replaced x x w q.0 q.1 within)

  pub consistent_by_preference : (prefers : FractionBundle → FractionBundle → Type 0) → FitsKept input prefers set → IsConsistent input.n input.cost set
  consistent_by_preference prefers fits [] within v = absurd v.1
  consistent_by_preference prefers fits (x ∷ w) within v =
      consistent_by_first prefers fits x (starts_within set x w within) (x ∷ w) within v

pub none_fits_more : (input : TableInput) (most : ℕ) → IsFullInput input → NoneKeepsMore input.n input.cost most
    → (prefers : FractionBundle → FractionBundle → Type 0) (set : List ℕ) → IsSetOfObservations input.n set → FitsKept input prefers set → length set ≤ most
none_fits_more input most full none prefers set is_set fits = none set is_set (consistent_by_preference input full set is_set prefers fits)

pub kept_evidence_says : (input : TableInput) (part : KeptPart) → IsFullInput input → ProvesKept input.n input.cost part → HaveConcaveUtility input part.kept × NoneFitsMore input part.most
kept_evidence_says input part full proves = (
  utility_of_set input full part.kept proves.set proves.consistent,
  λ passes set is_set fits. none_fits_more input part.most full proves.none_more (shown_by passes) set is_set fits,
)
