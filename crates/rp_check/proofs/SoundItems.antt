-- An item that is found nothing wrong with proves its verdict, if the axiom is shown where it is said to be.
use Rattle.std.proofs.Common.{◌≡◌, ◌+◌, ◌<◌, ◌≤◌, ◌||◌, ◌⊎◌, ◌∙◌, ℕ, zero, suc, [], ◌∷◌, ◌++◌, List, Bool, true, false, IsTrue, Result, Ok, All, length, take, ap, arith, below_more, inl, inr, refl, slice_index_or, sym, subst}
use Rattle.std.proofs.Math.Seq.{take-suc}
use Rattle.std.proofs.lemmas.List.{get_or_read, take_more}
use Rattle.rp_evidence.specs.Garp.{HasNoViolation, MeetsGarp}
use Rattle.rp_evidence.specs.Preference.{IsStrict, IsWeak, StrictByLevels, WeakByLevels}
use Rattle.rp_evidence.proofs.OwnLevels.{strict_without_levels, weak_without_levels}
use Rattle.rp_evidence.proofs.SameCosts.{no_violation_same}
use Rattle.rp_evidence.specs.Input.{TableInput}
use Rattle.rp_evidence.specs.Kinds.{IsOfKind}
use Rattle.rp_evidence.specs.Proves.{Proves}
use Rattle.rp_evidence.specs.declared.certificate.Item.{Item}
use Rattle.rp_evidence.specs.declared.certificate.Item.TheVariants.{Garp as GarpItem, Afriat as AfriatItem, Efficiency as EfficiencyItem, Homothetic as HomotheticItem, Quasi as QuasiItem, Demand as DemandItem, Welfare as WelfareItem, Random as RandomItem}
use Rattle.rp_evidence.specs.declared.certificate.Kind.TheVariants.{Table as TableKind}
use Rattle.rp_evidence.specs.declared.failure.Failure.{Failure}
use Rattle.rp_evidence.specs.declared.garp.Garp.TheVariants.{Ranks, Cycle}
use Rattle.rp_people.specs.Says.{HasPricesAboveZero}
use Rattle.rp_check.specs.CheckVerdict.{ItemFailsAt}
use Rattle.rp_check.specs.ItemFailure.{ItemFails, one_shows_garp, shows_garp}
use Rattle.rp_clauses.proofs.SoundTests.{afriat_proves, efficiency_proves, garp_proves, homothetic_proves, quasilinear_proves}
use Rattle.rp_check.proofs.SoundBounds.{demand_proves, welfare_proves}

any_item : Item
any_item = GarpItem (Cycle [])

or_cases : (a b : Bool) → (a || b) ≡ true → (a ≡ true) ⊎ (b ≡ true)
or_cases true b is = inl refl
or_cases false b is = inr is

or_assoc : (a b c : Bool) → (a || (b || c)) ≡ ((a || b) || c)
or_assoc true b c = refl
or_assoc false b c = refl

pub shows_at_end : (items : List Item) (item : Item) → one_shows_garp (items ++ item ∷ []) ≡ (one_shows_garp items || shows_garp item)
shows_at_end [] item = or_false (shows_garp item)
  where
    or_false : (b : Bool) → (b || false) ≡ (false || b)
    or_false true = refl
    or_false false = refl
shows_at_end (x ∷ items) item = ap (λ b. shows_garp x || b) (shows_at_end items item) ∙ or_assoc (shows_garp x) (one_shows_garp items) (shows_garp item)

-- no violation by the levels of the observations' own, or by what was spent where they have none
abbrev pub MeetsByLevels : TableInput → Type 0
MeetsByLevels input = HasNoViolation input.n (WeakByLevels input.levels input.cost) (StrictByLevels input.levels input.cost)

meets_without : (input : TableInput) → input.levels ≡ [] → MeetsByLevels input → MeetsGarp input.n input.cost
meets_without input none meets =
    no_violation_same input.n (WeakByLevels [] input.cost) (StrictByLevels [] input.cost) (IsWeak input.cost) (IsStrict input.cost)
    (λ s t a b. weak_without_levels input.cost s t) (λ s t a b. strict_without_levels input.cost s t)
    (subst (λ levels. HasNoViolation input.n (WeakByLevels levels input.cost) (StrictByLevels levels input.cost)) none meets)

-- an item that nothing is found wrong with has new prices above 0, where it has some
pub item_priced : (input : TableInput) (garp_shown : Bool) (item : Item) → ItemFails input garp_shown item (Ok tt) → HasPricesAboveZero input item
item_priced input garp_shown (DemandItem prices m evidence) found = λ g g_in. (found.1.0.0.1.0 g g_in).0
item_priced input garp_shown (WelfareItem prices of evidence) found = λ g g_in. (found.1.0.0.1.0 g g_in).0
item_priced input garp_shown _ found = tt

module _ (input : TableInput) (positive : (s : ℕ) → s < input.n → 0 < input.cost s s) where
  pub item_proves : (garp_shown : Bool) → (IsTrue garp_shown → MeetsByLevels input) → (item : Item) → IsOfKind TableKind item → ItemFails input garp_shown item (Ok tt) → Proves input item
  item_proves garp_shown sound (GarpItem evidence) kind found = garp_proves input.n (WeakByLevels input.levels input.cost) (StrictByLevels input.levels input.cost) evidence found
  item_proves garp_shown sound (AfriatItem evidence) kind found = afriat_proves input.n input.levels input.cost evidence found
  item_proves garp_shown sound (EfficiencyItem evidence) kind found = efficiency_proves input.n input.cost positive evidence found
  item_proves garp_shown sound (HomotheticItem evidence) kind found = homothetic_proves input.n input.cost evidence found
  item_proves garp_shown sound (QuasiItem evidence) kind found = quasilinear_proves input.n input.cost evidence found
  item_proves garp_shown sound (DemandItem prices m evidence) kind found = demand_proves input garp_shown (λ shown. meets_without input found.0 (sound shown)) prices m evidence found.1.0
  item_proves garp_shown sound (WelfareItem prices of evidence) kind found = welfare_proves input garp_shown (λ shown. meets_without input found.0 (sound shown)) prices of evidence found.1.0
  item_proves garp_shown sound (RandomItem total evidence) kind found = absurd kind

  -- an item that shows the axiom by ranks, and proves it
  shown_by : (item : Item) → IsTrue (shows_garp item) → Proves input item → MeetsByLevels input
  shown_by (GarpItem (Ranks ranks)) is proves = proves.1
  shown_by (GarpItem (Cycle walk)) is proves = absurd (cc)
  shown_by (AfriatItem evidence) is proves = absurd (cc)
  shown_by (EfficiencyItem evidence) is proves = absurd (cc)
  shown_by (HomotheticItem evidence) is proves = absurd (cc)
  shown_by (QuasiItem evidence) is proves = absurd (cc)
  shown_by (DemandItem prices m evidence) is proves = absurd (cc)
  shown_by (WelfareItem prices of evidence) is proves = absurd (cc)
  shown_by (RandomItem total evidence) is proves = absurd (cc)

  -- all of the first m items prove their verdicts, and the axiom holds where one of them shows it
  module _ (items : List Item) (kinds : All (IsOfKind TableKind) items) where
    pub all_prove : (m : ℕ) → m ≤ length items → ((k : ℕ) → k < m → ItemFailsAt input items k (Ok tt))
        → ((k : ℕ) (d : Item) → k < m → Proves input (slice_index_or items k d)) × (IsTrue (one_shows_garp (take m items)) → MeetsByLevels input)
    all_prove zero within found = ((λ k d below. absurd (omega arith)), (λ is. absurd (cc)))
    all_prove (suc m) within found =
        let before = all_prove m (omega arith) (λ k below. found k (omega arith)) in
        let here : (d : Item) → Proves input (slice_index_or items m d) =
        λ d. item_proves (one_shows_garp (take m items)) before.1 (slice_index_or items m d) (kinds m d (omega arith)) (found m (omega arith) d) in (
          (λ k d below. below_more (λ i. (other : Item) → Proves input (slice_index_or items i other)) m (λ i l other. before.0 i other l) here k (omega arith) d),
          (λ is. meets before.1 (here any_item) (or_cases (one_shows_garp (take m items)) (shows_garp (slice_index_or items m any_item)) (sym (one_more m (omega arith)) ∙ is))),
        )
      where
        one_more : (m : ℕ) → m < length items → one_shows_garp (take (suc m) items) ≡ (one_shows_garp (take m items) || shows_garp (slice_index_or items m any_item))
        one_more m l = ap one_shows_garp (take-suc items m any_item l) ∙ shows_at_end (take m items) (slice_index_or items m any_item)

        meets : (IsTrue (one_shows_garp (take m items)) → MeetsByLevels input) → Proves input (slice_index_or items m any_item) → (one_shows_garp (take m items) ≡ true) ⊎ (shows_garp (slice_index_or items m any_item) ≡ true) → MeetsByLevels input
        meets sound proves (inl is) = sound is
        meets sound proves (inr is) = shown_by (slice_index_or items m any_item) is proves

-- what a turn of the loop over the items finds at its place
module _ (input : TableInput) (items : List Item) (k : ℕ) (item : Item) (garp_shown : Bool) (within : k < length items) (is : item ≡ slice_index_or items k item) (so_far : garp_shown ≡ one_shows_garp (take k items)) where
  pub at_place : (r : Result (Unit {0}) Failure) → ItemFails input garp_shown item r → ItemFailsAt input items k r
  at_place r found other =
      subst (λ b. ItemFails input b (slice_index_or items k other) r) so_far
      (subst (λ x. ItemFails input garp_shown x r) (get_or_read items k item within is other) found)

  pub shown_more : (one_shows_garp (take (k + 1) items)) ≡ (garp_shown || shows_garp item)
  shown_more =
      ap one_shows_garp (take_more items k item within) ∙ shows_at_end (take k items) (slice_index_or items k item)
      ∙ ap (λ b. b || shows_garp (slice_index_or items k item)) (sym so_far) ∙ ap (λ x. garp_shown || shows_garp x) (sym is)
