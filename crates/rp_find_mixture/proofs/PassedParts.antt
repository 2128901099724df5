-- What the run of the program of mixtures ends with passes every clause of a checker.
use Rattle.std.proofs.Common.{◌≡◌, ◌≢◌, ◌<◌, ◌+◌, ◌-◌, ◌*◌, ℕ, List, [], All, Ok, length, map, slice_index, slice_index_or, sym, ap, subst, ◌∙◌, inl, inr, arith}
use Rattle.std.proofs.lemmas.Bool.{cases_eq}
use Rattle.std.proofs.lemmas.List.{get_or-map, get_or_default, length-map}
use Rattle.std.proofs.lemmas.Map.Keys.{Less-from_sorted}
use Rattle.std.specs.Cmp.Lexicographic.{slice_cmp}
use Rattle.std.specs.Ordering.{nat_cmp}
use Rattle.std.specs.declared.cmp.Ordering.TheVariants.{Less}
use Rattle.rp_evidence.specs.declared.random.RandomPart.{RandomPart}
use Rattle.rp_evidence.specs.declared.random.RandomPart.TheVariants.{Mixture, Violated, Wide}
use Rattle.rp_evidence.specs.declared.random.Share.{Share}
use Rattle.rp_farkas.specs.Limits.{FitsEvidence, IsWithinLimits}
use Rattle.rp_farkas.specs.PairCheck.{IsShownPair}
use Rattle.rp_farkas.specs.declared.entry.Entry.{Entry}
use Rattle.rp_farkas.specs.declared.entry.Pair.{Pair}
use Rattle.rp_patch.specs.KindFailure.{ComesInOrder, EvidenceFailsOf, HasFitNumbers, PartsFailOf, part_at}
use Rattle.rp_patch.specs.Kinds.{AreAllOf, AreWhole, Kinds, mixture_program, weight_of}
use Rattle.rp_patch.proofs.KindWeights.{at_most_all}
use Rattle.rp_simplex.specs.Outcome.{IsOutcome}
use Rattle.rp_simplex.specs.declared.outcome.Outcome.{Outcome}
use Rattle.rp_simplex.specs.declared.outcome.Outcome.TheVariants.{Optimal, Unbounded, Wide as PassedWidth}
use Rattle.rp_simplex.proofs.Outcomes.{outcome_shows}
use Rattle.rp_find_mixture.specs.MixtureVerdict.{IsOutcomeVerdict, IsPairVerdict, IsRunVerdict, shares_of}
use Rattle.rp_find_mixture.proofs.PairLemmas.{fit_parts, heavy, partial, same, whole_mixture}

abbrev no_part : Share
no_part = record { patches = []; weight = 0 }

abbrev no_entry : Entry
no_entry = record { at = 0; value = 0 }

-- part n has the kind and the weight of entry n
module _ (kinds : List (List ℕ)) (entries : List Entry) where
  abbrev as_part : Entry → Share
  as_part entry = record { patches = slice_index_or kinds entry.at []; weight = entry.value }

  as_many : length (shares_of kinds entries) ≡ length entries
  as_many = length-map entries as_part

  made_from : (n : ℕ) → n < length entries → part_at (shares_of kinds entries) n ≡ as_part (slice_index_or entries n no_entry)
  made_from n l = get_or-map as_part entries n no_entry no_part l

  kind_from : (n : ℕ) → n < length entries → (part_at (shares_of kinds entries) n).patches ≡ slice_index_or kinds (slice_index_or entries n no_entry).at []
  kind_from n l = ap (λ (q : Share). q.patches) (made_from n l)

  weight_from : (n : ℕ) → n < length entries → (part_at (shares_of kinds entries) n).weight ≡ (slice_index_or entries n no_entry).value
  weight_from n l = ap (λ (q : Share). q.weight) (made_from n l)

module _ (k : Kinds) (is : AreWhole k) (formed : (kind : List ℕ) → k.IsKind kind → k.IsFormed kind) (kinds : List (List ℕ)) (all : AreAllOf k.IsKind kinds) where
  module _ (pair : Pair) (shown : IsShownPair (mixture_program k kinds) pair) where
    numbers_fit : (weights : List ℕ) → All FitsEvidence weights → HasFitNumbers pair.den (shares_of kinds pair.y) weights
    numbers_fit weights fit = record {
      fraction = shown.den_positive;
      den_fits = omega (arith, shown.den_fits);
      parts_fit = λ n d l. omega (arith, fit_parts kinds pair.y (length kinds) shown.y_listed n d l);
      weights_fit = fit;
    }

    rises : (j n : ℕ) → n ≡ j + 1 → n < length pair.y
        → slice_cmp nat_cmp (part_at (shares_of kinds pair.y) j).patches (part_at (shares_of kinds pair.y) n).patches ≡ Less
    rises j n next l =
        let before = slice_index_or pair.y j no_entry in
        let here = slice_index_or pair.y n no_entry in
        let j_in : j < length pair.y = omega (arith, next, l) in
        let as_many : length (map (λ (e : Entry). e.at) pair.y) ≡ length pair.y = length-map pair.y (λ (e : Entry). e.at) in
        let at_before : slice_index (map (λ (e : Entry). e.at) pair.y) j ≡ before.at = get_or-map (λ (e : Entry). e.at) pair.y j no_entry 0 j_in in
        let at_here : slice_index (map (λ (e : Entry). e.at) pair.y) (j + 1) ≡ here.at =
        ap (λ m. slice_index (map (λ (e : Entry). e.at) pair.y) m) (sym next) ∙ get_or-map (λ (e : Entry). e.at) pair.y n no_entry 0 l in
        let rising = shown.y_listed.rising j (omega (arith, next, l, as_many)) in
        let less : before.at < here.at = omega (arith, at_before, at_here, rising) in
        let ordered = Less-from_sorted (slice_cmp nat_cmp) kinds before.at here.at [] all.rising less (shown.y_listed.columns n no_entry l) in
        (λ i. slice_cmp nat_cmp (kind_from kinds pair.y j j_in i) (kind_from kinds pair.y n l i)) ∙ ordered

    in_order : (n : ℕ) → n < length pair.y → ComesInOrder (shares_of kinds pair.y) n
    in_order n l = elim (cases_eq n 0) [
      | inl first ↦ inl first
      | inr later ↦ inr (rises (n - 1) n (omega (arith, later)) l)
    ]

    parts_pass : PartsFailOf k (shares_of kinds pair.y) (Ok tt)
    parts_pass n l =
        let listed : n < length pair.y = omega (arith, l, as_many kinds pair.y) in
        let part = part_at (shares_of kinds pair.y) n in
        let kind : k.IsKind part.patches = (partial k is kinds all pair shown).kinds part (n, l, get_or_default (shares_of kinds pair.y) n part no_part l) in
        let some : 0 < part.weight = subst (λ (w : ℕ). 0 < w) (sym (weight_from kinds pair.y n listed)) (shown.y_listed.positive n no_entry listed) in
        (formed part.patches kind, (some, (kind, (in_order n listed, tt))))

    mixture_passes : weight_of (shares_of kinds pair.y) ≡ pair.den * k.total → EvidenceFailsOf k (Mixture pair.den (shares_of kinds pair.y)) (Ok tt)
    mixture_passes whole =
        (numbers_fit [] (λ n d l. absurd (omega (arith, l))), (parts_pass, ((whole_mixture k is kinds all pair shown whole).exact, tt)))

    violation_passes : weight_of (shares_of kinds pair.y) ≢ pair.den * k.total → EvidenceFailsOf k (Violated pair.den (shares_of kinds pair.y) pair.x) (Ok tt)
    violation_passes less =
        let found = partial k is kinds all pair shown in
        let most = at_most_all k is pair.den (shares_of kinds pair.y) found in
        let fit : All FitsEvidence pair.x = λ n d l. omega (arith, shown.x_fits n d l) in
        (numbers_fit pair.x fit, (parts_pass, (shown.x_length, (found.within, (heavy k is kinds all pair shown, (same k is kinds all pair shown, (omega (arith, less, most), tt)))))))

    pub pair_passes : (part : RandomPart) → IsPairVerdict k kinds pair part → EvidenceFailsOf k part (Ok tt)
    pair_passes (Mixture den parts) h = subst (λ (d : ℕ). EvidenceFailsOf k (Mixture d parts) (Ok tt)) (sym h.0)
        (subst (λ (ps : List Share). EvidenceFailsOf k (Mixture pair.den ps) (Ok tt)) (sym h.1)
        (mixture_passes (ap weight_of (sym h.1) ∙ h.2 ∙ ap (λ d. d * k.total) h.0)))
    pair_passes (Violated den parts weights) h = subst (λ (d : ℕ). EvidenceFailsOf k (Violated d parts weights) (Ok tt)) (sym h.0)
        (subst (λ (ps : List Share). EvidenceFailsOf k (Violated pair.den ps weights) (Ok tt)) (sym h.1)
        (subst (λ (ws : List ℕ). EvidenceFailsOf k (Violated pair.den (shares_of kinds pair.y) ws) (Ok tt)) (sym h.2)
        (violation_passes (λ e. h.3 (ap weight_of h.1 ∙ e ∙ ap (λ d. d * k.total) (sym h.0))))))
    pair_passes (Wide step) h = absurd h

  module _ (within : IsWithinLimits (mixture_program k kinds)) where
    made_passes : (outcome : Outcome) (part : RandomPart) → IsOutcome (mixture_program k kinds) outcome → IsOutcomeVerdict k kinds outcome part → EvidenceFailsOf k part (Ok tt)
    made_passes (Optimal pair) part run made = pair_passes pair (outcome_shows (mixture_program k kinds) (Optimal pair) within run).0 part made
    made_passes (PassedWidth step) part run made = subst (λ (q : RandomPart). EvidenceFailsOf k q (Ok tt)) (sym made) tt
    made_passes (Unbounded den point ray) part run made = absurd made

    pub verdict_passes : (part : RandomPart) → IsRunVerdict k kinds part → EvidenceFailsOf k part (Ok tt)
    verdict_passes part verdict = made_passes verdict.outcome part verdict.run verdict.made
