-- Evidence on a mixture of kinds that is found nothing wrong with proves its verdict (McFadden and Richter 1990): the
-- weights of the cells bound every partial mixture.
use Rattle.std.proofs.Common.{ℕ, List, [], Contains, Ok, subst, sym, ◌∙◌}
use Rattle.std.proofs.lemmas.List.{get_or_default}
use Rattle.rp_evidence.specs.declared.random.Share.{Share}
use Rattle.rp_patch.specs.KindFailure.{MixtureFailsOf, PartsFailOf, ViolationFailsOf}
use Rattle.rp_patch.specs.Kinds.{AreWhole, IsMixtureOf, Kinds, ProvesNoMixtureOf}
use Rattle.rp_patch.proofs.KindWeights.{is_greatest, none_makes}

module _ (k : Kinds) where
  all_kinds : (parts : List Share) → PartsFailOf k parts (Ok tt) → (share : Share) → Contains parts share → k.IsKind share.patches
  all_kinds parts found share given =
      let none : Share = record { patches = []; weight = 0 } in
      subst (λ (q : Share). k.IsKind q.patches) (sym (get_or_default parts given.0 share none given.1) ∙ given.2) (found given.0 given.1).1.1.0

  pub mixture_sound : (den : ℕ) (parts : List Share) → MixtureFailsOf k den parts (Ok tt) → IsMixtureOf k den parts
  mixture_sound den parts (numbers, (kinds, (exact, end))) = record {
    fraction = numbers.fraction;
    kinds = all_kinds parts kinds;
    exact = exact;
  }

  pub violation_sound : AreWhole k → (den : ℕ) (parts : List Share) (weights : List ℕ) → ViolationFailsOf k den parts weights (Ok tt)
      → ProvesNoMixtureOf k den parts weights
  violation_sound is den parts weights (numbers, (kinds, (one_each, (within, (heavy, (equal, (less, end))))))) = record {
    none = none_makes k is den weights heavy parts equal less;
    partial = record {
      fraction = numbers.fraction;
      kinds = all_kinds parts kinds;
      within = within;
    };
    greatest = is_greatest k is den weights heavy parts equal;
    one_each = one_each;
    weighs = heavy;
  }
