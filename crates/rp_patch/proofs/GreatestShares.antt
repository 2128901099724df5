-- The share that evidence on random choices shows is the greatest rational share: a mixture has all of the total, which
-- no partial mixture passes, and of a violation the parts have the most.
use Rattle.std.proofs.Common.{◌<◌, ◌*◌, ℕ, zero, suc, List, refl, arith}
use Rattle.std.proofs.Math.Nat.{mul-le-mul_right}
use Rattle.rp_evidence.specs.declared.random.RandomPart.{RandomPart}
use Rattle.rp_evidence.specs.declared.random.RandomPart.TheVariants.{Mixture, Violated, Wide}
use Rattle.rp_evidence.specs.declared.random.Share.{Share}
use Rattle.rp_patch.specs.Kinds.{IsPartialMixtureOf, weight_of}
use Rattle.rp_patch.specs.Mixtures.{IsGreatestShare, IsMixture, types_on}
use Rattle.rp_patch.specs.Patches.{IsPatchList, PatchList}
use Rattle.rp_patch.specs.RandomEvidence.{ProvesNoMixture, ProvesRandom, ShowsShare}
use Rattle.rp_patch.proofs.KindWeights.{at_most_all, mixture_total}
use Rattle.rp_patch.proofs.TypeKinds.{are_whole}

positive : (a b : ℕ) → 0 < a → 0 < b → 0 < a * b
positive zero b h k = absurd (omega (arith, h))
positive (suc a) b h k = omega (arith, k)

module _ (p : PatchList) (is : IsPatchList p) where
  of_mixture : (den : ℕ) (parts : List Share) → IsMixture p den parts → IsGreatestShare p 1 1
  of_mixture den parts mixture =
      let all = mixture_total (types_on p) (are_whole p is) den parts mixture in
      let partial : IsPartialMixtureOf (types_on p) den parts = record { fraction = mixture.fraction; kinds = mixture.kinds; within = λ i l. omega (arith, mixture.exact i l) } in
      record {
        fraction = omega arith;
        reached = (den, parts, partial, omega (arith, all));
        no_greater = λ d other others. let most = at_most_all (types_on p) (are_whole p is) d other others in omega (arith, most);
      }

  of_violation : (den : ℕ) (parts : List Share) (weights : List ℕ) → ProvesNoMixture p den parts weights → IsGreatestShare p (weight_of parts) (den * p.total)
  of_violation den parts weights proves = record {
    fraction = positive den p.total proves.partial.fraction (omega (arith, is.some_units));
    reached = (den, parts, proves.partial, refl);
    no_greater = λ d other others. let more = mul-le-mul_right p.total (proves.greatest d other others) in omega (arith, more);
  }

  pub shows_share : (total : ℕ) (part : RandomPart) → ProvesRandom p total part → ShowsShare p part
  shows_share total (Mixture den parts) proves = of_mixture den parts proves.1
  shows_share total (Violated den parts weights) proves = of_violation den parts weights proves.1
  shows_share total (Wide step) proves = tt
