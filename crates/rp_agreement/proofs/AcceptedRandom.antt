-- What is given for random choices passes: what the run of the program of random utility ends with (McFadden and Richter 1990).
use Rattle.std.proofs.Common.{◌≤◌, ℕ, zero, suc, pos, Bool, true, false, List, [], ◌∷◌, Ok, length, slice_index_or, refl, arith, if◌then◌else◌}
use Rattle.std.proofs.lemmas.Int.{ints}
use Rattle.std.specs.Int.RustNames.{unsigned_abs}
use Rattle.rp_find_mixture.proofs.PassedParts.{verdict_passes}
use Rattle.rp_check.specs.RandomCheckVerdict.{IsRandomCheckVerdict}
use Rattle.rp_check.specs.declared.verdict.Verdict.TheVariants.{Accepted}
use Rattle.rp_evidence.specs.declared.certificate.Item.TheVariants.{Random as RandomItem}
use Rattle.rp_evidence.specs.declared.random.RandomPart.{RandomPart}
use Rattle.rp_farkas.specs.Limits.{IsWithinLimits, largest_entry}
use Rattle.rp_patch.specs.Kinds.{uses}
use Rattle.rp_patch.specs.Mixtures.{random_program, types_on}
use Rattle.rp_patch.specs.Patches.{IsPatchList, PatchList}
use Rattle.rp_patch.specs.RandomFailure.{RandomFails}
use Rattle.rp_patch.specs.Types.{AreRationalTypes}
use Rattle.rp_patch.proofs.TypeKinds.{are_whole}
use Rattle.rp_random.specs.RandomVerdict.{IsRandomVerdict}
use Rattle.rp_limits.specs.declared.patch.TheConstants.{PATCHES}
use Rattle.rp_limits.specs.declared.types.TheConstants.{TYPES}

one_or_none : (b : Bool) → unsigned_abs (if b then pos 1 else pos 0) ≤ largest_entry
one_or_none true = omega arith
one_or_none false = omega arith

module _ (p : PatchList) (is : IsPatchList p) (few_patches : length p.patches ≤ PATCHES) (types : List (List ℕ)) (few : length types ≤ TYPES) (all : AreRationalTypes p types) where
  within_limits : IsWithinLimits (random_program p types)
  within_limits = record {
    rows_at_most = omega (arith, few_patches);
    cols_at_most = omega (arith, few);
    a_bounded = λ i j i_in j_in. one_or_none (uses (slice_index_or types j []) i);
    b_bounded = λ i i_in. omega (arith, ints, is.units_within i i_in, is.few_units);
    c_bounded = λ j j_in. omega arith;
    b_not_negative = λ i i_in. omega (arith, ints);
  }

  pub random_passes : (part : RandomPart) → IsRandomVerdict p types part → RandomFails p p.total part (Ok tt)
  random_passes part verdict = (refl, (verdict_passes (types_on p) (are_whole p is) (λ type rational. rational.0) types all within_limits part verdict, tt))

  pub random_certificate_passes : (part : RandomPart) → IsRandomVerdict p types part → IsRandomCheckVerdict p (RandomItem p.total part ∷ []) Accepted
  random_certificate_passes part verdict zero within other = random_passes part verdict
  random_certificate_passes part verdict (suc k) within other = absurd (omega (arith, within))
