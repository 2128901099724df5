-- What is given for random choices fits.
use Rattle.std.proofs.Common.{◌≡◌, ◌<◌, ◌^◌, ℕ, zero, suc, ℤ, List, [], ◌∷◌, All, Contains, arith, subst, sym, get_or, slice_index}
use Rattle.std.proofs.lemmas.List.{get_or_default}
use Rattle.std.proofs.lemmas.List.Elements.{Contains-get_or}
use Rattle.std.specs.Int.RustNames.{unsigned_abs}
use Rattle.rp_find_mixture.specs.MixtureVerdict.{IsOutcomeVerdict, shares_of}
use Rattle.rp_evidence.specs.declared.random.RandomPart.{RandomPart}
use Rattle.rp_evidence.specs.declared.random.RandomPart.TheVariants.{Mixture, Violated, Wide}
use Rattle.rp_evidence.specs.declared.random.Share.{Share}
use Rattle.rp_farkas.specs.Limits.{FitsEvidence}
use Rattle.rp_farkas.specs.LinearProgram.{LinearProgram}
use Rattle.rp_farkas.specs.declared.entry.Entry.{Entry}
use Rattle.rp_farkas.specs.declared.entry.Pair.{Pair}
use Rattle.rp_json_entries.specs.Reading.{FitObservations, FitsLong}
use Rattle.rp_json_programs.specs.Limits.{FitsRandom, FitsShare}
use Rattle.rp_json_entries.proofs.ListLemmas.{all_rest}
use Rattle.rp_patch.specs.Mixtures.{random_program, types_on}
use Rattle.rp_patch.specs.Patches.{IsPatchList, PatchList}
use Rattle.rp_patch.specs.RandomEvidence.{ProvesRandom}
use Rattle.rp_patch.specs.Types.{IsRationalType, IsType}
use Rattle.rp_random.specs.RandomVerdict.{IsRandomVerdict}
use Rattle.rp_simplex.specs.Outcome.{EndsOptimal, IsOutcome}
use Rattle.rp_simplex.specs.declared.outcome.Outcome.{Outcome}
use Rattle.rp_simplex.specs.declared.outcome.Outcome.TheVariants.{Optimal, Unbounded, Wide as PassedWidth}

-- ---- the pair at which a run ends

module _ (p : LinearProgram) (pair : Pair) (ends : EndsOptimal p pair) where
  den_fits : FitsLong pair.den
  den_fits = omega (arith, ends.den, ends.within.den_fits)

  price_fits : (s : ℕ) → s < p.rows → slice_index pair.x s < 2 ^ 63
  price_fits s s_in =
      subst (λ (z : ℤ). FitsEvidence (unsigned_abs z)) (sym (ends.x_at s s_in)) (ends.within.entries_fit p.rows (suc s) (omega arith) (omega (arith, s_in)))

  prices_fit : All FitsLong pair.x
  prices_fit k d within = omega (arith, price_fits k (omega (arith, within, ends.x_length)), get_or_default pair.x k d 0 within)

-- ---- the parts of a mixture

patches_fit : (p : PatchList) (type : List ℕ) → IsPatchList p → IsType p type → FitObservations type
patches_fit p type valid is k d within =
    omega (arith, valid.few_patches, is.patch k (omega (arith, within, is.one_each)), get_or_default type k d 0 within)

-- the weights are those of the entries
weights_fit : (types : List (List ℕ)) (entries : List Entry) → All (λ e. FitsEvidence e.value) entries → All (λ part. FitsLong part.weight) (shares_of types entries)
weights_fit types [] all k d within = absurd (omega (arith, within))
weights_fit types (e ∷ es) all zero d within = omega (arith, all 0 e (omega arith))
weights_fit types (e ∷ es) all (suc k) d within = weights_fit types es (all_rest (λ e. FitsEvidence e.value) e es all) k d (omega (arith, within))

module _ (p : PatchList) (types : List (List ℕ)) (valid : IsPatchList p) where
  total_fits : FitsLong p.total
  total_fits = omega (arith, valid.few_units)

  shares_fit : (pair : Pair) (parts : List Share) → EndsOptimal (random_program p types) pair → parts ≡ shares_of types pair.y
      → ((part : Share) → Contains parts part → IsRationalType p part.patches) → All FitsShare parts
  shares_fit pair parts ends are rational k d within = (
    patches_fit p (get_or parts k d).patches valid (rational (get_or parts k d) (Contains-get_or parts k d within)).0,
    subst (All (λ part. FitsLong part.weight)) (sym are) (weights_fit types pair.y ends.y_listed.fitting) k d within,
  )

  pub random_fits : (part : RandomPart) → ProvesRandom p p.total part → IsRandomVerdict p types part → FitsRandom p.total part
  random_fits part proves given = go given.outcome part given.run given.made proves
    where
      go : (outcome : Outcome) (part : RandomPart) → IsOutcome (random_program p types) outcome → IsOutcomeVerdict (types_on p) types outcome part → ProvesRandom p p.total part → FitsRandom p.total part
      go (Optimal pair) (Mixture den parts) ends (den_is, are, whole) (total, mixture) = (
        subst FitsLong (sym den_is) (den_fits (random_program p types) pair ends),
        shares_fit pair parts ends are mixture.kinds,
        total_fits,
      )
      go (Optimal pair) (Violated den parts weights) ends (den_is, are, weights_are, less) (total, none) = (
        subst FitsLong (sym den_is) (den_fits (random_program p types) pair ends),
        shares_fit pair parts ends are none.partial.kinds,
        total_fits,
        subst (All FitsLong) (sym weights_are) (prices_fit (random_program p types) pair ends),
      )
      go (Optimal pair) (Wide step) ends made proves = absurd made
      go (Unbounded den point ray) part ends made proves = absurd made
      go (PassedWidth step) part passes made proves = subst (FitsRandom p.total) (sym made) (total_fits, omega (arith, passes.step_is))
