use Rattle.std.proofs.Common.{List, ℕ, ◌++◌, ◌∷◌, [], refl, slice_index, subst, sym}
use Rattle.std.proofs.lemmas.Bool.{false≢true}
use Rattle.rp_patch.specs.PartialTypes.{Begins}
use Rattle.rp_check_mixture.proofs.TypeLemmas.{begins_so_far}
use Rattle.rp_check_mixture.proofs.types.is_rational.Goals as goal

pub returns-in-None : goal.returns-in-None
returns-in-None c =
    let numbers = c.args.numbers.now in (
      λ h. absurd (false≢true h),
      λ h. absurd (c.in-None.ensures.excluded numbers h
          (subst (λ (front : List ℕ). Begins numbers (front ++ slice_index numbers c.loop-i.i-index ∷ [])) (sym c.loop-i.invariant.2) (begins_so_far numbers c.loop-i.i-index (slice_index numbers c.loop-i.i-index) c.loop-i-test.true refl))),
    )
